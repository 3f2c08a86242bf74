-- Document 02, Note 3: a born switch between the ends (14) is told before a used link (11). The order of checks before the note, and which
-- answers it changed; whether an ear is accepted it did not change. Proofs: proofs/CheckOrder.antt.
use Rattle.std.specs.Prelude.{◌≡◌, ◌⊎◌, ◌↔◌, Bool, true, false, cond, List, [], ◌∷◌, ℕ, suc, pred, ◌≤◌, ◌<◌, eqb, length}
use Rattle.mondschein.specs.Network.{low, Network, at, link_of, Ears, born, used, new_count}
use Rattle.mondschein.specs.Judge.{Answer, given, refused, used_already, unborn_end, born_between, verdict_by, verdict, Accepted}
use Rattle.mondschein.specs.EmptyEar.{is_empty, answer_to}

-- the order before the note: that of the numbers (document 01)
abbrev pub old_check_order : List ℕ
old_check_order = 7 ∷ 8 ∷ 9 ∷ 10 ∷ 11 ∷ 12 ∷ 13 ∷ 14 ∷ 15 ∷ 16 ∷ []

-- only 14 moved, whatever is born and used: an ear with no born switch between its ends is answered as before, and the order decides which
-- refusal is told, not whether there is one
pub record OnlyMoved (net : Network) (is_born is_used : ℕ → Bool) (is_first : Bool) (e : List ℕ) : Type 0 where
  pub none_between : ((k : ℕ) → k < length e → born_between is_born is_first e k ≡ false) → verdict net is_born is_used is_first e ≡ verdict_by old_check_order net is_born is_used is_first e
  pub accepts : (vs : List ℕ) → (verdict net is_born is_used is_first e ≡ given vs) ↔ (verdict_by old_check_order net is_born is_used is_first e ≡ given vs)

-- offering the ear e after the accepted ears es
module _ (net : Network) (es : Ears) (e : List ℕ) where
  -- what it was answered before the note
  unfoldable pub old_answer_to : Answer
  old_answer_to = cond (is_empty (eqb (length es) 0) e) (given (0 ∷ [])) (verdict_by old_check_order net (born es) (used net es) (eqb (length es) 0) e)

  -- a later ear that passes 7 to 10
  abbrev pub LaterPast10 : Type 0
  LaterPast10 = (0 < length es) × (verdict_by (7 ∷ 8 ∷ 9 ∷ 10 ∷ []) net (born es) (used net es) false e ≡ given (new_count false (length e) ∷ []))

  -- one of its links is used
  abbrev pub UsedLink : Type 0
  UsedLink = (k : ℕ) × (suc k < length e) × (used net es (link_of net (at e k) (at e (suc k))) ≡ true)

  -- an end is unborn
  abbrev pub UnbornEnd : Type 0
  UnbornEnd = (born es (at e 0) ≡ false) ⊎ (born es (at e (pred (length e))) ≡ false)

  -- a switch between the ends is born
  abbrev pub BornBetween : Type 0
  BornBetween = (k : ℕ) × (0 < k) × (suc k < length e) × (born es (at e k) ≡ true)

  -- the two cases of the note
  abbrev pub UsedLinkCase : Type 0
  UsedLinkCase = LaterPast10 × (3 ≤ length e) × UsedLink

  abbrev pub UnbornEndCase : Type 0
  UnbornEndCase = LaterPast10 × UnbornEnd × BornBetween × (UsedLink → ⊥)

  -- the places of the first used link, unborn end, and born switch between the ends
  abbrev pub first_used : ℕ
  first_used = low (used_already net (used net es) e) (pred (length e))

  abbrev pub first_unborn : ℕ
  first_unborn = low (unborn_end (born es) false e) (length e)

  abbrev pub first_born : ℕ
  first_born = low (born_between (born es) false e) (length e)

  -- the answer `new` differs from the old one in these two cases and no other, and 11 is given for ears of two numbers only
  pub record ChangedAnswers (new : Answer) : Type 0 where
    pub from11 : UsedLinkCase → (old_answer_to ≡ refused 11 first_used) × (new ≡ refused 14 first_born)
    pub from13 : UnbornEndCase → (old_answer_to ≡ refused 13 first_unborn) × (new ≡ refused 14 first_born)
    pub others : (UsedLinkCase → ⊥) → (UnbornEndCase → ⊥) → new ≡ old_answer_to
    pub only11 : (place : ℕ) → new ≡ refused 11 place → length e ≡ 2

abbrev pub AnswersChanged : Type 0
AnswersChanged = (net : Network) (es : Ears) (e : List ℕ) → Accepted net es → ChangedAnswers net es e (answer_to net es e)
