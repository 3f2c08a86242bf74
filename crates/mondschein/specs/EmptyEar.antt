-- Document 02, Note 2: an ear with no number, offered after the first ear, takes the leftover links, as short ears in table order.
-- What an offered ear is answered, the ears that it adds to the list, and what holds of them. Proofs: proofs/EmptyEar.antt.
use Rattle.std.specs.Prelude.{◌≡◌, Bool, true, not, ◌&&◌, ◌||◌, cond, ℕ, zero, suc, ◌<◌, eqb, length, take}
use mathlib.Core.List.{List, [], ◌∷◌, ◌++◌, foldl}
use Rattle.mondschein.specs.Network.{Network, size, former, latter, Proper, Ears, ear_at, born, birth, used, long_ears, long_birth}
use Rattle.mondschein.specs.Judge.{Answer, given, verdict, judge, closing, Accepted}
use Rattle.mondschein.specs.Order.{order, Rule, parent1, parent2, parent_of}
use Rattle.mondschein.specs.Mondschein.{Mondschein}

-- where `is_born` are born and `is_used` used
module _ (net : Network) (is_born is_used : ℕ → Bool) where
  -- link l is left over: it is unused, and its two switches are born
  unfoldable pub left_over : ℕ → Bool
  left_over l = not (is_used l) && (is_born (former net l) && is_born (latter net l))

  -- the leftover links below c, in table order, as short ears
  unfoldable pub short_ears : ℕ → Ears
  short_ears zero = []
  short_ears (suc c) = short_ears c ++ cond (left_over c) ((former net c ∷ latter net c ∷ []) ∷ []) []

-- the ear has no number, and is not the first
unfoldable pub is_empty : Bool → List ℕ → Bool
is_empty is_first e = not is_first && eqb (length e) 0

-- what an offered ear is answered: an empty one gives 0, any other is judged
unfoldable pub entering : Network → (ℕ → Bool) → (ℕ → Bool) → Bool → List ℕ → Answer
entering net is_born is_used is_first e = cond (is_empty is_first e) (given (0 ∷ [])) (verdict net is_born is_used is_first e)

-- offering the ear e after the accepted ears es
module _ (net : Network) (es : Ears) (e : List ℕ) where
  unfoldable pub answer_to : Answer
  answer_to = entering net (born es) (used net es) (eqb (length es) 0) e

  -- the ear written out: an empty one as the leftover links, any other as itself
  unfoldable pub written_out : Ears
  written_out = cond (is_empty (eqb (length es) 0) e) (short_ears net (born es) (used net es) (size net)) (e ∷ [])

  -- the list after it
  abbrev pub entered : Ears
  entered = es ++ written_out

-- a list with its empty ears written out
unfoldable pub all_written_out : Network → Ears → Ears
all_written_out net es = foldl (entered net) [] es

-- the long ears of a list, in their order
unfoldable pub long_ones : Ears → Ears
long_ones [] = []
long_ones (e ∷ es) = cond (eqb (length e) 2) (long_ones es) (e ∷ long_ones es)

-- the list ds has the births, the order and trees 1 and 2 of es
pub record Unchanged (net : Network) (es ds : Ears) : Type 0 where
  pub borns : (v : ℕ) → born ds v ≡ born es v
  pub births : (v : ℕ) → born es v ≡ true → birth ds v ≡ birth es v
  pub longs : long_ears ds ≡ long_ears es
  pub long_births : (v : ℕ) → long_birth ds v ≡ long_birth es v
  pub orders : order ds ≡ order es
  pub firsts : (v : ℕ) → born es v ≡ true → parent1 net ds v ≡ parent1 net es v
  pub seconds : (v : ℕ) → born es v ≡ true → parent2 net ds v ≡ parent2 net es v

-- what an empty ear does to an accepted list that has its first ear
pub record TakesLeftOver (net : Network) (es : Ears) : Type 0 where
  -- each of its short ears is accepted in its turn, with no new switch
  pub in_turn : (i : ℕ) → i < length (written_out net es []) → judge net (es ++ take i (written_out net es [])) (ear_at (written_out net es []) i) ≡ given (0 ∷ [])
  -- used after it are the links of before, and those whose two switches are born
  pub takes : (l : ℕ) → l < size net → used net (entered net es []) l ≡ (used net es l || (born es (former net l) && born es (latter net l)))
  pub stays : Unchanged net es (entered net es [])
  -- where every switch is born it leaves no link for 23
  pub closes : ((v : ℕ) → v < net.n → born es v ≡ true) → closing net (used net (entered net es [])) ≡ given []

abbrev pub LeftOver : Type 0
LeftOver = (net : Network) (es : Ears) → Proper net → 0 < length es → Accepted net es → TakesLeftOver net es

-- long ears are enough: those of a Mondschein sequence and then an empty ear, written out, are a Mondschein sequence, with the same order
-- and the same tables
abbrev pub LongEarsEnough : Type 0
LongEarsEnough = (net : Network) (es : Ears) → Proper net → Mondschein net es → let ds = all_written_out net (long_ones es ++ ([] ∷ [])) in
    Mondschein net ds × (order ds ≡ order es) × ((rule : Rule) (t v : ℕ) → v < net.n → parent_of rule net ds t v ≡ parent_of rule net es t v)
