-- Document 02, Note 1, the whole list in one call: ears offered one after another, up to the first refusal, for any way of offering one;
-- and the ears of a slice where each is preceded by its count of numbers.
use Rattle.std.specs.Prelude.{◌≡◌, cond, List, [], ◌∷◌, ◌++◌, ℕ, zero, suc, ◌<◌, leb, length, take}
use Rattle.mondschein.specs.Network.{Ears}
use Rattle.mondschein.specs.Judge.{Answer, given, refused}
use Rattle.mondschein.specs.Outcome.{Outcome}

-- what a list of ears is answered: the count of ears accepted where all were; or the count, and the number and the place of the refusal
-- of the ear after them, the place in that ear
abbrev pub all_accepted : ℕ → Answer
all_accepted k = given (k ∷ [])

abbrev pub next_refused : ℕ → ℕ → ℕ → Answer
next_refused k num place = given (k ∷ num ∷ place ∷ [])

-- by an answer: what there is for a grant, and for a refusal by its number and place
abbrev pub by_answer : {A : Type 0} → Answer → A → (ℕ → ℕ → A) → A
by_answer (given vs) a f = a
by_answer (refused num place) a f = f num place

module _ {S : Type 0} (offer : S → List ℕ → Outcome S) where
  -- where k ears are accepted before: the ears one after another, up to the first refusal
  unfoldable pub offering_from : ℕ → S → Ears → Outcome S
  offering_from k s [] = record { answer = all_accepted k; after = s }
  offering_from k s (e ∷ es) =
      by_answer (offer s e).answer (offering_from (suc k) (offer s e).after es) (λ num place. record { answer = next_refused k num place; after = (offer s e).after })

  abbrev pub offering : S → Ears → Outcome S
  offering s es = offering_from 0 s es

  -- the ears that are offered: the accepted ones, and the one that is refused
  unfoldable pub offered : S → Ears → Ears
  offered s [] = []
  offered s (e ∷ es) = by_answer (offer s e).answer (e ∷ offered (offer s e).after es) (λ num place. e ∷ [])

-- the ears of a slice, past its first k numbers. A count that runs past the end is offered as it stands, one number alone: that is 7
unfoldable pub ears_from : ℕ → List ℕ → Ears
ears_from k [] = []
ears_from zero (c ∷ l) = cond (leb c (length l)) (take c l ∷ ears_from c l) ((c ∷ []) ∷ [])
ears_from (suc k) (x ∷ l) = ears_from k l

abbrev pub ears_in : List ℕ → Ears
ears_in l = ears_from 0 l

-- ears in a slice, each preceded by its count
unfoldable pub flat : Ears → List ℕ
flat [] = []
flat (e ∷ es) = length e ∷ (e ++ flat es)

-- whole ears are read back, and after them a count past the end as one number
pub record ReadsEars : Type 0 where
  pub whole : (es : Ears) → ears_in (flat es) ≡ es
  pub past : (es : Ears) (c : ℕ) (l : List ℕ) → length l < c → ears_in (flat es ++ (c ∷ l)) ≡ es ++ ((c ∷ []) ∷ [])
