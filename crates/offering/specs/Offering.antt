-- What the calls that offer ears promise: a list of ears is what its slice holds (Rattle.mondschein.specs.WholeList), and the call's
-- equation with what the list does to a session.
use Rattle.std.specs.Prelude.{◌≡◌, List, ◌∷◌, ℕ, ◌<◌, length, Result, Ok, Err}
use Rattle.mondschein.specs.Judge.{Answer}
use Rattle.mondschein.specs.WholeList.{all_accepted, next_refused, ears_in}
use Rattle.refusals.specs.Refusals.{number, place}
use Rattle.in_place.specs.declared.State.{State}
use Rattle.in_place.specs.Session.{listed_by}
use Rattle.in_place.specs.InPlace.{session_in}
use Rattle.offering.specs.declared.ListRefusal.{ListRefusal}

-- what a list was answered, by Note 1's values
unfoldable pub ears_answer : Result ℕ ListRefusal → Answer
ears_answer (Ok k) = all_accepted k
ears_answer (Err r) = next_refused r.accepted (number r.refusal) (place r.refusal)

-- the first ear of a slice, and what follows it
pub record FirstEar (l ear rest : List ℕ) : Type 0 where
  pub ears : ears_in l ≡ ear ∷ ears_in rest
  pub shorter : length rest < length l

-- a list of ears, whatever the ducts and tree 3 hold
abbrev pub ListsIn : State → List ℕ → List ℕ → List ℕ → List ℕ → List ℕ → List ℕ → List ℕ → Result ℕ ListRefusal → State → List ℕ → List ℕ → List ℕ → List ℕ → List ℕ → Type 0
ListsIn st links used births order tree1 tree2 l r st' used' births' order' tree1' tree2' =
    (ducts tree3 : List ℕ) → record { answer = ears_answer r; after = session_in st' links ducts used' births' order' tree1' tree2' tree3 }
    ≡ listed_by (session_in st links ducts used births order tree1 tree2 tree3) l
