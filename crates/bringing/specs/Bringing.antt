-- Document 02's values and numbers for each answer to bringing over, and what the call in place promises: it is the same call on the session
-- that the lent arrays hold.
use Rattle.std.specs.Prelude.{◌≡◌, List, [], ℕ, Result, ⊤}
use Rattle.mondschein.specs.Judge.{Answer}
use Rattle.refusals.specs.declared.Refusal.{Refusal}
use Rattle.refusals.specs.Refusals.{answer_of}
use Rattle.in_place.specs.declared.State.{State}
use Rattle.in_place.specs.Session.{brought_by}
use Rattle.in_place.specs.InPlace.{session_in}

-- bringing over gives no value
abbrev pub bring_answer : Result ⊤ Refusal → Answer
bring_answer = answer_of (λ _. [])

-- bringing over, whatever the ducts, the used links, the order and trees 1 and 2 hold
abbrev pub BringsIn : State → List ℕ → List ℕ → List ℕ → Result ⊤ Refusal → List ℕ → Type 0
BringsIn st links births tree3 r tree3' =
    (ducts used order tree1 tree2 : List ℕ) → record { answer = bring_answer r; after = session_in st links ducts used births order tree1 tree2 tree3' }
    ≡ brought_by (session_in st links ducts used births order tree1 tree2 tree3)
