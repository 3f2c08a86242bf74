-- The call of document 02, Note 4, which only reads a session: what it answers and leaves of the slice, for any session and any arguments;
-- and the equation of the same call in place.
use Rattle.std.specs.Prelude.{◌≡◌, List, [], ℕ, length, take, Result, ⊤}
use Rattle.mondschein.specs.Judge.{Answer, refused}
use Rattle.mondschein.specs.Outcome.{Outcome, written}
use Rattle.refusals.specs.declared.Refusal.{Refusal}
use Rattle.refusals.specs.Refusals.{answer_of}
use Rattle.in_place.specs.declared.State.{State}
use Rattle.in_place.specs.declared.Session.{Session}
use Rattle.in_place.specs.Session.{by_stage}
use Rattle.in_place.specs.InPlace.{session_in}
use Rattle.session.specs.Program.{kept_order}
use Rattle.zones.specs.Cut.{birth_in, zones_by}
use Rattle.zones.specs.Sizing.{sizing}

-- document 02's values and numbers for each answer: zones give none
abbrev pub zoned_answer : Result ⊤ Refusal → Answer
zoned_answer = answer_of (λ _. [])

-- the zones of a session by switch number, found from its order and the births of its N switches
unfoldable pub zones_in : Session → ℕ → ℕ → List ℕ
zones_in s n₁ n₂ = let births = take s.n s.births in zones_by (length births) (kept_order s) (birth_in births) n₁ n₂ s.n

-- zones of n₁, n₂ and n₃ switches at the start of the slice `out`: 19 on an empty session, 21 on an open one, then 24 and 18
unfoldable pub zoned_by : Session → ℕ → ℕ → ℕ → List ℕ → Outcome (List ℕ)
zoned_by s n₁ n₂ n₃ out = written (zones_in s n₁ n₂) out (by_stage s.stage (refused 19 0) (refused 21 0) (sizing s.n n₁ n₂ n₃ out))

-- the call in place, whatever the arrays beside births and order hold
abbrev pub ZonesIn : State → List ℕ → List ℕ → ℕ → ℕ → ℕ → List ℕ → Result ⊤ Refusal → List ℕ → Type 0
ZonesIn st births order n₁ n₂ n₃ out r out' =
    (links ducts used tree1 tree2 tree3 : List ℕ)
    → record { answer = zoned_answer r; after = out' } ≡ zoned_by (session_in st links ducts used births order tree1 tree2 tree3) n₁ n₂ n₃ out
