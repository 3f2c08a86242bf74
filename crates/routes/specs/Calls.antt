-- The call of document 02, Note 8, which only reads a session: what it replies and leaves of the slice, for any session and any arguments;
-- and the equation of the same call in place.
use Rattle.std.specs.Prelude.{◌≡◌, List, ℕ, min, ◌*◌, take, Result}
use Rattle.mondschein.specs.Network.{Network}
use Rattle.in_place.specs.declared.State.{State}
use Rattle.in_place.specs.declared.Session.{Session}
use Rattle.in_place.specs.Session.{by_stage}
use Rattle.in_place.specs.InPlace.{session_in}
use Rattle.disjoint.specs.Matching.{unnamed}
use Rattle.disjoint.specs.Replies.{Told, refusing, routes_into}
use Rattle.refusals.specs.declared.Refusal.{Refusal}
use Rattle.routing.specs.declared.Routes.{Routes}
use Rattle.routing.specs.Answers.{told_by}

-- n switches, no more than the limit of N, and the m links at the start of an array
abbrev pub links_as : ℕ → ℕ → List ℕ → Network
links_as n m links = unnamed (min n 1024) (take (2 * m) links)

-- from switch a to switch b, with the slice `out`: 19 on an empty session; open or closed, 26, 18 and the answer
unfoldable pub between_by : Session → ℕ → ℕ → List ℕ → Told
between_by s a b out = let told = routes_into (links_as s.n s.m s.links) a b out in by_stage s.stage (refusing 19 out) told told

-- the call in place, whatever the arrays beside the links hold
abbrev pub BetweenIn : State → List ℕ → ℕ → ℕ → List ℕ → Result Routes Refusal → List ℕ → Type 0
BetweenIn st links a b out r out' =
    (ducts used births order tree1 tree2 tree3 : List ℕ) → told_by r out' ≡ between_by (session_in st links ducts used births order tree1 tree2 tree3) a b out
