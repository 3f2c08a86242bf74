-- The calls that only read a session, parent and walk, for any session and any arguments.
-- Both are for closed sessions only.
use Rattle.std.specs.Prelude.{cond, List, [], ◌∷◌, ℕ, pred, eqb}
use Rattle.mondschein.specs.Network.{at}
use Rattle.mondschein.specs.Judge.{Answer, given, refused, check}
use Rattle.mondschein.specs.Order.{walk_by}
use Rattle.mondschein.specs.Outcome.{Outcome, counted, written, unknown}
use Rattle.in_place.specs.declared.Session.{Session}
use Rattle.in_place.specs.Session.{network_in, by_stage}

-- the row of tree t, 1 to 3
abbrev pub row_of : List ℕ → List ℕ → List ℕ → ℕ → List ℕ
row_of tree1 tree2 tree3 t = cond (eqb t 1) tree1 (cond (eqb t 2) tree2 tree3)

unfoldable pub tree_in : Session → ℕ → List ℕ
tree_in s t = row_of s.tree1 s.tree2 s.tree3 t

-- the walk of v by the row of tree t: N - 1 links are enough
unfoldable pub walk_in : Session → ℕ → ℕ → List ℕ
walk_in s t v = walk_by s.root (at (tree_in s t)) (pred s.n) v

-- parent: 19 on an empty session, 21 on an open one, then 17
unfoldable pub parent_by : Session → ℕ → ℕ → Answer
parent_by s v t = by_stage s.stage (refused 19 0) (refused 21 0) (check 17 1 (unknown (network_in s) v t) (given (at (tree_in s t) v ∷ [])))

-- walk, at the start of the slice `out`: 19 on an empty session, 21 on an open one, then 17 and 18
unfoldable pub walked_by : Session → ℕ → ℕ → List ℕ → Outcome (List ℕ)
walked_by s v t out =
    let w = walk_in s t v in
    written w out (by_stage s.stage (refused 19 0) (refused 21 0) (check 17 1 (unknown (network_in s) v t) (counted w out)))
