use Rattle.std.proofs.Common.{◌≡◌, ◌++◌, ◌-◌, take}
use Rattle.mondschein.specs.Network.{at}
use Rattle.walks.specs.Walks.{visited}
use Rattle.walks.proofs.write_walk.Given as goal

abbrev pub invariant-loop-place : goal.invariant-loop-place
invariant-loop-place l = take l.place-index l.place-items ++ visited (at l.row) (l.left - l.place-index) l.x ≡ visited (at l.row) l.left l.v
