use Rattle.std.proofs.Common.{◌≡◌, ◌+◌, ◌-◌, length}
use Rattle.mondschein.specs.Network.{at}
use Rattle.mondschein.specs.Order.{walk_by}
use Rattle.walks.proofs.links_left.Given as goal

abbrev pub invariant-loop-k : goal.invariant-loop-k
invariant-loop-k l = length (walk_by l.root (at l.row) l.limit l.v) ≡ l.k + length (walk_by l.root (at l.row) (l.limit - l.k) l.x)
