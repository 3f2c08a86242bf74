use Rattle.std.proofs.Common.{◌≡◌, suc, ◌+◌}
use Rattle.mondschein.specs.Network.{at}
use Rattle.rows.specs.Rows.{assigned}
use Rattle.tables.proofs.set_neighbours.Given as goal

abbrev pub invariant-loop-k : goal.invariant-loop-k
invariant-loop-k l = l.row ≡ assigned l.initial.row (λ j. at l.ear (suc j)) (λ j. at l.ear (j + l.d)) l.k
