use Rattle.std.proofs.Common.{◌≡◌, suc}
use Rattle.mondschein.specs.Network.{at, link_of}
use Rattle.network.specs.Load.{table_of}
use Rattle.rows.specs.Rows.{assigned}
use Rattle.tables.proofs.mark_along.Given as goal

abbrev pub invariant-loop-k : goal.invariant-loop-k
invariant-loop-k l = l.used ≡ assigned l.initial.used (λ j. link_of (table_of l.links) (at l.ear j) (at l.ear (suc j))) (λ j. 1) l.k
