use Rattle.std.proofs.Common.{◌≡◌}
use Rattle.mondschein.specs.Network.{at}
use Rattle.rows.specs.Rows.{assigned}
use Rattle.tables.proofs.set_births.Given as goal

abbrev pub invariant-loop-v : goal.invariant-loop-v
invariant-loop-v l = l.births ≡ assigned l.initial.births (at l.new) (λ j. l.b) l.v-index
