use Rattle.std.proofs.Common.{◌≡◌}
use Rattle.mondschein.specs.Network.{at}
use Rattle.rows.specs.Rows.{assigned}
use Rattle.augmenting.proofs.invert.Given as goal

abbrev pub invariant-loop-u : goal.invariant-loop-u
invariant-loop-u l = l.previous ≡ assigned l.initial.previous (at l.next) (λ u'. u') l.u
