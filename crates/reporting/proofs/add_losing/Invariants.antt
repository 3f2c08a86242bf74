use Rattle.std.proofs.Common.{◌≡◌, ◌-◌}
use Rattle.reporting.specs.Reporting.{losing, raised}
use Rattle.reporting.proofs.add_losing.Given as goal

abbrev pub invariant-loop-d : goal.invariant-loop-d
invariant-loop-d l =
    (l.two ≡ raised (losing l.marks1 l.marks2 l.marks3 2) l.initial.two (l.d - 1)) × (l.three ≡ raised (losing l.marks1 l.marks2 l.marks3 3) l.initial.three (l.d - 1))
