use Rattle.std.proofs.Common.{◌≡◌, ◌-◌}
use Rattle.mondschein.specs.Network.{at}
use Rattle.reporting.specs.Reporting.{marks_after}
use Rattle.reporting.proofs.mark_walk.Given as goal

abbrev pub invariant-loop : goal.invariant-loop
invariant-loop l =
    marks_after l.root (at l.row) (at l.ducts) l.limit l.v l.initial.marks ≡ marks_after l.root (at l.row) (at l.ducts) (l.limit - l.counter) l.x l.marks
