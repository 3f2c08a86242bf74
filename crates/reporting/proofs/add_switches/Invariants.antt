use Rattle.reporting.specs.Reporting.{trees, AddsSwitches}
use Rattle.reporting.proofs.add_switches.Given as goal

abbrev pub invariant-loop-v : goal.invariant-loop-v
invariant-loop-v l =
    AddsSwitches (trees l.n l.root l.row1 l.row2 l.row3 l.ducts1 l.ducts2 l.ducts3) l.top l.v l.initial.two l.initial.three l.two l.three
