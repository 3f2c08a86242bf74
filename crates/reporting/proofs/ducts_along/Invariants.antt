use Rattle.reporting.proofs.Ducts.{Found}
use Rattle.reporting.proofs.ducts_along.Given as goal

abbrev pub invariant-loop-i : goal.invariant-loop-i
invariant-loop-i l = Found l.links l.ducts l.row l.i l.found
