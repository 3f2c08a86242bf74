use Rattle.shape.specs.Shape.{MarksOf}
use Rattle.shape.proofs.mark_all.Given as goal

abbrev pub invariant-loop-x : goal.invariant-loop-x
invariant-loop-x l = MarksOf l.ear l.x-index l.marks
