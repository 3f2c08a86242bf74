use Rattle.shape.proofs.Marks.{marks_begin, marks_more}
use Rattle.shape.proofs.mark_all.Goals as goal

pub loop-x-init : goal.loop-x-init
loop-x-init c = marks_begin c.args.ear.now c.args.marks.now c.requires

pub loop-x-preserved : goal.loop-x-preserved
loop-x-preserved c = marks_more c.args.ear.now c.loop-x.x-index c.loop-x.marks c.loop-x.invariant c.mark.ensures
