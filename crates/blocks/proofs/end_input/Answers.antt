use Rattle.dialogue.proofs.Inputs.{led_end}
use Rattle.blocks.specs.Running.{EndsWith}
use Rattle.blocks.proofs.end_input.Goals as goal
use Rattle.blocks.proofs.end_input.Goals.{then-write_all, else-write_all}

pub returns : goal.returns
unfolding EndsWith
returns c led =
    elim c.if-write_all.branch [
      | then-write_all w ↦ rw w.end-is (led_end led c.finish-finished.result.reader _ _ _ _ _ c.finish-finished.ensures.finishes)
      | else-write_all w ↦ rw w.end-is tt
    ]
