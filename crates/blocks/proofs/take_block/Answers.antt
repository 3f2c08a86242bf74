use Rattle.std.proofs.Common.{rules}
use Rattle.dialogue.proofs.Blocks.{stands_lines}
use Rattle.blocks.proofs.take_block.Goals as goal

pub loop-from-preserved : goal.loop-from-preserved
loop-from-preserved c = record {
  stands = stands_lines c.loop-from.invariant.stands c.take_lines-taken.result.reader _ _ _ _ c.take_lines-taken.result.next _ c.take_lines-taken.ensures.takes_lines;
  within = c.take_lines-taken.ensures.next_in_bounds.0;
  lent = search rules;
  indexed = c.take_lines-taken.ensures.keeps.2;
}
