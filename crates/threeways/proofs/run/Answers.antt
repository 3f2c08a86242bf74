use Rattle.std.proofs.Common.{take, rules}
use Rattle.dialogue.proofs.Inputs.{led_block, led_over}
use Rattle.blocks.specs.Running.{EndsWith}
use Rattle.threeways.proofs.run.Goals as goal

pub returns-in-Err : goal.returns-in-Err
unfolding EndsWith
returns-in-Err c = tt

pub returns-then-over : goal.returns-then-over
unfolding EndsWith
returns-then-over c =
    led_over (led_block c.loop-turn.invariant.led (take c.in-Some.n c.read_block.new.block) c.in-Ok.known _ _ _ _ c.in-Ok.ensures.takes) c.over.result c.over.ensures c.if-over.true

pub loop-turn-preserved : goal.loop-turn-preserved
loop-turn-preserved c = record {
  led = led_block c.loop-turn.invariant.led (take c.in-Some.n c.read_block.new.block) c.in-Ok.known _ _ _ _ c.in-Ok.ensures.takes;
  lent = search rules;
  indexed = c.take_block.ensures.keeps.1;
}

pub returns-in_default : goal.returns-in_default
unfolding EndsWith
returns-in_default c = c.loop-turn.invariant.led

pub returns-after-loop-turn : goal.returns-after-loop-turn
unfolding EndsWith
returns-after-loop-turn c = c.loop-turn.invariant.led
