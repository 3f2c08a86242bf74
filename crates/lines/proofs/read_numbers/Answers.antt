use Rattle.std.proofs.Common.{arith}
use Rattle.lines.proofs.Steps.{numbers_more, numbers_all}
use Rattle.lines.proofs.read_numbers.Goals as goal

pub loop-value-preserved : goal.loop-value-preserved
loop-value-preserved c = numbers_more c.loop-value.invariant _ c.in-Some.ensures.value c.in-Some.ensures.shorter c.requires.2 (omega (arith, c.in-Some.ensures.shorter))

pub returns : goal.returns
returns c = numbers_all c.loop-value.invariant c.in_default.ensures.value (omega arith)
