use Rattle.std.proofs.Common.{length}
use Rattle.lines.proofs.Steps.{NumbersRead}
use Rattle.lines.proofs.read_numbers.Given as goal

abbrev pub invariant-loop-value : goal.invariant-loop-value
invariant-loop-value l = NumbersRead l.bytes l.initial.numbers l.count l.numbers l.rest

abbrev pub decreases-loop-value : goal.decreases-loop-value
decreases-loop-value l = length l.rest
