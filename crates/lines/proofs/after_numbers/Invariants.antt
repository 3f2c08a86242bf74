use Rattle.std.proofs.Common.{◌≡◌, length}
use Rattle.lines.specs.Reading.{ends, ear_numbers}
use Rattle.lines.proofs.after_numbers.Given as goal

abbrev pub invariant-loop-next : goal.invariant-loop-next
invariant-loop-next l = ends (ear_numbers l.bytes).rest ≡ ends (ear_numbers l.rest).rest

abbrev pub decreases-loop-next : goal.decreases-loop-next
decreases-loop-next l = length l.rest
