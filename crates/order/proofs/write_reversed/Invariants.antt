use Rattle.std.proofs.Common.{◌≡◌, reverse}
use Rattle.std.proofs.Math.Seq.{paste}
use Rattle.order.proofs.write_reversed.Given as goal

abbrev pub invariant-loop-k : goal.invariant-loop-k
invariant-loop-k l = l.order ≡ paste l.initial.order l.at (reverse l.part) l.k
