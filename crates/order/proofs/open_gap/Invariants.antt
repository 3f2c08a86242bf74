use Rattle.std.proofs.Common.{◌≡◌, ◌≤◌}
use Rattle.order.proofs.Writing.{gap}
use Rattle.order.proofs.open_gap.Given as goal

abbrev pub invariant-loop-k : goal.invariant-loop-k
invariant-loop-k l = (l.at ≤ l.k) × (l.k ≤ l.count) × (l.order ≡ gap l.initial.order l.k l.count l.c)
