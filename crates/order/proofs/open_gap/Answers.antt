use Rattle.std.proofs.Common.{List, ℕ, ◌+◌, ◌-◌, arith, set, get_or, ap, ◌∙◌}
use Rattle.order.proofs.Writing.{gap_more}
use Rattle.order.proofs.open_gap.Goals as goal

pub loop-k-preserved : goal.loop-k-preserved
loop-k-preserved c = (
  omega arith,
  omega (arith, c.loop-k.invariant.1),
  ap (λ (l : List ℕ). set l (c.loop-k.k - 1 + c.args.c) (get_or l (c.loop-k.k - 1) 0)) c.loop-k.invariant.2
      ∙ gap_more c.args.order.now c.loop-k.k c.args.count c.args.c (omega arith) c.loop-k.invariant.1 c.requires.1,
)
