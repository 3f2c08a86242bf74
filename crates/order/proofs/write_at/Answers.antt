use Rattle.std.proofs.Common.{ℕ, ◌+◌, List, get_or, set, refl, ap, ◌∙◌}
use Rattle.order.proofs.Writing.{paste_more}
use Rattle.order.proofs.write_at.Goals as goal

pub loop-k-preserved : goal.loop-k-preserved
loop-k-preserved c =
    ap (λ (t : List ℕ). set t (c.args.at + c.loop-k.k) (get_or c.args.part.now c.loop-k.k 0)) c.loop-k.invariant
    ∙ paste_more c.args.order.now c.args.at c.args.part.now c.loop-k.k _ refl c.requires c.loop-k-test.true
