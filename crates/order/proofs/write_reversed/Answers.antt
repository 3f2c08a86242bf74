use Rattle.std.proofs.Common.{ℕ, ◌+◌, ◌-◌, List, reverse, length, get_or, set, ap, ◌∙◌, arith}
use Rattle.std.proofs.lemmas.List.{length-reverse}
use Rattle.order.proofs.Writing.{reversed_at, paste_more}
use Rattle.order.proofs.write_reversed.Goals as goal

pub loop-k-preserved : goal.loop-k-preserved
loop-k-preserved c =
    ap (λ (t : List ℕ). set t (c.args.at + c.loop-k.k) (get_or c.args.part.now (length c.args.part.now - 1 - c.loop-k.k) 0)) c.loop-k.invariant
    ∙ paste_more c.args.order.now c.args.at (reverse c.args.part.now) c.loop-k.k _ (reversed_at c.args.part.now _ c.loop-k-test.true)
    (omega (arith, length-reverse c.args.part.now)) (omega (arith, length-reverse c.args.part.now))
