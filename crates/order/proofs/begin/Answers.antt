use Rattle.std.proofs.Common.{ℕ, ◌+◌, ◌++◌, length, drop, ◌≡◌, ap, ◌∙◌, arith}
use Rattle.order.proofs.Insertion.{first_placed, without_room}
use Rattle.order.proofs.begin.Goals as goal

pub returns-then-order-len : goal.returns-then-order-len
returns-then-order-len c = without_room c.args.ear.now c.args.order.now 0 c.if-order-len.true

pub returns : goal.returns
returns c =
    first_placed c.args.order.now c.args.ear.now c.if-order-len.false
    (c.write_at.ensures ∙ ap (λ (k : ℕ). c.args.ear.now ++ drop k c.args.order.now) (let z : 0 + length c.args.ear.now ≡ length c.args.ear.now = omega arith in z))
