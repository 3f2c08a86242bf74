use Rattle.std.proofs.Common.{◌≡◌, ◌/◌, arith}
use Rattle.replies.proofs.Slices.{wrote_none}
use Rattle.replies.proofs.Digits.{power_at, room, digit_more, digit_none, digit_last}
use Rattle.replies.proofs.put_number.Goals as goal
use Rattle.replies.proofs.put_number.Goals.{then-power-n, else-power-n}

pub loop-power-init : goal.loop-power-init
loop-power-init c =
    let z : c.args.n / 100000 ≡ 0 = omega arith in
    record { left = omega arith; wrote = rw z (wrote_none c.args.at c.args.out.now) }

pub bounds-out-next : goal.bounds-out-next
bounds-out-next c = room c.args.at c.args.n c.args.out.now c.loop-power.power-index c.loop-power.rest c.loop-power.next c.loop-power.out c.requires c.loop-power.auto.out (omega arith) c.loop-power.invariant

pub loop-power-preserved : goal.loop-power-preserved
loop-power-preserved c =
    let p = power_at c.loop-power.power-index c.loop-power-test.true in
    elim c.if-power-n.branch [
      | then-power-n w ↦ rw (w.out-is, w.next-is, w.rest-is) (digit_more c.args.at c.args.n c.args.out.now c.loop-power.power-index c.loop-power.rest c.loop-power.next c.loop-power.out c.requires c.loop-power.auto.out (omega arith) c.loop-power.invariant _ p w.if-power-n.true)
      | else-power-n w ↦ rw (w.out-is, w.next-is, w.rest-is) (digit_none c.args.at c.args.n c.args.out.now c.loop-power.power-index c.loop-power.rest c.loop-power.next c.loop-power.out c.requires c.loop-power.auto.out (omega arith) c.loop-power.invariant _ p w.if-power-n.false)
    ]

pub bounds-out-next-2 : goal.bounds-out-next-2
bounds-out-next-2 c = room c.args.at c.args.n c.args.out.now c.loop-power.power-index c.loop-power.rest c.loop-power.next c.loop-power.out c.requires c.loop-power.auto.out (omega arith) c.loop-power.invariant

pub returns : goal.returns
returns c = digit_last c.args.at c.args.n c.args.out.now c.loop-power.power-index c.loop-power.rest c.loop-power.next c.loop-power.out c.requires c.loop-power.auto.out (omega arith) c.loop-power.invariant (omega arith)
