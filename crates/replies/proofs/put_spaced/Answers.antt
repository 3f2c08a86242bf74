use Rattle.std.proofs.Common.{arith, length-set}
use Rattle.lines.specs.Writing.{spaced}
use Rattle.replies.proofs.Slices.{wrote_none, wrote_one, wrote_number, short_at}
use Rattle.replies.proofs.put_spaced.Goals as goal

pub loop-number-init : goal.loop-number-init
unfolding spaced
loop-number-init c = record { short = omega arith; wrote = wrote_none c.args.at c.args.out.now }

pub put_number-next-requires : goal.put_number-next-requires
put_number-next-requires c =
    omega (arith, length-set c.loop-number.out c.loop-number.next 32, short_at c.args.numbers.now c.type_inv.numbers c.loop-number.number-index)

pub loop-number-preserved : goal.loop-number-preserved
loop-number-preserved c = record {
  short = omega (arith, short_at c.args.numbers.now c.type_inv.numbers c.loop-number.number-index);
  wrote = wrote_number c.args.at c.args.numbers.now c.args.out.now c.loop-number.next c.loop-number.out c.loop-number.number-index _ _ _ _ (omega arith) c.loop-number-test.true c.loop-number.invariant.wrote (wrote_one c.loop-number.next 32 c.loop-number.out (omega arith)) c.put_number-next.ensures;
}
