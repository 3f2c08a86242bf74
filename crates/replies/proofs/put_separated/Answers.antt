use Rattle.std.proofs.Common.{arith}
use Rattle.std.proofs.lemmas.List.{nil_from_length}
use Rattle.lines.specs.Writing.{decimal, separated}
use Rattle.replies.proofs.Slices.{wrote_none, wrote_more, short_at}
use Rattle.replies.proofs.put_separated.Goals as goal

pub returns-in_default : goal.returns-in_default
unfolding separated
returns-in_default c =
    (rw (nil_from_length c.args.numbers.now c.in_default.ensures.cases) (wrote_none c.args.at c.args.out.now), omega arith)

pub put_number-next-requires : goal.put_number-next-requires
put_number-next-requires c =
    let short = rw c.in-Some.ensures.cases.0 at (short_at c.args.numbers.now c.type_inv.numbers 0) in
    omega (arith, c.in-Some.ensures.cases.1)

pub put_spaced-requires : goal.put_spaced-requires
put_spaced-requires c =
    let short = rw c.in-Some.ensures.cases.0 at (short_at c.args.numbers.now c.type_inv.numbers 0) in
    omega (arith, c.in-Some.ensures.cases.1)

pub returns : goal.returns
unfolding separated
returns c =
    let short = rw c.in-Some.ensures.cases.0 at (short_at c.args.numbers.now c.type_inv.numbers 0) in (
      rw c.in-Some.ensures.cases.0 (wrote_more c.args.at (decimal c.in-Some.first.now) c.args.out.now _ _ (omega arith) c.put_number-next.ensures _ _ _ c.put_spaced.ensures.0),
      omega (arith, c.in-Some.ensures.cases.1),
    )
