use Rattle.std.proofs.Common.{◌≡◌, None, arith, rules}
use Rattle.rows.specs.Rows.{marked}
use Rattle.shape.proofs.Between.{part_length}
use Rattle.judge.proofs.Last.{later_absent, later_place}
use Rattle.judge.proofs.last_too_early.Goals as goal

pub returns-in_err-place-clause-lowest : goal.returns-in_err-place-clause-lowest
returns-in_err-place-clause-lowest c =
    let e : c.from_residual.result ≡ None = search rules in
    rw e (later_absent c.args.n c.args.root c.args.last (marked c.args.births.now) c.args.ear.now c.in_err-place.ensures.lowest (omega (arith, part_length c.args.ear.now)))

pub returns-clause-lowest : goal.returns-clause-lowest
returns-clause-lowest c =
    later_place c.args.n c.args.root c.args.last (marked c.args.births.now) c.args.ear.now c.in_ok-place.ensures.lowest _ _
    c.is_early.ensures c.then_some.ensures (omega (arith, part_length c.args.ear.now, c.in_ok-place.ensures.within))
