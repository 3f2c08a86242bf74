use Rattle.std.proofs.Common.{◌≡◌, Err, true, false, rules}
use Rattle.judge.proofs.Answers.{judged_shape, right_length, judged_place}
use Rattle.rows.specs.Rows.{marked}
use Rattle.judge.proofs.judge.Goals as goal

pub returns-in_err-check_shape : goal.returns-in_err-check_shape
returns-in_err-check_shape c =
    let e : c.from_residual.result ≡ Err c.in_err-check_shape.field-0.0 = search rules in
    rw e (judged_shape _ _ _ _ _ (c.in_err-check_shape.ensures c.args.root c.args.first c.args.last))

pub check_first-requires : goal.check_first-requires
check_first-requires c =
    let l = right_length _ _ _ _ _ (c.in_ok-check_shape.ensures c.args.root c.args.first c.args.last) true c.if-initial.true in
    (l.0, l.1, c.requires)

pub returns-then-initial : goal.returns-then-initial
returns-then-initial c =
    judged_place _ _ _ _ _ (c.in_ok-check_shape.ensures c.args.root c.args.first c.args.last) true c.if-initial.true
    (c.check_first.ensures (marked c.args.used.now))

pub check_later-requires : goal.check_later-requires
check_later-requires c =
    let l = right_length _ _ _ _ _ (c.in_ok-check_shape.ensures c.args.root c.args.first c.args.last) false c.if-initial.false in
    (l.0, l.1, c.requires)

pub returns : goal.returns
returns c =
    judged_place _ _ _ _ _ (c.in_ok-check_shape.ensures c.args.root c.args.first c.args.last) false c.if-initial.false
    (c.check_later.ensures c.args.first (marked c.args.used.now))
