use Rattle.std.proofs.Common.{arith}
use Rattle.judge.proofs.Answers.{later_13, later_15, later_16, later_given}
use Rattle.judge.proofs.check_later.Goals as goal

pub returns-in-Some : goal.returns-in-Some
returns-in-Some c =
    later_13 c.args.n c.args.links.now c.args.root c.args.last c.args.births.now c.args.ear.now c.in-Some.ensures.lowest c.in-Some.ensures.within

pub returns-in-Some-last_too_early : goal.returns-in-Some-last_too_early
returns-in-Some-last_too_early c =
    later_15 c.args.n c.args.links.now c.args.root c.args.last c.args.births.now c.args.ear.now c.in_default.ensures.lowest (omega arith)
    c.in-Some-last_too_early.ensures.lowest c.in-Some-last_too_early.ensures.within

pub returns-in-Some-first_cut_off : goal.returns-in-Some-first_cut_off
returns-in-Some-first_cut_off c =
    later_16 c.args.n c.args.links.now c.args.root c.args.last c.args.births.now c.args.ear.now c.in_default.ensures.lowest (omega arith)
    c.in_default-last_too_early.ensures.lowest (omega arith) c.in-Some-first_cut_off.ensures.lowest c.in-Some-first_cut_off.ensures.within

pub returns : goal.returns
returns c =
    later_given c.args.n c.args.links.now c.args.root c.args.last c.args.births.now c.args.ear.now c.in_default.ensures.lowest (omega arith)
    c.in_default-last_too_early.ensures.lowest (omega arith) c.in_default-first_cut_off.ensures.lowest (omega arith)
