use Rattle.std.proofs.Common.{arith}
use Rattle.judge.proofs.Answers.{first_12_root, first_12_first, first_15, first_16, first_given}
use Rattle.judge.proofs.check_first.Goals as goal
use Rattle.judge.proofs.check_first.Goals.{then-ear-root-via-then-ear-root, then-ear-root-via-else-ear-root+then-ear-first}

pub returns-then-ear-root : goal.returns-then-ear-root
returns-then-ear-root c = elim c.then-ear-root.branch [
  | then-ear-root-via-then-ear-root w ↦
      first_12_root c.args.n c.args.links.now c.args.root c.args.first c.args.last c.args.births.now c.args.ear.now w.if-ear-root.true
  | then-ear-root-via-else-ear-root+then-ear-first w ↦
      first_12_first c.args.n c.args.links.now c.args.root c.args.first c.args.last c.args.births.now c.args.ear.now w.if-ear-first.true
]

pub returns-in-Some : goal.returns-in-Some
returns-in-Some c =
    first_15 c.args.n c.args.links.now c.args.root c.args.first c.args.last c.args.births.now c.args.ear.now c.requires.0 c.if-ear-root.false c.if-ear-first.false
    c.in-Some.ensures.lowest c.in-Some.ensures.within

pub returns-in-Some-first_cut_off : goal.returns-in-Some-first_cut_off
returns-in-Some-first_cut_off c =
    first_16 c.args.n c.args.links.now c.args.root c.args.first c.args.last c.args.births.now c.args.ear.now c.requires.0 c.if-ear-root.false c.if-ear-first.false
    c.in_default.ensures.lowest (omega arith) c.in-Some-first_cut_off.ensures.lowest c.in-Some-first_cut_off.ensures.within

pub returns : goal.returns
returns c =
    first_given c.args.n c.args.links.now c.args.root c.args.first c.args.last c.args.births.now c.args.ear.now c.requires.0 c.if-ear-root.false c.if-ear-first.false
    c.in_default.ensures.lowest (omega arith) c.in_default-first_cut_off.ensures.lowest (omega arith)
