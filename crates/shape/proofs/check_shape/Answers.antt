use Rattle.std.proofs.Common.{cond, ◌≤◌, length, arith}
use Rattle.shape.proofs.Shape.{short_7, long_7, shape_8, shape_9, shape_links}
use Rattle.shape.proofs.check_shape.Goals as goal
use Rattle.shape.proofs.check_shape.Goals.{then-len-least_length-via-then-len-least_length, then-len-least_length-via-else-len-least_length+then-n-len}

pub returns-then-len-least_length : goal.returns-then-len-least_length
returns-then-len-least_length c = elim c.then-len-least_length.branch [
  | then-len-least_length-via-then-len-least_length w ↦
      short_7 c.args.n c.args.links.now c.args.births.now c.args.used.now c.args.initial c.args.ear.now (omega (arith, c.least_length.ensures))
  | then-len-least_length-via-else-len-least_length+then-n-len w ↦
      long_7 c.args.n c.args.links.now c.args.births.now c.args.used.now c.args.initial c.args.ear.now w.if-n-len.true
]

pub returns-in-Some : goal.returns-in-Some
returns-in-Some c =
    let enough : cond c.args.initial 3 2 ≤ length c.args.ear.now = omega (arith, c.least_length.ensures) in
    shape_8 c.args.n c.args.links.now c.args.births.now c.args.used.now c.args.initial c.args.ear.now enough c.if-n-len.false
    c.in-Some.ensures.lowest c.in-Some.ensures.within

pub returns-in-Some-first_repeated : goal.returns-in-Some-first_repeated
returns-in-Some-first_repeated c =
    let enough : cond c.args.initial 3 2 ≤ length c.args.ear.now = omega (arith, c.least_length.ensures) in
    shape_9 c.args.n c.args.links.now c.args.births.now c.args.used.now c.args.initial c.args.ear.now enough c.if-n-len.false
    c.in_default.ensures.lowest (omega arith) c.in-Some-first_repeated.ensures.lowest c.in-Some-first_repeated.ensures.within

pub returns : goal.returns
returns c =
    let enough : cond c.args.initial 3 2 ≤ length c.args.ear.now = omega (arith, c.least_length.ensures) in
    shape_links c.args.n c.args.links.now c.args.births.now c.args.used.now c.args.initial c.args.ear.now enough c.if-n-len.false
    c.in_default.ensures.lowest (omega arith) c.in_default-first_repeated.ensures.lowest (omega arith)
    c.check_links.ensures
