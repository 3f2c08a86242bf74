use Rattle.std.proofs.Common.{take, arith}
use Rattle.order.proofs.Insertion.{two_placed}
use Rattle.tables.proofs.Accepting.{births_later, tree1_later, tree2_later, births_two, tree1_two, tree2_two}
use Rattle.tables.proofs.accept_later.Goals as goal

pub returns-then-len-eq2 : goal.returns-then-len-eq2
returns-then-len-eq2 c =
    let o = take c.args.born c.args.order.now in
    let kept = two_placed c.args.order.now c.args.ear.now c.args.born c.same_count.ensures (omega (arith, c.requires.1, c.requires.2)) c.if-len-eq2.true in (
      births_two o c.args.ear.now c.args.births.now c.if-len-eq2.true c.args.b,
      tree1_two o c.args.ear.now c.args.tree1.now c.if-len-eq2.true,
      tree2_two o c.args.ear.now c.args.tree2.now c.if-len-eq2.true,
      kept.0,
      kept.1,
    )

pub returns : goal.returns
returns c =
    let o = take c.args.born c.args.order.now in (
      births_later o c.args.ear.now c.args.births.now c.args.b c.set_births.ensures,
      tree1_later o c.args.ear.now c.args.tree1.now c.place_of-place.ensures c.set_later_parents.ensures.0,
      tree2_later o c.args.ear.now c.args.tree2.now c.place_of-place.ensures c.set_later_parents.ensures.1,
      c.insert.ensures.0,
      c.insert.ensures.1,
    )
