use Rattle.std.proofs.Common.{◌≡◌, arith, length}
use Rattle.cutting.proofs.Counting.{seeking_begin, seeking_le, seeking_more, seeking_hit, seeking_end}
use Rattle.cutting.proofs.find_ear.Goals as goal

pub loop-i-init : goal.loop-i-init
loop-i-init c = seeking_begin c.args.births.now c.args.total

pub overflow_add-before : goal.overflow_add-before
overflow_add-before c = omega (arith, seeking_le _ _ c.count_births.ensures c.requires c.loop-i.invariant)

pub returns-then-total-before : goal.returns-then-total-before
returns-then-total-before c =
    seeking_hit _ _ c.count_births.ensures c.requires c.loop-i.invariant (omega arith) (omega arith)

pub loop-i-preserved : goal.loop-i-preserved
loop-i-preserved c =
    seeking_more _ _ c.count_births.ensures c.requires c.loop-i.invariant (omega arith) (omega arith)

pub returns : goal.returns
returns c =
    let e : c.loop-i.i ≡ length c.args.births.now = omega arith in
    rw (← e) (seeking_end _ _ c.count_births.ensures c.requires c.loop-i.invariant (omega arith))
