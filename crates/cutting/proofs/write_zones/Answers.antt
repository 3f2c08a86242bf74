use Rattle.std.proofs.Common.{arith, refl, length}
use Rattle.rows.specs.Rows.{assigned}
use Rattle.cutting.proofs.Steps.{along_begin, along_le, zones_more}
use Rattle.cutting.proofs.write_zones.Goals as goal

pub loop-switch-init : goal.loop-switch-init
unfolding assigned
loop-switch-init c = (along_begin c.args.order.now c.args.births.now c.args.cut, refl)

pub place-p-requires : goal.place-p-requires
place-p-requires c =
    let a = c.args in
    let l = c.loop-switch in
    omega (arith, along_le a.order.now a.births.now a.cut l.invariant.0)

pub loop-switch-preserved : goal.loop-switch-preserved
loop-switch-preserved c =
    let a = c.args in
    let l = c.loop-switch in
    zones_more a.order.now a.births.now a.cut (length a.out.now) (c.fill.ensures.after (λ y e. e)) l.invariant.0 c.loop-switch-test.true refl l.invariant.1
    c.place-p.ensures.0 c.place-p.ensures.1
