use Rattle.reporting.specs.Reporting.{trees}
use Rattle.reporting.proofs.Steps.{switches_begin, switches_next}
use Rattle.reporting.proofs.add_switches.Goals as goal

pub loop-v-init : goal.loop-v-init
loop-v-init c =
    let a = c.args in
    let t = trees a.n a.root a.row1.now a.row2.now a.row3.now a.ducts1.now a.ducts2.now a.ducts3.now in
    (switches_begin t a.top 2 a.two.now, switches_begin t a.top 3 a.three.now)

pub loop-v-preserved : goal.loop-v-preserved
loop-v-preserved c =
    let a = c.args in
    let l = c.loop-v in
    let t = trees a.n a.root a.row1.now a.row2.now a.row3.now a.ducts1.now a.ducts2.now a.ducts3.now in (
      switches_next t a.top 2 a.two.now l.v l.invariant.0 c.add_switch.ensures.0,
      switches_next t a.top 3 a.three.now l.v l.invariant.1 c.add_switch.ensures.1,
    )
