use Rattle.std.proofs.Common.{arith}
use Rattle.reporting.specs.Reporting.{trees}
use Rattle.reporting.proofs.Steps.{switch_root, switch_other}
use Rattle.reporting.proofs.add_switch.Goals as goal

pub returns-then-v-root : goal.returns-then-v-root
returns-then-v-root c =
    let a = c.args in
    let t = trees a.n a.root a.row1.now a.row2.now a.row3.now a.ducts1.now a.ducts2.now a.ducts3.now in
    (switch_root t a.top 2 a.v a.two.now (omega arith), switch_root t a.top 3 a.v a.three.now (omega arith))

pub returns : goal.returns
returns c =
    let a = c.args in
    let t = trees a.n a.root a.row1.now a.row2.now a.row3.now a.ducts1.now a.ducts2.now a.ducts3.now in (
      switch_other t a.top 2 a.v a.two.now c.if-v-root.false c.most_links-limit.ensures c.marks_of-marks1.ensures c.marks_of-marks2.ensures c.marks_of-marks3.ensures c.add_losing.ensures.0,
      switch_other t a.top 3 a.v a.three.now c.if-v-root.false c.most_links-limit.ensures c.marks_of-marks1.ensures c.marks_of-marks2.ensures c.marks_of-marks3.ensures c.add_losing.ensures.1,
    )
