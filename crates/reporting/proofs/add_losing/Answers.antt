use Rattle.std.proofs.Common.{ℕ, arith}
use Rattle.reporting.specs.Reporting.{losing}
use Rattle.reporting.proofs.Steps.{raised_begin, raised_next, losing_told}
use Rattle.reporting.proofs.add_losing.Goals as goal

pub loop-d-init : goal.loop-d-init
loop-d-init c =
    let a = c.args in
    let lost = losing a.marks1.now a.marks2.now a.marks3.now in
    (raised_begin (lost 2) a.two.now, raised_begin (lost 3) a.three.now)

pub loop-d-preserved : goal.loop-d-preserved
loop-d-preserved c =
    let a = c.args in
    let l = c.loop-d in
    let lost = losing a.marks1.now a.marks2.now a.marks3.now in
    let told = λ (k : ℕ). losing_told a.marks1.now a.marks2.now a.marks3.now k l.d c.marks_at-lost.ensures in (
      raised_next (lost 2) a.two.now l.d (omega arith) l.invariant.0 (told 2) c.raise.ensures,
      raised_next (lost 3) a.three.now l.d (omega arith) l.invariant.1 (told 3) c.raise-in-loop-d.ensures,
    )
