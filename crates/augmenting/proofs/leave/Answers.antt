use Rattle.std.proofs.Common.{ap, ◌∙◌, arith}
use Rattle.disjoint.specs.Matching.{explored_of, enter}
use Rattle.augmenting.proofs.Searching.{leave_copy, leave_switch}
use Rattle.augmenting.proofs.leave.Goals as goal

pub returns-then-n-v : goal.returns-then-n-v
returns-then-n-v c =
    let a = c.args in
    leave_copy a.n a.links.now a.s a.t a.k a.v (explored_of a.mark.now a.heads.now a.lefts.now a.count) (omega arith)

pub returns : goal.returns
returns c =
    let a = c.args in
    c.enter.ensures ∙ ap (enter a.s a.t a.k a.v a.v) c.leave_by-c.ensures
    ∙ leave_switch a.n a.links.now a.s a.t a.k a.v (explored_of a.mark.now a.heads.now a.lefts.now a.count) (omega arith)
