use Rattle.std.proofs.Common.{ap, ◌∙◌}
use Rattle.rows.proofs.Rows.{marked_hit, marked_miss}
use Rattle.disjoint.specs.Matching.{unnamed, Explored}
use Rattle.augmenting.proofs.Leading.{explore_by, matched_miss, matched_hit}
use Rattle.augmenting.proofs.attempt.Goals as goal

pub returns-then-mark_at-gt0 : goal.returns-then-mark_at-gt0
returns-then-mark_at-gt0 c =
    let a = c.args in
    let net = unnamed a.n a.links.now in
    let e = explore_by net a.s a.t a.k a.next.now c.invert.ensures c.turns-count.ensures in
    (ap (λ (h : Explored). h.mark) e, c.augment.ensures ∙ matched_hit net a.s a.t a.k a.next.now _ e (marked_hit c.mark_at.ensures c.if-mark_at-gt0.true))

pub returns-else-mark_at-gt0 : goal.returns-else-mark_at-gt0
returns-else-mark_at-gt0 c =
    let a = c.args in
    let net = unnamed a.n a.links.now in
    let e = explore_by net a.s a.t a.k a.next.now c.invert.ensures c.turns-count.ensures in
    (ap (λ (h : Explored). h.mark) e, matched_miss net a.s a.t a.k a.next.now _ e (marked_miss c.mark_at.ensures c.if-mark_at-gt0.false))
