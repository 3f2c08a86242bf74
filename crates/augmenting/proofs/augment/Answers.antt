use Rattle.std.proofs.Common.{ℕ, ◌-◌, sym, ap, ap₂, ◌∙◌, set, arith}
use Rattle.mondschein.specs.Network.{at}
use Rattle.disjoint.specs.Matching.{augment}
use Rattle.augmenting.proofs.Leading.{augment_past, augment_on, augment_stop, augment_end}
use Rattle.augmenting.proofs.augment.Goals as goal

pub returns-then-u-k : goal.returns-then-u-k
returns-then-u-k c =
    let a = c.args in
    let l = c.loop-j in
    c.store.ensures ∙ ap (λ (u : ℕ). set l.next u l.w) c.entry-u.ensures
    ∙ sym (l.invariant ∙ augment_stop a.k a.heads.now a.lefts.now l.j (omega arith) l.next l.w (omega arith) (omega arith))

pub loop-j-preserved-then-h-w : goal.loop-j-preserved-then-h-w
loop-j-preserved-then-h-w c =
    let a = c.args in
    let l = c.loop-j in
    l.invariant
    ∙ augment_on a.k a.heads.now a.lefts.now l.j (omega arith) l.next l.w (omega arith) (λ q. c.if-u-k.false (c.entry-u.ensures ∙ q))
    ∙ ap₂ (augment a.k a.heads.now a.lefts.now (l.j - 1)) (sym (c.store.ensures ∙ ap (λ (x : ℕ). set l.next x l.w) c.entry-u.ensures)) (sym (c.entry-old.ensures ∙ ap (at l.next) c.entry-u.ensures))

pub loop-j-preserved : goal.loop-j-preserved
loop-j-preserved c =
    let a = c.args in
    let l = c.loop-j in
    l.invariant ∙ augment_past a.k a.heads.now a.lefts.now l.j (omega arith) l.next l.w (λ q. c.if-h-w.false (c.entry-h.ensures ∙ q))

pub returns : goal.returns
returns c =
    let a = c.args in
    let l = c.loop-j in
    sym (l.invariant ∙ augment_end a.k a.heads.now a.lefts.now l.j l.next l.w (omega arith))
