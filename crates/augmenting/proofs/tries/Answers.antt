use Rattle.std.proofs.Common.{◌≡◌, ◌+◌, ◌-◌, ℕ, List, true, false, sym, ap, ap₂, ◌∙◌, arith}
use Rattle.rows.specs.Rows.{marked}
use Rattle.rows.proofs.Rows.{marked_hit, marked_miss}
use Rattle.disjoint.specs.Matching.{unnamed, short, explore, tries}
use Rattle.augmenting.proofs.Leading.{matched_none, tries_short, tries_more, tries_end}
use Rattle.augmenting.proofs.tries.Goals as goal

pub returns-then-mark_at-eq0 : goal.returns-then-mark_at-eq0
returns-then-mark_at-eq0 c =
    let a = c.args in
    let l = c.loop-k in
    let net = unnamed a.n a.links.now in
    let q : marked (explore net a.s a.t l.k l.next).mark a.t ≡ false = sym (ap (λ (x : List ℕ). marked x a.t) c.attempt-mark.ensures.0) ∙ marked_miss c.mark_at.ensures (omega arith) in
    ap₂ short (c.attempt-mark.ensures.1 ∙ matched_none net a.s a.t l.k l.next q) c.attempt-mark.ensures.0
    ∙ sym (l.invariant ∙ tries_short net a.s a.t (a.n + a.want - l.k) l.k l.next (omega arith) q)

pub loop-k-preserved : goal.loop-k-preserved
loop-k-preserved c =
    let a = c.args in
    let l = c.loop-k in
    let net = unnamed a.n a.links.now in
    let q : marked (explore net a.s a.t l.k l.next).mark a.t ≡ true = sym (ap (λ (x : List ℕ). marked x a.t) c.attempt-mark.ensures.0) ∙ marked_hit c.mark_at.ensures (omega arith) in
    let left : a.n + a.want - l.k - 1 ≡ a.n + a.want - (l.k + 1) = omega arith in
    l.invariant ∙ tries_more net a.s a.t (a.n + a.want - l.k) l.k l.next (omega arith) q
    ∙ ap₂ (λ (i : ℕ) (next : List ℕ). tries net a.s a.t i (l.k + 1) next) left (sym c.attempt-mark.ensures.1)

pub returns : goal.returns
returns c =
    let a = c.args in
    let l = c.loop-k in
    sym (l.invariant ∙ tries_end (unnamed a.n a.links.now) a.s a.t (a.n + a.want - l.k) l.k l.next (omega arith))
