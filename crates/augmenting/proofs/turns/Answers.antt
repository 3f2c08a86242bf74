use Rattle.std.proofs.Common.{ℕ, ◌+◌, sym, ap, ◌∙◌, arith}
use Rattle.rows.proofs.Rows.{marked_hit, marked_miss}
use Rattle.disjoint.specs.Matching.{unnamed, explored_of, leave}
use Rattle.augmenting.proofs.Searching.{ahead, turns_end, turns_out, turns_come, turns_more}
use Rattle.augmenting.proofs.turns.Goals as goal
use Rattle.augmenting.proofs.turns.Goals.{then-count-q-via-then-count-q, then-count-q-via-else-count-q+then-mark_at-gt0}

pub returns-then-count-q : goal.returns-then-count-q
returns-then-count-q c =
    let a = c.args in
    let l = c.loop-q in
    let net = unnamed a.n a.links.now in
    let h = explored_of l.mark l.heads l.lefts l.count in
    sym (l.invariant ∙ elim c.then-count-q.branch [ then-count-q-via-then-count-q w ↦ turns_out net a.s a.t a.k a.previous.now l.q h (omega arith) (omega arith) | then-count-q-via-else-count-q+then-mark_at-gt0 w ↦ turns_come net a.s a.t a.k a.previous.now l.q h (omega arith) (omega arith) (marked_hit w.mark_at.ensures w.if-mark_at-gt0.true) ])

pub loop-q-preserved : goal.loop-q-preserved
loop-q-preserved c =
    let a = c.args in
    let l = c.loop-q in
    let net = unnamed a.n a.links.now in
    let h = explored_of l.mark l.heads l.lefts l.count in
    l.invariant
    ∙ turns_more net a.s a.t a.k a.previous.now l.q h (omega arith) (omega arith) (marked_miss c.mark_at.ensures c.if-mark_at-gt0.false)
    ∙ ap (ahead net a.s a.t a.k a.previous.now (l.q + 1)) (ap (λ (v : ℕ). leave net a.s a.t a.k v h) (sym c.leaving-v.ensures) ∙ sym c.leave-count.ensures)

pub returns : goal.returns
returns c =
    let a = c.args in
    let l = c.loop-q in
    sym (l.invariant ∙ turns_end (unnamed a.n a.links.now) a.s a.t a.k a.previous.now l.q (explored_of l.mark l.heads l.lefts l.count) (omega arith))
