use Rattle.std.proofs.Common.{◌≡◌, ◌⊎◌, ◌+◌, ◌-◌, ◌≤◌, ℕ, inl, inr, sym, ap, ◌∙◌, length, add-one, arith}
use Rattle.mondschein.specs.Network.{at}
use Rattle.mondschein.specs.Order.{walk_by}
use Rattle.disjoint.specs.Matching.{path_of}
use Rattle.routing.proofs.Written.{write_on, write_end}
use Rattle.routing.proofs.write_path.Goals as goal
use Rattle.routing.proofs.write_path.Goals.{else-loop-test, then-loop-test+then-v-t}

pub loop-preserved : goal.loop-preserved
loop-preserved c =
    let a = c.args in
    let l = c.loop in
    let left : a.n - l.counter - 1 ≡ a.n - (l.counter + 1) = omega arith in
    let e = rw left at (write_on a.t (at a.next.now) l.out l.i (a.n - l.counter) l.v (omega arith) c.if-v-t.false) in (
      omega arith,
      rw (c.store-in-loop.ensures, c.entry-v-in-loop.ensures) (l.invariant.1 ∙ e.0),
      rw c.entry-v-in-loop.ensures (l.invariant.2 ∙ e.1),
    )

pub returns : goal.returns
unfolding path_of
returns c =
    let a = c.args in
    let l = c.loop in
    let last : (a.n - l.counter ≤ 0) ⊎ (l.v ≡ a.t) = elim c.loop-test.branch [ else-loop-test w ↦ inl (omega arith) | then-loop-test+then-v-t w ↦ inr (omega arith) ] in
    let e = write_end a.t (at a.next.now) l.out l.i (a.n - l.counter) l.v last in
    let q = ap (λ (x : ℕ). length (walk_by a.t (at a.next.now) a.n x)) c.entry-v.ensures in (
      c.store-2.ensures ∙ sym e.0 ∙ sym l.invariant.1 ∙ rw (c.store.ensures, c.entry-v.ensures, add-one),
      omega arith,
      omega arith,
    )
