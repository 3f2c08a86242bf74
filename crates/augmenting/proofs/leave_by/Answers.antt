use Rattle.std.proofs.Common.{false, ℕ, ◌+◌, ◌*◌, ◌<◌, refl, sym, ap, ◌∙◌, arith}
use Rattle.mondschein.specs.Network.{at, size}
use Rattle.network.specs.Load.{table_of}
use Rattle.network.proofs.Indexing.{follow_begin, follow_miss, follow_more}
use Rattle.disjoint.specs.Matching.{explored_of, enter}
use Rattle.augmenting.proofs.Searching.{from, from_end, from_begin, from_next}
use Rattle.augmenting.proofs.leave_by.Goals as goal

pub loop-h-init : goal.loop-h-init
unfolding size
loop-h-init c =
    let a = c.args in
    let net = table_of a.links.now in (
      follow_begin net a.index.now c.requires.0 a.v c.requires.1 (λ _. false),
      from_begin net a.s a.t a.k a.v a.index.now c.requires.0 c.requires.1 (explored_of a.mark.now a.heads.now a.lefts.now a.count),
    )

pub bounds-index-h : goal.bounds-index-h
unfolding size
bounds-index-h c = omega (arith, c.requires.0.places, c.requires.0.fits)

pub loop-h-smaller : goal.loop-h-smaller
unfolding size
loop-h-smaller c =
    let a = c.args in
    let l = c.loop-h in
    omega (arith, follow_more (table_of a.links.now) a.index.now c.requires.0 a.v c.requires.1 (λ _. false) l.h l.invariant.0 (omega arith))

pub loop-h-preserved : goal.loop-h-preserved
unfolding size
loop-h-preserved c =
    let a = c.args in
    let l = c.loop-h in
    let net = table_of a.links.now in
    let h = explored_of l.mark l.heads l.lefts l.c in
    let within : l.h < 2 * size net = omega arith in (
      follow_miss net a.index.now c.requires.0 a.v c.requires.1 (λ _. false) l.h l.invariant.0 within refl,
      l.invariant.1
          ∙ from_next net a.s a.t a.k a.v a.index.now c.requires.0 c.requires.1 l.h h l.invariant.0 within
          ∙ ap (from net a.s a.t a.k a.v (at a.index.now (2048 + l.h))) (ap (λ (w : ℕ). enter a.s a.t a.k a.v w h) (sym c.far_end.ensures) ∙ sym c.enter-c.ensures),
    )

pub returns : goal.returns
unfolding size
returns c =
    let a = c.args in
    let l = c.loop-h in
    sym (l.invariant.1 ∙ from_end (table_of a.links.now) a.s a.t a.k a.v l.h (explored_of l.mark l.heads l.lefts l.c) (omega arith))
