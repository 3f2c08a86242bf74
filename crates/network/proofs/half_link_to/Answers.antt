use Rattle.std.proofs.Common.{◌<◌, ◌*◌, false, refl, sym, ap, ◌∙◌, arith}
use Rattle.mondschein.specs.Network.{size}
use Rattle.network.specs.Load.{table_of}
use Rattle.network.proofs.Indexing.{follow_begin, follow_miss, follow_more}
use Rattle.network.proofs.half_link_to.Goals as goal

pub loop-h-init : goal.loop-h-init
unfolding size
loop-h-init g c =
    let begin = follow_begin (table_of c.args.links.now) c.args.index.now c.requires.indexed.0 c.args.v c.requires.indexed.1 in
    record { whole = refl; stands = begin (λ x. false); missed = λ q t. begin q }

pub loop-h-smaller : goal.loop-h-smaller
loop-h-smaller g c =
    omega (
      arith,
      follow_more (table_of c.args.links.now) c.args.index.now c.requires.indexed.0 c.args.v c.requires.indexed.1 (λ x. false) c.loop-h.h c.loop-h.invariant.stands
          (omega (arith, c.loop-h-test.true, c.loop-h.invariant.whole)),
    )

pub loop-h-preserved : goal.loop-h-preserved
loop-h-preserved g c =
    let l : c.loop-h.h < 2 * size (table_of c.args.links.now) = omega (arith, c.loop-h-test.true, c.loop-h.invariant.whole) in
    record {
      whole = c.loop-h.invariant.whole;
      stands = follow_miss (table_of c.args.links.now) c.args.index.now c.requires.indexed.0 c.args.v c.requires.indexed.1 (λ x. false) c.loop-h.h c.loop-h.invariant.stands l refl;
      missed = λ q t.
          follow_miss (table_of c.args.links.now) c.args.index.now c.requires.indexed.0 c.args.v c.requires.indexed.1 q c.loop-h.h (c.loop-h.invariant.missed q t) l
          (ap q (sym c.far_end.ensures) ∙ sym (t _ _ c.passes.ensures) ∙ c.if-passes.false);
    }
