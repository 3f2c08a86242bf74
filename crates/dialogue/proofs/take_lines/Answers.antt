use Rattle.std.proofs.Common.{arith, rules}
use Rattle.std.proofs.lemmas.Bool.{not-false, not-true}
use Rattle.dialogue.proofs.Blocks.{reached_over, reached_held, reached_all, reached_more, line_taken}
use Rattle.dialogue.proofs.take_lines.Goals as goal

pub loop-next-smaller : goal.loop-next-smaller
loop-next-smaller c = let on = c.hold_line-h.ensures.next_in_bounds.1 (not-false _ c.if-not-h.false) in omega (arith, on)

pub loop-next-preserved : goal.loop-next-preserved
loop-next-preserved c = record {
  reached =
      reached_more c.loop-next.invariant.reached c.over.ensures c.if-over.false c.hold_line-h.result _ c.hold_line-h.ensures.block_after (not-false _ c.if-not-h.false) c.hold_line-h.ensures.next_in_bounds.0
      (c.hold_line-h.ensures.next_in_bounds.1 (not-false _ c.if-not-h.false)) c.take_line-called.result.reader _ _ _ _ c.take_line-called.result.written
      (line_taken _ _ _ _ _ _ _ _ _ _ _ _ _ c.take_line-called.auto.out c.take_line-called.ensures.takes_line c.take_line-called.ensures.keeps.0)
      c.min-written.result c.min-written.ensures;
  lent = search rules;
  indexed = c.take_line-called.ensures.keeps.2;
}

pub returns-then-over-clause-takes_lines : goal.returns-then-over-clause-takes_lines
returns-then-over-clause-takes_lines c = reached_over c.loop-next.invariant.reached c.over.ensures c.if-over.true

pub returns-then-not-h-clause-takes_lines : goal.returns-then-not-h-clause-takes_lines
returns-then-not-h-clause-takes_lines c = reached_held c.loop-next.invariant.reached c.over.ensures c.if-over.false c.hold_line-h.result _ c.hold_line-h.ensures.block_after (not-true _ c.if-not-h.true)

pub returns-then-not-h-clause-next_in_bounds : goal.returns-then-not-h-clause-next_in_bounds
returns-then-not-h-clause-next_in_bounds c =
    let all = reached_all c.loop-next.invariant.reached c.over.ensures c.if-over.false c.hold_line-h.result _ c.hold_line-h.ensures.block_after (not-true _ c.if-not-h.true) in
    (c.hold_line-h.ensures.next_in_bounds.0, λ g. omega (arith, g, all))
