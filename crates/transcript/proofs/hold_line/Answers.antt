use Rattle.std.proofs.Common.{◌≡◌, ◌+◌, sym, ap, ◌∙◌, arith, length-take}
use Rattle.transcript.specs.Transcript.{held_line}
use Rattle.transcript.proofs.Holding.{rest_byte, rest_none, held_end, held_feed, held_long, held_byte}
use Rattle.transcript.proofs.hold_line.Goals as goal

pub returns-then-byte-eq10-clause-block_after : goal.returns-then-byte-eq10-clause-block_after
returns-then-byte-eq10-clause-block_after c =
    sym (c.loop-i.invariant.same_line ∙ ap (held_line _) (rest_byte _ _ _ c.loop-i-test.true) ∙ held_feed _ _ _ c.if-byte-eq10.true)

pub returns-then-count-gt6144-clause-block_after : goal.returns-then-count-gt6144-clause-block_after
returns-then-count-gt6144-clause-block_after c =
    let long = held_long _ _ _ c.if-byte-eq10.false _ c.hold-count.ensures (omega (arith, length-take c.hold-count.result c.hold-count.new.line)) in
    sym (c.loop-i.invariant.same_line ∙ ap (held_line _) (rest_byte _ _ _ c.loop-i-test.true) ∙ long)

pub loop-i-preserved : goal.loop-i-preserved
loop-i-preserved c =
    let byte = held_byte _ _ _ c.if-byte-eq10.false _ c.hold-count.ensures (omega (arith, length-take c.hold-count.result c.hold-count.new.line)) in
    let further : c.args.from + (c.loop-i.i + 1) ≡ c.args.from + c.loop-i.i + 1 = omega arith in
    record { whole = c.hold-count.auto.line ∙ c.loop-i.invariant.whole; same_line = rw further (c.loop-i.invariant.same_line ∙ ap (held_line _) (rest_byte _ _ _ c.loop-i-test.true) ∙ byte) }

pub returns-clause-block_after : goal.returns-clause-block_after
returns-clause-block_after c =
    sym (c.loop-i.invariant.same_line ∙ ap (held_line _) (rest_none _ _ _ c.loop-i-test.false) ∙ held_end _ c.args.block.now)
