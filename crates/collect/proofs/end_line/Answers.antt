use Rattle.std.proofs.Common.{[], Err, refl, arith}
use Rattle.collect.specs.Answering.{effect_in}
use Rattle.collect.proofs.LineEnds.{over_not, end_quiet, end_turn}
use Rattle.collect.proofs.end_line.Goals as goal

pub returns-then-over-clause-ends : goal.returns-then-over-clause-ends
returns-then-over-clause-ends c = end_quiet c.args.r c.args.links.now c.args.ducts.now c.args.line.now c.over.ensures _ c.args.out.now c.if-over.true

pub overflow_cast-r : goal.overflow_cast-r
overflow_cast-r c = omega (arith, (over_not c.args.r c.over.ensures c.if-over.false).1)

pub overflow_add-next : goal.overflow_add-next
overflow_add-next c = omega (arith, (over_not c.args.r c.over.ensures c.if-over.false).1)

pub returns-in-Ok-clause-ends : goal.returns-in-Ok-clause-ends
returns-in-Ok-clause-ends c =
    let running = (over_not c.args.r c.over.ensures c.if-over.false).0 in
    let asked = c.in-Ok.asked in
    end_turn c.args.r c.args.links.now c.args.ducts.now c.args.line.now c.over.ensures _ _ _ c.answer-answered.new.out (record { kept = asked.kept; request = asked.request; printed = []; stops = c.args.r.stopped }) 0 _ c.if-over.false c.min-held.ensures refl (λ s. rw running (c.in-Ok.ensures.answers s))

pub returns-in-Err-clause-ends : goal.returns-in-Err-clause-ends
returns-in-Err-clause-ends c =
    end_turn c.args.r c.args.links.now c.args.ducts.now c.args.line.now c.over.ensures _ _ _ _ (effect_in c.args.r.kept (Err c.in-Err.unread) _) c.in-Err.unread.written _ c.if-over.false c.min-held.ensures refl c.in-Err.ensures.answers
