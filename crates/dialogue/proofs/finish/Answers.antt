use Rattle.std.proofs.Common.{arith}
use Rattle.dialogue.proofs.Inputs.{finishes_none, finishes_feed}
use Rattle.dialogue.proofs.finish.Goals as goal

pub returns-then-r-eq0-clause-finishes : goal.returns-then-r-eq0-clause-finishes
returns-then-r-eq0-clause-finishes c = finishes_none c.args.r _ c.args.links.now c.args.ducts.now c.args.line.now c.if-r-eq0.true

pub returns-clause-finishes : goal.returns-clause-finishes
returns-clause-finishes c =
    let on = c.take_lines-taken.ensures.next_in_bounds.1 (omega arith) in
    finishes_feed c.args.r _ c.args.links.now c.args.ducts.now c.args.line.now (omega (arith, c.if-r-eq0.false)) c.requires.0 c.take_lines-taken.result.reader _ _ _ _ c.take_lines-taken.result.next _ c.take_lines-taken.ensures.takes_lines (omega (arith, on))
