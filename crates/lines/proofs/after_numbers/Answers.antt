use Rattle.std.proofs.Common.{sym, ◌∙◌}
use Rattle.lines.proofs.Steps.{ends_further, ends_here}
use Rattle.lines.proofs.after_numbers.Goals as goal

pub loop-next-preserved : goal.loop-next-preserved
loop-next-preserved c = c.loop-next.invariant ∙ ends_further _ _ c.in-Some.ensures.value c.in-Some.ensures.shorter

pub returns : goal.returns
returns c = ends_here _ c.in_default.ensures.value ∙ sym c.loop-next.invariant
