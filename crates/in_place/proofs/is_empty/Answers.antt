use Rattle.std.proofs.Common.{eq-eqb, ne_eqb}
use Rattle.mondschein.specs.EmptyEar.{is_empty}
use Rattle.in_place.proofs.is_empty.Goals as goal

pub returns-then-born-ne0 : goal.returns-then-born-ne0
unfolding is_empty
returns-then-born-ne0 c = rw (ne_eqb _ _ c.if-born-ne0.true)

pub returns-else-born-ne0 : goal.returns-else-born-ne0
unfolding is_empty
returns-else-born-ne0 c = rw (eq-eqb _ _ c.if-born-ne0.false)
