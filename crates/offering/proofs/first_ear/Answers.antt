use Rattle.offering.proofs.Lists.{whole_ear, count_past_end}
use Rattle.offering.proofs.first_ear.Goals as goal

pub returns-then-count-rest : goal.returns-then-count-rest
returns-then-count-rest c = rw (c.split_at.ensures.front, c.split_at.ensures.back) (whole_ear _ c.in_ok-count.ensures.cases.0 c.if-count-rest.true)

pub returns : goal.returns
returns c = count_past_end _ c.in_ok-count.ensures.cases.0 c.if-count-rest.false
