use Rattle.std.proofs.Common.{ap, ◌∙◌}
use Rattle.in_place.specs.declared.State.{State}
use Rattle.in_place.specs.InPlace.{session_in}
use Rattle.report.specs.Report.{reported_by}
use Rattle.report.proofs.Answers.{added_count}
use Rattle.report.proofs.add.Goals as goal

pub returns : goal.returns
returns c =
    added_count c.unwrap_or.ensures (c.add_in-answer.ensures c.args.s.used c.args.s.births c.args.s.order)
    ∙ ap (λ (st : State). reported_by c.args.r (session_in st c.args.s.links c.args.s.ducts c.args.s.used c.args.s.births c.args.s.order c.args.s.tree1 c.args.s.tree2 c.args.s.tree3)) c.state_of.ensures
