use Rattle.std.proofs.Common.{ap, ◌∙◌}
use Rattle.mondschein.specs.Order.{shortest}
use Rattle.closing.specs.Closing.{close_answer}
use Rattle.in_place.specs.declared.Session.{Session}
use Rattle.in_place.specs.declared.State.{State}
use Rattle.in_place.specs.Session.{closed_by}
use Rattle.in_place.specs.InPlace.{with_state}
use Rattle.in_place.proofs.Session.try_close.Goals as goal

pub returns : goal.returns
returns c =
    ap (λ (s : Session). record { answer = close_answer c.close_in-answer.result; after = s }) c.set_state.ensures
    ∙ c.close_in-answer.ensures c.args.self.now.ducts c.args.self.now.order c.args.self.now.tree1 c.args.self.now.tree2
    ∙ ap (λ (st : State). closed_by shortest (with_state c.args.self.now st)) c.state-st.ensures
