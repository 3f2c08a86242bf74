use Rattle.std.proofs.Common.{ap, ◌∙◌}
use Rattle.judge.specs.Ear.{ear_answer}
use Rattle.in_place.specs.declared.Session.{Session}
use Rattle.in_place.specs.declared.State.{State}
use Rattle.in_place.specs.Session.{offered_by}
use Rattle.in_place.specs.InPlace.{with_state}
use Rattle.in_place.proofs.Session.offer.Goals as goal

pub returns : goal.returns
returns c =
    ap (λ (s : Session). record { answer = ear_answer c.ear_in-answer.result; after = s }) c.set_state.ensures
    ∙ c.ear_in-answer.ensures c.args.self.now.ducts c.args.self.now.tree3
    ∙ ap (λ (st : State). offered_by (with_state c.args.self.now st) c.args.ear.now) c.state-st.ensures
