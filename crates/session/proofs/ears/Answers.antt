use Rattle.std.proofs.Common.{ap, ◌∙◌}
use Rattle.offering.specs.Offering.{ears_answer}
use Rattle.in_place.specs.declared.Session.{Session}
use Rattle.in_place.specs.declared.State.{State}
use Rattle.in_place.specs.Session.{listed_by}
use Rattle.in_place.specs.InPlace.{with_state}
use Rattle.session.proofs.ears.Goals as goal

pub returns : goal.returns
returns c =
    ap (λ (s : Session). record { answer = ears_answer c.ears-listed.result; after = s }) c.set_state.ensures
    ∙ c.ears-listed.ensures c.args.s.ducts c.args.s.tree3
    ∙ ap (λ (st : State). listed_by (with_state c.args.s st) c.args.list.now) c.state-st.ensures
