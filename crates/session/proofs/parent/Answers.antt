use Rattle.std.proofs.Common.{ap, ◌∙◌}
use Rattle.in_place.specs.declared.State.{State}
use Rattle.in_place.specs.Queries.{parent_by}
use Rattle.in_place.specs.InPlace.{with_state}
use Rattle.session.proofs.parent.Goals as goal

pub returns : goal.returns
returns c =
    let s = c.args.s in
    c.parent_in.ensures s.links s.ducts s.used s.births s.order
    ∙ ap (λ (st : State). parent_by (with_state s st) c.args.switch c.args.tree) c.state_of.ensures
