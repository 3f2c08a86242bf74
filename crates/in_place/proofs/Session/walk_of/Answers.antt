use Rattle.std.proofs.Common.{ap, ◌∙◌}
use Rattle.in_place.specs.declared.State.{State}
use Rattle.in_place.specs.Queries.{walked_by}
use Rattle.in_place.specs.InPlace.{with_state}
use Rattle.in_place.proofs.Session.walk_of.Goals as goal

pub returns : goal.returns
returns c =
    let s = c.args.self.now in
    c.walk_in.ensures s.links s.ducts s.used s.births s.order
    ∙ ap (λ (st : State). walked_by (with_state s st) c.args.switch c.args.tree c.args.out.now) c.state.ensures
