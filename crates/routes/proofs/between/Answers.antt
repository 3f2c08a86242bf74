use Rattle.std.proofs.Common.{ap, ◌∙◌}
use Rattle.in_place.specs.declared.State.{State}
use Rattle.in_place.specs.InPlace.{with_state}
use Rattle.routes.specs.Calls.{between_by}
use Rattle.routes.proofs.between.Goals as goal

pub returns : goal.returns
returns c =
    let s = c.args.s in
    c.between_in.ensures s.ducts s.used s.births s.order s.tree1 s.tree2 s.tree3
    ∙ ap (λ (st : State). between_by (with_state s st) c.args.from c.args.to c.args.out.now) c.state_of.ensures
