use Rattle.std.proofs.Common.{List, ℕ, ap, ◌∙◌}
use Rattle.mondschein.specs.Outcome.{Outcome}
use Rattle.in_place.specs.declared.State.{State}
use Rattle.in_place.specs.Queries.{walked_by}
use Rattle.in_place.specs.InPlace.{with_state}
use Rattle.session.proofs.walk.Goals as goal

pub returns : goal.returns
returns c =
    let s = c.args.s in
    let e = c.walk_in.ensures s.links s.ducts s.used s.births s.order
    ∙ ap (λ (st : State). walked_by (with_state s st) c.args.switch c.args.tree c.args.out.now) c.state_of.ensures in
    (ap (λ (o : Outcome (List ℕ)). o.answer) e, ap (λ (o : Outcome (List ℕ)). o.after) e)
