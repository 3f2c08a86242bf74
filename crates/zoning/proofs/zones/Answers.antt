use Rattle.std.proofs.Common.{List, ℕ, ap, ◌∙◌}
use Rattle.mondschein.specs.Outcome.{Outcome}
use Rattle.in_place.specs.declared.State.{State}
use Rattle.in_place.specs.InPlace.{session_in}
use Rattle.zoning.specs.Zoning.{zoned_by}
use Rattle.zoning.proofs.zones.Goals as goal

pub returns : goal.returns
returns c =
    let e = c.zones_in.ensures c.args.s.links c.args.s.ducts c.args.s.used c.args.s.tree1 c.args.s.tree2 c.args.s.tree3
    ∙ ap (λ (st : State). zoned_by (session_in st c.args.s.links c.args.s.ducts c.args.s.used c.args.s.births c.args.s.order c.args.s.tree1 c.args.s.tree2 c.args.s.tree3) c.args.n1 c.args.n2 c.args.n3 c.args.out.now) c.state_of.ensures in
    (ap (λ (o : Outcome (List ℕ)). o.answer) e, ap (λ (o : Outcome (List ℕ)). o.after) e)
