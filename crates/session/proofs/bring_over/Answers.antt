use Rattle.std.proofs.Common.{sym, ap, ◌∙◌}
use Rattle.bringing.specs.Bringing.{bring_answer}
use Rattle.in_place.specs.declared.State.{State}
use Rattle.in_place.specs.Session.{brought_by}
use Rattle.in_place.specs.InPlace.{session_in, with_state}
use Rattle.session.proofs.bring_over.Goals as goal

pub returns : goal.returns
returns c =
    let s = c.args.s in
    ap (λ (st : State). record { answer = bring_answer c.bring_over-brought.result; after = session_in st s.links s.ducts s.used s.births s.order s.tree1 s.tree2 c.bring_over-brought.new.tree3 })
    (sym c.state_of.ensures)
    ∙ c.bring_over-brought.ensures s.ducts s.used s.order s.tree1 s.tree2
    ∙ ap (λ (st : State). brought_by (with_state s st)) c.state_of.ensures
