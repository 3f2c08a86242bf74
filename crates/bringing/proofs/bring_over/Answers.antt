use Rattle.std.proofs.Common.{List, ℕ, ap, ◌∙◌}
use Rattle.std.proofs.lemmas.Result.{err_from_is_err_and}
use Rattle.in_place.specs.declared.Session.{Session}
use Rattle.in_place.specs.Session.{with_third, brought_by}
use Rattle.in_place.specs.InPlace.{session_in}
use Rattle.in_place.proofs.Answers.{after_refused, after_given, on_closed_lem, tree3_lent}
use Rattle.in_place.proofs.Queries.{stage_refused, stage_closed}
use Rattle.bringing.proofs.bring_over.Goals as goal

pub returns-in_err-require_closed : goal.returns-in_err-require_closed
unfolding brought_by
returns-in_err-require_closed c =
    let p = err_from_is_err_and c.from_residual.result c.from_residual.ensures.1 in
    λ ducts used order tree1 tree2. rw (p.1, p.2)
    (after_refused (session_in c.args.st c.args.links.now ducts used c.args.births.now order tree1 tree2 c.args.tree3.now) _ (stage_refused c.args.st.stage c.require_closed.ensures c.in_err-require_closed.was _))

pub returns : goal.returns
unfolding brought_by
returns c =
    let held : List ℕ → List ℕ → List ℕ → List ℕ → List ℕ → Session = λ ducts used order tree1 tree2. session_in c.args.st c.args.links.now ducts used c.args.births.now order tree1 tree2 c.args.tree3.now in
    λ ducts used order tree1 tree2. after_given (held ducts used order tree1 tree2) _
    (on_closed_lem _ _ _ (stage_closed c.args.st.stage c.require_closed.ensures c.in_ok-require_closed.was))
    (ap (with_third (held ducts used order tree1 tree2)) (c.set_tree3.ensures ∙ tree3_lent (held ducts used order tree1 tree2) c.stored-table.ensures))
