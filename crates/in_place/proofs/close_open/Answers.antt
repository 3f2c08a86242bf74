use Rattle.std.proofs.Common.{List, [], ℕ, ap, ◌∙◌}
use Rattle.std.specs.Prelude.{⊤}
use Rattle.std.proofs.lemmas.Result.{err_from_is_err_and}
use Rattle.in_place.specs.declared.Session.{Session}
use Rattle.in_place.specs.InPlace.{session_in}
use Rattle.in_place.specs.Session.{closed_with}
use Rattle.in_place.proofs.Answers.{refused_as, given_as, closing_lent, tree3_lent}
use Rattle.in_place.proofs.close_open.Goals as goal

pub returns-in_err-check_used : goal.returns-in_err-check_used
returns-in_err-check_used c =
    let held : List ℕ → List ℕ → List ℕ → List ℕ → Session = λ ducts order tree1 tree2. session_in c.args.st.now c.args.links.now ducts c.args.used.now c.args.births.now order tree1 tree2 c.args.tree3.now in
    let p = err_from_is_err_and c.from_residual.result c.from_residual.ensures.1 in
    λ ducts order tree1 tree2. rw (p.1, p.2)
    (refused_as (held ducts order tree1 tree2) _ (λ (u : ⊤). []) (c.check_used.ensures ∙ closing_lent (held ducts order tree1 tree2) c.stored-table.ensures) c.in_err-check_used.was)

pub returns : goal.returns
returns c =
    let held : List ℕ → List ℕ → List ℕ → List ℕ → Session = λ ducts order tree1 tree2. session_in c.args.st.now c.args.links.now ducts c.args.used.now c.args.births.now order tree1 tree2 c.args.tree3.now in
    λ ducts order tree1 tree2. given_as (held ducts order tree1 tree2) _ (λ (u : ⊤). [])
    (c.check_used.ensures ∙ closing_lent (held ducts order tree1 tree2) c.stored-table.ensures) c.in_ok-check_used.was
    (ap (closed_with (held ducts order tree1 tree2)) (c.set_tree3.ensures ∙ tree3_lent (held ducts order tree1 tree2) c.stored-table.ensures))
