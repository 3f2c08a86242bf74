use Rattle.std.proofs.Common.{List, ◌∷◌, [], ℕ, sym, ap, ◌∙◌}
use Rattle.std.proofs.lemmas.Result.{err_from_is_err_and}
use Rattle.mondschein.specs.Network.{at}
use Rattle.mondschein.specs.Judge.{given}
use Rattle.in_place.specs.declared.Session.{Session}
use Rattle.in_place.specs.InPlace.{session_in}
use Rattle.in_place.specs.Queries.{tree_in, parent_by}
use Rattle.in_place.proofs.Queries.{stage_refused, stage_closed, parent_unknown, parent_entry}
use Rattle.in_place.proofs.parent_in.Goals as goal

pub returns-in_err-require_closed : goal.returns-in_err-require_closed
unfolding parent_by
returns-in_err-require_closed c =
    let p = err_from_is_err_and c.from_residual.result c.from_residual.ensures.1 in
    λ links ducts used births order. rw (p.1, p.2) (sym (stage_refused c.args.st.stage c.require_closed.ensures c.in_err-require_closed.was _))

pub returns-then-unknown : goal.returns-then-unknown
returns-then-unknown c =
    let held : List ℕ → List ℕ → List ℕ → List ℕ → List ℕ → Session = λ links ducts used births order. session_in c.args.st links ducts used births order c.args.tree1.now c.args.tree2.now c.args.tree3.now in
    λ links ducts used births order. parent_unknown (held links ducts used births order) _ _
    (stage_closed c.args.st.stage c.require_closed.ensures c.in_ok-require_closed.was) (sym c.unknown.ensures ∙ c.if-unknown.true)

pub returns : goal.returns
unfolding tree_in
returns c =
    let held : List ℕ → List ℕ → List ℕ → List ℕ → List ℕ → Session = λ links ducts used births order. session_in c.args.st links ducts used births order c.args.tree1.now c.args.tree2.now c.args.tree3.now in
    λ links ducts used births order. ap (λ (x : ℕ). given (x ∷ [])) (c.entry.ensures ∙ ap (λ (row : List ℕ). at row c.args.switch) c.row_of.ensures)
    ∙ parent_entry (held links ducts used births order) _ _ (stage_closed c.args.st.stage c.require_closed.ensures c.in_ok-require_closed.was)
    (sym c.unknown.ensures ∙ c.if-unknown.false)
