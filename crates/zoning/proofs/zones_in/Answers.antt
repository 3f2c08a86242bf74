use Rattle.std.proofs.Common.{List, ℕ, sym, ◌∙◌}
use Rattle.std.proofs.lemmas.Result.{err_from_is_err_and}
use Rattle.in_place.specs.declared.Session.{Session}
use Rattle.in_place.specs.InPlace.{session_in}
use Rattle.in_place.proofs.Queries.{stage_refused, stage_closed}
use Rattle.zoning.proofs.Answers.{zones_refused, zones_24, zones_18, zones_written}
use Rattle.zoning.proofs.zones_in.Goals as goal

pub returns-in_err-require_closed : goal.returns-in_err-require_closed
returns-in_err-require_closed c =
    let held : List ℕ → List ℕ → List ℕ → List ℕ → List ℕ → List ℕ → Session = λ links ducts used tree1 tree2 tree3. session_in c.args.st links ducts used c.args.births.now c.args.order.now tree1 tree2 tree3 in
    let p = err_from_is_err_and c.from_residual.result c.from_residual.ensures.1 in
    λ links ducts used tree1 tree2 tree3. rw (p.1, p.2)
    (zones_refused (held links ducts used tree1 tree2 tree3) _ _ _ _ (stage_refused c.args.st.stage c.require_closed.ensures c.in_err-require_closed.was _))

pub returns-then-wrong_sizes : goal.returns-then-wrong_sizes
returns-then-wrong_sizes c =
    let held : List ℕ → List ℕ → List ℕ → List ℕ → List ℕ → List ℕ → Session = λ links ducts used tree1 tree2 tree3. session_in c.args.st links ducts used c.args.births.now c.args.order.now tree1 tree2 tree3 in
    λ links ducts used tree1 tree2 tree3. zones_24 (held links ducts used tree1 tree2 tree3) _ _ _ _
    (stage_closed c.args.st.stage c.require_closed.ensures c.in_ok-require_closed.was) (sym c.wrong_sizes.ensures ∙ c.if-wrong_sizes.true)

pub returns-then-out-places : goal.returns-then-out-places
returns-then-out-places c =
    let held : List ℕ → List ℕ → List ℕ → List ℕ → List ℕ → List ℕ → Session = λ links ducts used tree1 tree2 tree3. session_in c.args.st links ducts used c.args.births.now c.args.order.now tree1 tree2 tree3 in
    λ links ducts used tree1 tree2 tree3. zones_18 (held links ducts used tree1 tree2 tree3) _ _ _ _
    (stage_closed c.args.st.stage c.require_closed.ensures c.in_ok-require_closed.was) (sym c.wrong_sizes.ensures ∙ c.if-wrong_sizes.false)
    c.if-out-places.true

pub returns : goal.returns
returns c =
    let held : List ℕ → List ℕ → List ℕ → List ℕ → List ℕ → List ℕ → Session = λ links ducts used tree1 tree2 tree3. session_in c.args.st links ducts used c.args.births.now c.args.order.now tree1 tree2 tree3 in
    λ links ducts used tree1 tree2 tree3. zones_written (held links ducts used tree1 tree2 tree3) _ _ _ _
    (stage_closed c.args.st.stage c.require_closed.ensures c.in_ok-require_closed.was) (sym c.wrong_sizes.ensures ∙ c.if-wrong_sizes.false)
    c.if-out-places.false c.prefix-switches.ensures c.prefix-born.ensures c.set_zones.ensures
