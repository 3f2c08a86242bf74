use Rattle.std.proofs.Common.{List, ℕ, sym, ap, ◌∙◌, ◌∷◌, []}
use Rattle.std.proofs.lemmas.Result.{err_from_is_err_and}
use Rattle.judge.specs.Ear.{ear_answer}
use Rattle.in_place.specs.declared.Session.{Session}
use Rattle.in_place.specs.Session.{with_tables}
use Rattle.in_place.specs.InPlace.{session_in}
use Rattle.in_place.proofs.Answers.{refused_as, given_as, verdict_lent, after_lent, accepted_two}
use Rattle.in_place.proofs.ear_open.Goals as goal

pub returns-in_err-count : goal.returns-in_err-count
returns-in_err-count c =
    let held : List ℕ → List ℕ → Session = λ ducts tree3. session_in c.args.st.now c.args.links.now ducts c.args.used.now c.args.births.now c.args.order.now c.args.tree1.now c.args.tree2.now tree3 in
    let p = err_from_is_err_and c.from_residual.result c.from_residual.ensures.1 in
    λ ducts tree3. rw (p.1, p.2) (refused_as (held ducts tree3) _ (λ k. k ∷ []) (c.judge.ensures ∙ verdict_lent (held ducts tree3) c.stored-table.ensures _) c.in_err-count.was)

pub accept-counts-requires : goal.accept-counts-requires
accept-counts-requires c = (
  accepted_two _ _ _ _ _ _ (sym c.judge.ensures ∙ ap ear_answer c.in_ok-count.was),
  c.requires.0,
  rw c.stored-table.ensures c.requires.1,
)

pub returns : goal.returns
returns c =
    let held : List ℕ → List ℕ → Session = λ ducts tree3. session_in c.args.st.now c.args.links.now ducts c.args.used.now c.args.births.now c.args.order.now c.args.tree1.now c.args.tree2.now tree3 in
    λ ducts tree3. given_as (held ducts tree3) _ (λ k. k ∷ []) (c.judge.ensures ∙ verdict_lent (held ducts tree3) c.stored-table.ensures _) c.in_ok-count.was
    (ap (with_tables (held ducts tree3)) (c.accept-counts.ensures ∙ after_lent (held ducts tree3) c.stored-table.ensures _))
