use Rattle.std.proofs.Common.{List, ℕ, sym, ap, ◌∙◌}
use Rattle.in_place.specs.declared.Session.{Session}
use Rattle.in_place.specs.InPlace.{session_in}
use Rattle.in_place.specs.Session.{with_tables}
use Rattle.in_place.proofs.Answers.{after_given, after_empty, empty_given, as_judged}
use Rattle.in_place.proofs.enter_open.Goals as goal

pub returns-then-is_empty : goal.returns-then-is_empty
returns-then-is_empty c =
    let held : List ℕ → List ℕ → Session = λ ducts tree3. session_in c.args.st.now c.args.links.now ducts c.args.used.now c.args.births.now c.args.order.now c.args.tree1.now c.args.tree2.now tree3 in
    let empty = sym c.is_empty.ensures ∙ c.if-is_empty.true in
    λ ducts tree3. after_given (held ducts tree3) _ (empty_given (held ducts tree3) _ empty)
    (ap (with_tables (held ducts tree3)) (after_empty (held ducts tree3) c.stored.ensures _ empty c.take_left_over.ensures))

pub returns-else-is_empty : goal.returns-else-is_empty
returns-else-is_empty c =
    let held : List ℕ → List ℕ → Session = λ ducts tree3. session_in c.args.st.now c.args.links.now ducts c.args.used.now c.args.births.now c.args.order.now c.args.tree1.now c.args.tree2.now tree3 in
    λ ducts tree3. c.ear_open.ensures ducts tree3 ∙ as_judged (held ducts tree3) _ (sym c.is_empty.ensures ∙ c.if-is_empty.false)
