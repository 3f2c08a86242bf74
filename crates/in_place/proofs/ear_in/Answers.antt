use Rattle.std.proofs.Common.{List, ℕ, sym, ap, ◌∙◌}
use Rattle.mondschein.specs.Outcome.{settle}
use Rattle.in_place.specs.declared.Session.{Session}
use Rattle.in_place.specs.InPlace.{session_in}
use Rattle.in_place.specs.Session.{offered_by}
use Rattle.in_place.proofs.Answers.{after_refused, on_empty_lem, on_open_lem, on_closed_lem}
use Rattle.in_place.proofs.ear_in.Goals as goal

pub returns-in-Empty : goal.returns-in-Empty
unfolding offered_by
returns-in-Empty c =
    let held : List ℕ → List ℕ → Session = λ ducts tree3. session_in c.args.st.now c.args.links.now ducts c.args.used.now c.args.births.now c.args.order.now c.args.tree1.now c.args.tree2.now tree3 in
    λ ducts tree3. after_refused (held ducts tree3) _ (on_empty_lem _ _ _ c.in-Empty.is)

pub returns-in-Open : goal.returns-in-Open
unfolding offered_by
returns-in-Open c =
    let held : List ℕ → List ℕ → Session = λ ducts tree3. session_in c.args.st.now c.args.links.now ducts c.args.used.now c.args.births.now c.args.order.now c.args.tree1.now c.args.tree2.now tree3 in
    λ ducts tree3. c.offer_open.ensures ducts tree3 ∙ ap (settle (held ducts tree3) _) (sym (on_open_lem _ _ _ c.in-Open.is))

pub returns-in-Closed : goal.returns-in-Closed
unfolding offered_by
returns-in-Closed c =
    let held : List ℕ → List ℕ → Session = λ ducts tree3. session_in c.args.st.now c.args.links.now ducts c.args.used.now c.args.births.now c.args.order.now c.args.tree1.now c.args.tree2.now tree3 in
    λ ducts tree3. after_refused (held ducts tree3) _ (on_closed_lem _ _ _ c.in-Closed.is)
