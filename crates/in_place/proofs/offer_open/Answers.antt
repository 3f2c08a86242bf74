use Rattle.std.proofs.Common.{Bool, List, ℕ, arith, sym, ap, ◌∙◌}
use Rattle.mondschein.specs.Judge.{verdict}
use Rattle.mondschein.proofs.EmptyEar.{some_not_empty}
use Rattle.network.specs.Load.{network_of}
use Rattle.rows.specs.Rows.{marked}
use Rattle.in_place.specs.declared.Session.{Session}
use Rattle.in_place.specs.InPlace.{session_in}
use Rattle.in_place.specs.Session.{with_tables}
use Rattle.in_place.proofs.Answers.{after_given, verdict_lent, after_lent, as_judged}
use Rattle.in_place.proofs.offer_open.Goals as goal

pub returns-in-Some : goal.returns-in-Some
returns-in-Some c =
    let held : List ℕ → List ℕ → Session = λ ducts tree3. session_in c.args.st.now c.args.links.now ducts c.args.used.now c.args.births.now c.args.order.now c.args.tree1.now c.args.tree2.now tree3 in
    let (later, two, link, given-0) = c.in-Some.ensures.short c.in-Some.ensures.within in
    λ ducts tree3.
    let s = held ducts tree3 in
    after_given s _
    (sym (verdict_lent s c.stored-table.ensures c.args.ear.now)
    ∙ ap (λ (b : Bool). verdict (network_of s.n c.stored-table.result.now s.root s.first s.last) (marked s.births) (marked s.used) b c.args.ear.now) later
    ∙ given-0 s.root s.first s.last)
    (ap (with_tables s) (c.accept_short-st.ensures _ c.args.ear.now s.births s.tree1 s.tree2 s.longs two link ∙ after_lent s c.stored-table.ensures c.args.ear.now))
    ∙ as_judged s c.args.ear.now (some_not_empty _ _ (omega (arith, two)))
