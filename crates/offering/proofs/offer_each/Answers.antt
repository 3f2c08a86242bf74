use Rattle.std.proofs.Common.{List, ℕ, [], refl, ◌∙◌}
use Rattle.in_place.specs.declared.Session.{Session}
use Rattle.in_place.specs.InPlace.{session_in}
use Rattle.in_place.proofs.Stores.{index_kept}
use Rattle.offering.specs.Offering.{ears_answer}
use Rattle.offering.proofs.Lists.{reaches_begin, reaches_all, reaches_more, reaches_end, same_m}
use Rattle.offering.proofs.offer_each.Goals as goal

pub loop-switches-init : goal.loop-switches-init
loop-switches-init c = record { reaches = reaches_begin _ _; same_m = refl }

pub ear_in-answer-requires : goal.ear_in-answer-requires
ear_in-answer-requires c = (
  c.loop-switches.auto.order ∙ c.requires.0,
  index_kept c.args.st.now c.loop-switches.st c.args.links.now c.args.index.now c.loop-switches.invariant.same_m c.requires.1,
)

pub returns-in-Err : goal.returns-in-Err
unfolding ears_answer
returns-in-Err c =
    let begun : List ℕ → List ℕ → Session = λ ducts tree3. session_in c.args.st.now c.args.links.now ducts c.args.used.now c.args.births.now c.args.order.now c.args.tree1.now c.args.tree2.now tree3 in
    let reached : List ℕ → List ℕ → Session = λ ducts tree3. session_in c.loop-switches.st c.args.links.now ducts c.loop-switches.used c.loop-switches.births c.loop-switches.order c.loop-switches.tree1 c.loop-switches.tree2 tree3 in
    let after : List ℕ → List ℕ → Session = λ ducts tree3. session_in c.ear_in-answer.new.st c.args.links.now ducts c.ear_in-answer.new.used c.ear_in-answer.new.births c.ear_in-answer.new.order c.ear_in-answer.new.tree1 c.ear_in-answer.new.tree2 tree3 in
    reaches_end c.args.list.now begun reached c.loop-switches.accepted c.loop-switches.invariant.reaches c.in-Some.ensures after c.in-Err.ensures

pub loop-switches-preserved : goal.loop-switches-preserved
loop-switches-preserved c =
    let begun : List ℕ → List ℕ → Session = λ ducts tree3. session_in c.args.st.now c.args.links.now ducts c.args.used.now c.args.births.now c.args.order.now c.args.tree1.now c.args.tree2.now tree3 in
    let reached : List ℕ → List ℕ → Session = λ ducts tree3. session_in c.loop-switches.st c.args.links.now ducts c.loop-switches.used c.loop-switches.births c.loop-switches.order c.loop-switches.tree1 c.loop-switches.tree2 tree3 in
    let after : List ℕ → List ℕ → Session = λ ducts tree3. session_in c.ear_in-answer.new.st c.args.links.now ducts c.ear_in-answer.new.used c.ear_in-answer.new.births c.ear_in-answer.new.order c.ear_in-answer.new.tree1 c.ear_in-answer.new.tree2 tree3 in
    record {
      reaches = reaches_more c.args.list.now begun reached c.loop-switches.accepted c.loop-switches.invariant.reaches c.in-Some.ensures after c.in_default-answer.ensures;
      same_m = same_m (reached [] []) (after [] []) c.in-Some.switches.now (c.in_default-answer.ensures [] []) ∙ c.loop-switches.invariant.same_m;
    }

pub returns : goal.returns
unfolding ears_answer
returns c =
    let begun : List ℕ → List ℕ → Session = λ ducts tree3. session_in c.args.st.now c.args.links.now ducts c.args.used.now c.args.births.now c.args.order.now c.args.tree1.now c.args.tree2.now tree3 in
    let reached : List ℕ → List ℕ → Session = λ ducts tree3. session_in c.loop-switches.st c.args.links.now ducts c.loop-switches.used c.loop-switches.births c.loop-switches.order c.loop-switches.tree1 c.loop-switches.tree2 tree3 in
    reaches_all c.args.list.now begun reached c.loop-switches.accepted c.loop-switches.invariant.reaches c.in_default.ensures
