use mathlib.Core.Path.{◌≡◌, refl, sym, ap, ◌∙◌}
use mathlib.Core.Bool.{false}
use mathlib.Core.List.{List}
use Prim.Native.Nat.{ℕ}
use lib.ListN.{length}
use Rattle.std.specs.Prelude.{Result}
use Rattle.refusals.specs.declared.Refusal.{Refusal as Refusal·}
use Rattle.mondschein.specs.Outcome.{Outcome}
use Rattle.walks.specs.Walks.{walk_answer}
use Rattle.in_place.specs.declared.State.{State}
use Rattle.in_place.specs.InPlace.{session_in}
use Rattle.in_place.specs.Queries.{walked_by}
use Rattle.memory.specs.Memory.{numbers_by, memory_by, session_at, wrong_lengths, output_of}
use Rattle.memory.proofs.Returns.{refusing, granting, lengths_wrong, lengths_right, lengths_trees}
use Rattle.memory_reads.proofs.walk.Goals as goal

pub returns-then-wrong_lengths : goal.returns-then-wrong_lengths
returns-then-wrong_lengths c =
    λ links ducts used births order l d u b o. lengths_wrong _ _ _ (lengths_trees _ _ _ _ _ _ _ _ l d u b o ∙ sym c.wrong_lengths.ensures ∙ c.if-wrong_lengths.true) refl

pub returns-in-Err : goal.returns-in-Err
returns-in-Err c =
    let right_lengths : wrong_lengths 8192 4096 4096 1024 1024 (length c.args.tree1.now) (length c.args.tree2.now) (length c.args.tree3.now) ≡ false = sym c.wrong_lengths.ensures ∙ c.if-wrong_lengths.false in
    let walked : (links ducts used births order : List ℕ) → record { answer = walk_answer c.walk_in-answer.result; after = c.walk_in-answer.new.out } ≡ walked_by (session_at (memory_by (numbers_by c.args.stage c.args.n c.args.m c.args.root c.args.first c.args.last c.args.longs c.args.born) links ducts used births order c.args.tree1.now c.args.tree2.now c.args.tree3.now)) c.args.switch c.args.tree c.args.out.now = λ links ducts used births order. c.walk_in-answer.ensures links ducts used births order ∙ ap (λ (st : State). walked_by (session_in st links ducts used births order c.args.tree1.now c.args.tree2.now c.args.tree3.now) c.args.switch c.args.tree c.args.out.now) c.state_of-st.ensures in
    λ links ducts used births order l d u b o.
    let w = walked links ducts used births order in
    lengths_right _ _ _ (lengths_trees _ _ _ _ _ _ _ _ l d u b o ∙ right_lengths)
    (refusing _ _ (sym (ap (λ (x : Outcome (List ℕ)). x.answer) w) ∙ ap walk_answer c.in-Err.is) c.from.ensures (ap (λ (x : Outcome (List ℕ)). x.after) w))

pub returns-in-Ok : goal.returns-in-Ok
unfolding output_of
returns-in-Ok c =
    let right_lengths : wrong_lengths 8192 4096 4096 1024 1024 (length c.args.tree1.now) (length c.args.tree2.now) (length c.args.tree3.now) ≡ false = sym c.wrong_lengths.ensures ∙ c.if-wrong_lengths.false in
    let walked : (links ducts used births order : List ℕ) → record { answer = walk_answer c.walk_in-answer.result; after = c.walk_in-answer.new.out } ≡ walked_by (session_at (memory_by (numbers_by c.args.stage c.args.n c.args.m c.args.root c.args.first c.args.last c.args.longs c.args.born) links ducts used births order c.args.tree1.now c.args.tree2.now c.args.tree3.now)) c.args.switch c.args.tree c.args.out.now = λ links ducts used births order. c.walk_in-answer.ensures links ducts used births order ∙ ap (λ (st : State). walked_by (session_in st links ducts used births order c.args.tree1.now c.args.tree2.now c.args.tree3.now) c.args.switch c.args.tree c.args.out.now) c.state_of-st.ensures in
    λ links ducts used births order l d u b o.
    let w = walked links ducts used births order in
    lengths_right _ _ _ (lengths_trees _ _ _ _ _ _ _ _ l d u b o ∙ right_lengths)
    (granting _ _ (sym (ap (λ (x : Outcome (List ℕ)). x.answer) w) ∙ ap walk_answer c.in-Ok.is) refl (ap (λ (x : Outcome (List ℕ)). x.after) w))
