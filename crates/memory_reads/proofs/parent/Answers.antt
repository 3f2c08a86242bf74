use mathlib.Core.Path.{◌≡◌, refl, sym, ap, ◌∙◌}
use mathlib.Core.Bool.{false}
use mathlib.Core.List.{List}
use Prim.Native.Nat.{ℕ}
use lib.ListN.{length}
use Rattle.std.specs.Prelude.{Result}
use Rattle.refusals.specs.declared.Refusal.{Refusal as Refusal·}
use Rattle.in_place.specs.declared.State.{State}
use Rattle.in_place.specs.InPlace.{session_in}
use Rattle.in_place.specs.Queries.{parent_by}
use Rattle.walks.specs.Walks.{parent_answer}
use Rattle.memory.specs.Memory.{numbers_by, memory_by, session_at, wrong_lengths, output_of}
use Rattle.memory.proofs.Returns.{refusing, granting, lengths_wrong, lengths_right, lengths_trees}
use Rattle.memory_reads.proofs.parent.Goals as goal

pub returns-then-wrong_lengths : goal.returns-then-wrong_lengths
returns-then-wrong_lengths c =
    λ links ducts used births order l d u b o. lengths_wrong _ _ _ (lengths_trees _ _ _ _ _ _ _ _ l d u b o ∙ sym c.wrong_lengths.ensures ∙ c.if-wrong_lengths.true) refl

pub returns-in-Err : goal.returns-in-Err
returns-in-Err c =
    let right_lengths : wrong_lengths 8192 4096 4096 1024 1024 (length c.args.tree1.now) (length c.args.tree2.now) (length c.args.tree3.now) ≡ false = sym c.wrong_lengths.ensures ∙ c.if-wrong_lengths.false in
    let answered : (p : Result ℕ Refusal·) → c.parent_in-answer.result ≡ p → (links ducts used births order : List ℕ) → parent_by (session_at (memory_by (numbers_by c.args.stage c.args.n c.args.m c.args.root c.args.first c.args.last c.args.longs c.args.born) links ducts used births order c.args.tree1.now c.args.tree2.now c.args.tree3.now)) c.args.switch c.args.tree ≡ parent_answer p = λ p q links ducts used births order. sym (ap (λ (st : State). parent_by (session_in st links ducts used births order c.args.tree1.now c.args.tree2.now c.args.tree3.now) c.args.switch c.args.tree) c.state_of-st.ensures) ∙ sym (c.parent_in-answer.ensures links ducts used births order) ∙ ap parent_answer q in
    λ links ducts used births order l d u b o. lengths_right _ _ _ (lengths_trees _ _ _ _ _ _ _ _ l d u b o ∙ right_lengths)
    (refusing _ _ (answered _ c.in-Err.is links ducts used births order) c.from.ensures refl)

pub returns-in-Ok : goal.returns-in-Ok
unfolding output_of
returns-in-Ok c =
    let right_lengths : wrong_lengths 8192 4096 4096 1024 1024 (length c.args.tree1.now) (length c.args.tree2.now) (length c.args.tree3.now) ≡ false = sym c.wrong_lengths.ensures ∙ c.if-wrong_lengths.false in
    let answered : (p : Result ℕ Refusal·) → c.parent_in-answer.result ≡ p → (links ducts used births order : List ℕ) → parent_by (session_at (memory_by (numbers_by c.args.stage c.args.n c.args.m c.args.root c.args.first c.args.last c.args.longs c.args.born) links ducts used births order c.args.tree1.now c.args.tree2.now c.args.tree3.now)) c.args.switch c.args.tree ≡ parent_answer p = λ p q links ducts used births order. sym (ap (λ (st : State). parent_by (session_in st links ducts used births order c.args.tree1.now c.args.tree2.now c.args.tree3.now) c.args.switch c.args.tree) c.state_of-st.ensures) ∙ sym (c.parent_in-answer.ensures links ducts used births order) ∙ ap parent_answer q in
    λ links ducts used births order l d u b o. lengths_right _ _ _ (lengths_trees _ _ _ _ _ _ _ _ l d u b o ∙ right_lengths)
    (granting _ _ (answered _ c.in-Ok.is links ducts used births order) refl refl)
