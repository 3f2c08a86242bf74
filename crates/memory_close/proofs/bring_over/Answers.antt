use mathlib.Core.Path.{◌≡◌, refl, sym, ap, ◌∙◌}
use mathlib.Core.Bool.{false}
use mathlib.Core.List.{List}
use Prim.Native.Nat.{ℕ}
use lib.ListN.{length}
use Rattle.std.specs.Prelude.{Result}
use Rattle.refusals.specs.declared.Refusal.{Refusal as Refusal·}
use Rattle.in_place.specs.declared.Session.{Session}
use Rattle.in_place.specs.declared.State.{State}
use Rattle.in_place.specs.Session.{brought_by}
use Rattle.in_place.specs.InPlace.{session_in}
use Rattle.bringing.specs.Bringing.{bring_answer, BringsIn}
use Rattle.session.specs.Calls.{called}
use Rattle.memory.specs.Program.{called_in}
use Rattle.memory.specs.Memory.{Memory, numbers_by, memory_by, state_of, session_at, wrong_lengths}
use Rattle.memory.proofs.Returns.{bring_leaves, lengths_wrong, lengths_right, refusing_call, granting_call, bring_numbers, lengths_bring, right}
use Rattle.memory_close.proofs.bring_over.Goals as goal

pub returns-then-wrong_lengths : goal.returns-then-wrong_lengths
returns-then-wrong_lengths c =
    λ ducts used order tree1 tree2 d u o p q. (lengths_wrong _ _ 0 (lengths_bring _ _ _ _ _ _ _ _ d u o p q ∙ sym c.wrong_lengths.ensures ∙ c.if-wrong_lengths.true) refl).returns

pub bring_over-answer-requires : goal.bring_over-answer-requires
bring_over-answer-requires c =
    let right_lengths : wrong_lengths (length c.args.links.now) 4096 4096 (length c.args.births.now) 1024 1024 1024 (length c.args.tree3.now) ≡ false = sym c.wrong_lengths.ensures ∙ c.if-wrong_lengths.false in
    let (l, d, u, b, o, p, q, t) = right _ _ _ _ _ _ _ _ right_lengths in record { links = l; births = b; tree3 = t }

pub returns-in-Err : goal.returns-in-Err
unfolding called_in called
returns-in-Err c =
    let held : List ℕ → List ℕ → List ℕ → List ℕ → List ℕ → Memory = λ (ducts : List ℕ) (used : List ℕ) (order : List ℕ) (tree1 : List ℕ) (tree2 : List ℕ). memory_by (numbers_by c.args.stage c.args.n c.args.m c.args.root c.args.first c.args.last c.args.longs c.args.born) c.args.links.now ducts used c.args.births.now order tree1 tree2 c.args.tree3.now in
    let right_lengths : wrong_lengths (length c.args.links.now) 4096 4096 (length c.args.births.now) 1024 1024 1024 (length c.args.tree3.now) ≡ false = sym c.wrong_lengths.ensures ∙ c.if-wrong_lengths.false in
    let left : List ℕ → List ℕ → List ℕ → List ℕ → List ℕ → Session = λ (ducts : List ℕ) (used : List ℕ) (order : List ℕ) (tree1 : List ℕ) (tree2 : List ℕ). let mem = held ducts used order tree1 tree2 in session_in (state_of mem.numbers) c.args.links.now ducts used c.args.births.now order tree1 tree2 c.bring_over-answer.new.tree3 in
    let answered : (ducts used order tree1 tree2 : List ℕ) (x : Result (Unit {0}) Refusal·) → c.bring_over-answer.result ≡ x → record { answer = bring_answer x; after = left ducts used order tree1 tree2 } ≡ brought_by (session_at (held ducts used order tree1 tree2)) = λ ducts used order tree1 tree2 x q. let called : BringsIn c.state_of-st.result c.args.links.now c.args.births.now c.args.tree3.now c.bring_over-answer.result c.bring_over-answer.new.tree3 = c.bring_over-answer.ensures in ap (λ (y : Result (Unit {0}) Refusal·). record { answer = bring_answer y; after = left ducts used order tree1 tree2 }) (sym q) ∙ ap (λ (st : State). record { answer = bring_answer c.bring_over-answer.result; after = session_in st c.args.links.now ducts used c.args.births.now order tree1 tree2 c.bring_over-answer.new.tree3 }) (sym c.state_of-st.ensures) ∙ called ducts used order tree1 tree2 ∙ ap (λ (st : State). brought_by (session_in st c.args.links.now ducts used c.args.births.now order tree1 tree2 c.args.tree3.now)) c.state_of-st.ensures in
    λ ducts used order tree1 tree2 d u o p q.
    let mem = held ducts used order tree1 tree2 in
    let refused =
    (lengths_right mem _ 0 (lengths_bring _ _ _ _ _ _ _ _ d u o p q ∙ right_lengths)
    (refusing_call mem _ (left ducts used order tree1 tree2) 0 (bring_leaves _) (answered ducts used order tree1 tree2 _ c.in-Err.is) c.from.ensures)
    ).returns in
    record { refusal = refused.refusal; left = refused.left }

pub returns-in-Ok : goal.returns-in-Ok
unfolding called_in called
returns-in-Ok c =
    let held : List ℕ → List ℕ → List ℕ → List ℕ → List ℕ → Memory = λ (ducts : List ℕ) (used : List ℕ) (order : List ℕ) (tree1 : List ℕ) (tree2 : List ℕ). memory_by (numbers_by c.args.stage c.args.n c.args.m c.args.root c.args.first c.args.last c.args.longs c.args.born) c.args.links.now ducts used c.args.births.now order tree1 tree2 c.args.tree3.now in
    let right_lengths : wrong_lengths (length c.args.links.now) 4096 4096 (length c.args.births.now) 1024 1024 1024 (length c.args.tree3.now) ≡ false = sym c.wrong_lengths.ensures ∙ c.if-wrong_lengths.false in
    let left : List ℕ → List ℕ → List ℕ → List ℕ → List ℕ → Session = λ (ducts : List ℕ) (used : List ℕ) (order : List ℕ) (tree1 : List ℕ) (tree2 : List ℕ). let mem = held ducts used order tree1 tree2 in session_in (state_of mem.numbers) c.args.links.now ducts used c.args.births.now order tree1 tree2 c.bring_over-answer.new.tree3 in
    let answered : (ducts used order tree1 tree2 : List ℕ) (x : Result (Unit {0}) Refusal·) → c.bring_over-answer.result ≡ x → record { answer = bring_answer x; after = left ducts used order tree1 tree2 } ≡ brought_by (session_at (held ducts used order tree1 tree2)) = λ ducts used order tree1 tree2 x q. let called : BringsIn c.state_of-st.result c.args.links.now c.args.births.now c.args.tree3.now c.bring_over-answer.result c.bring_over-answer.new.tree3 = c.bring_over-answer.ensures in ap (λ (y : Result (Unit {0}) Refusal·). record { answer = bring_answer y; after = left ducts used order tree1 tree2 }) (sym q) ∙ ap (λ (st : State). record { answer = bring_answer c.bring_over-answer.result; after = session_in st c.args.links.now ducts used c.args.births.now order tree1 tree2 c.bring_over-answer.new.tree3 }) (sym c.state_of-st.ensures) ∙ called ducts used order tree1 tree2 ∙ ap (λ (st : State). brought_by (session_in st c.args.links.now ducts used c.args.births.now order tree1 tree2 c.args.tree3.now)) c.state_of-st.ensures in
    λ ducts used order tree1 tree2 d u o p q.
    let told = answered ducts used order tree1 tree2 _ c.in-Ok.is in
    (lengths_right _ _ 0 (lengths_bring _ _ _ _ _ _ _ _ d u o p q ∙ right_lengths)
    (granting_call (held ducts used order tree1 tree2) _ (left ducts used order tree1 tree2) 0 told refl
    (bring_numbers (held ducts used order tree1 tree2) (left ducts used order tree1 tree2) told))
    ).returns
