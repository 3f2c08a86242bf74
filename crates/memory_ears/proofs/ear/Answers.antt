use mathlib.Core.Path.{◌≡◌, refl, sym, ap, ◌∙◌}
use mathlib.Core.Bool.{false}
use mathlib.Core.List.{List}
use Prim.Native.Nat.{ℕ}
use lib.ListN.{length}
use Rattle.std.specs.Prelude.{Result}
use Rattle.refusals.specs.declared.Refusal.{Refusal as Refusal·}
use Rattle.judge.specs.Ear.{ear_answer}
use Rattle.in_place.specs.declared.Session.{Session}
use Rattle.in_place.specs.declared.State.{State}
use Rattle.in_place.specs.Session.{offered_by}
use Rattle.in_place.specs.InPlace.{session_in}
use Rattle.session.specs.Calls.{called}
use Rattle.memory.specs.Program.{called_in}
use Rattle.memory.specs.Memory.{Memory, numbers_by, memory_by, session_at, wrong_lengths, output_of}
use Rattle.memory.proofs.Returns.{ear_leaves, lengths_wrong, lengths_right, refusing_call, granting_call, ear_numbers_lem, lengths_ear, right}
use Rattle.memory_ears.proofs.ear.Goals as goal

pub returns-then-wrong_lengths : goal.returns-then-wrong_lengths
returns-then-wrong_lengths c =
    λ ducts tree3 d t. lengths_wrong _ _ _ (lengths_ear _ _ _ _ _ _ _ _ d t ∙ sym c.wrong_lengths.ensures ∙ c.if-wrong_lengths.true) refl

pub ear-offered-requires : goal.ear-offered-requires
ear-offered-requires c =
    let right_lengths : wrong_lengths (length c.args.links.now) 4096 (length c.args.used.now) (length c.args.births.now) (length c.args.order.now) (length c.args.tree1.now) (length c.args.tree2.now) 1024 ≡ false = sym c.wrong_lengths.ensures ∙ c.if-wrong_lengths.false in
    let lengths = right _ _ _ _ _ _ _ _ right_lengths in
    (lengths.0, lengths.4)

pub returns-in-Err : goal.returns-in-Err
unfolding called_in called
returns-in-Err c =
    let held : List ℕ → List ℕ → Memory = λ (ducts : List ℕ) (tree3 : List ℕ). memory_by (numbers_by c.args.stage c.args.n c.args.m c.args.root c.args.first c.args.last c.args.longs.now c.args.born.now) c.args.links.now ducts c.args.used.now c.args.births.now c.args.order.now c.args.tree1.now c.args.tree2.now tree3 in
    let right_lengths : wrong_lengths (length c.args.links.now) 4096 (length c.args.used.now) (length c.args.births.now) (length c.args.order.now) (length c.args.tree1.now) (length c.args.tree2.now) 1024 ≡ false = sym c.wrong_lengths.ensures ∙ c.if-wrong_lengths.false in
    let after : List ℕ → List ℕ → Session = λ (ducts : List ℕ) (tree3 : List ℕ). session_in c.ear-offered.new.st c.args.links.now ducts c.ear-offered.new.used c.ear-offered.new.births c.ear-offered.new.order c.ear-offered.new.tree1 c.ear-offered.new.tree2 tree3 in
    let answered : (ducts tree3 : List ℕ) (x : Result ℕ Refusal·) → c.ear-offered.result ≡ x → record { answer = ear_answer x; after = after ducts tree3 } ≡ offered_by (session_at (held ducts tree3)) c.args.ear.now = λ ducts tree3 x q. ap (λ (y : Result ℕ Refusal·). record { answer = ear_answer y; after = after ducts tree3 }) (sym q) ∙ c.ear-offered.ensures ducts tree3 ∙ ap (λ (st : State). offered_by (session_in st c.args.links.now ducts c.args.used.now c.args.births.now c.args.order.now c.args.tree1.now c.args.tree2.now tree3) c.args.ear.now) c.state_of-st.ensures in
    λ ducts tree3 d t.
    lengths_right _ _ _ (lengths_ear _ _ _ _ _ _ _ _ d t ∙ right_lengths)
    (refusing_call (held ducts tree3) _ (after ducts tree3) _ (ear_leaves _ _) (answered ducts tree3 _ c.in-Err.is) c.from.ensures)

pub returns-in-Ok : goal.returns-in-Ok
unfolding called_in called output_of
returns-in-Ok c =
    let held : List ℕ → List ℕ → Memory = λ (ducts : List ℕ) (tree3 : List ℕ). memory_by (numbers_by c.args.stage c.args.n c.args.m c.args.root c.args.first c.args.last c.args.longs.now c.args.born.now) c.args.links.now ducts c.args.used.now c.args.births.now c.args.order.now c.args.tree1.now c.args.tree2.now tree3 in
    let right_lengths : wrong_lengths (length c.args.links.now) 4096 (length c.args.used.now) (length c.args.births.now) (length c.args.order.now) (length c.args.tree1.now) (length c.args.tree2.now) 1024 ≡ false = sym c.wrong_lengths.ensures ∙ c.if-wrong_lengths.false in
    let after : List ℕ → List ℕ → Session = λ (ducts : List ℕ) (tree3 : List ℕ). session_in c.ear-offered.new.st c.args.links.now ducts c.ear-offered.new.used c.ear-offered.new.births c.ear-offered.new.order c.ear-offered.new.tree1 c.ear-offered.new.tree2 tree3 in
    let answered : (ducts tree3 : List ℕ) (x : Result ℕ Refusal·) → c.ear-offered.result ≡ x → record { answer = ear_answer x; after = after ducts tree3 } ≡ offered_by (session_at (held ducts tree3)) c.args.ear.now = λ ducts tree3 x q. ap (λ (y : Result ℕ Refusal·). record { answer = ear_answer y; after = after ducts tree3 }) (sym q) ∙ c.ear-offered.ensures ducts tree3 ∙ ap (λ (st : State). offered_by (session_in st c.args.links.now ducts c.args.used.now c.args.births.now c.args.order.now c.args.tree1.now c.args.tree2.now tree3) c.args.ear.now) c.state_of-st.ensures in
    λ ducts tree3 d t.
    let q = answered ducts tree3 _ c.in-Ok.is in
    lengths_right _ _ _ (lengths_ear _ _ _ _ _ _ _ _ d t ∙ right_lengths)
    (granting_call (held ducts tree3) _ (after ducts tree3) _ q refl (ear_numbers_lem (held ducts tree3) (after ducts tree3) _ q))
