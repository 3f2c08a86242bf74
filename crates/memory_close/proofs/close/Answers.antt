use mathlib.Core.Path.{◌≡◌, refl, sym, ap, ◌∙◌}
use mathlib.Core.Bool.{false}
use mathlib.Core.List.{List}
use Prim.Native.Nat.{ℕ}
use lib.ListN.{length}
use Rattle.std.specs.Prelude.{Result}
use Rattle.refusals.specs.declared.Refusal.{Refusal as Refusal·}
use Rattle.mondschein.specs.Order.{shortest}
use Rattle.closing.specs.Closing.{close_answer}
use Rattle.in_place.specs.declared.Session.{Session}
use Rattle.in_place.specs.declared.State.{State}
use Rattle.in_place.specs.Session.{closed_by}
use Rattle.in_place.specs.InPlace.{session_in}
use Rattle.session.specs.Calls.{called}
use Rattle.memory.specs.Program.{called_in}
use Rattle.memory.specs.Memory.{Memory, numbers_by, memory_by, session_at, wrong_lengths}
use Rattle.memory.proofs.Returns.{close_leaves, lengths_wrong, lengths_right, refusing_call, granting_call, close_numbers, lengths_close, right}
use Rattle.memory_close.proofs.close.Goals as goal

pub returns-then-wrong_lengths : goal.returns-then-wrong_lengths
returns-then-wrong_lengths c =
    λ ducts order tree1 tree2 d o p q. (lengths_wrong _ _ 0 (lengths_close _ _ _ _ _ _ _ _ d o p q ∙ sym c.wrong_lengths.ensures ∙ c.if-wrong_lengths.true) refl).returns

pub close_in-closed-requires : goal.close_in-closed-requires
close_in-closed-requires c =
    let right_lengths : wrong_lengths (length c.args.links.now) 4096 (length c.args.used.now) (length c.args.births.now) 1024 1024 1024 (length c.args.tree3.now) ≡ false = sym c.wrong_lengths.ensures ∙ c.if-wrong_lengths.false in
    let (l, d, u, b, o, p, q, t) = right _ _ _ _ _ _ _ _ right_lengths in record { links = l; births = b; tree3 = t }

pub returns-in-Err : goal.returns-in-Err
unfolding called_in called
returns-in-Err c =
    let held : List ℕ → List ℕ → List ℕ → List ℕ → Memory = λ (ducts : List ℕ) (order : List ℕ) (tree1 : List ℕ) (tree2 : List ℕ). memory_by (numbers_by c.args.stage.now c.args.n c.args.m c.args.root c.args.first c.args.last c.args.longs c.args.born) c.args.links.now ducts c.args.used.now c.args.births.now order tree1 tree2 c.args.tree3.now in
    let right_lengths : wrong_lengths (length c.args.links.now) 4096 (length c.args.used.now) (length c.args.births.now) 1024 1024 1024 (length c.args.tree3.now) ≡ false = sym c.wrong_lengths.ensures ∙ c.if-wrong_lengths.false in
    let after : List ℕ → List ℕ → List ℕ → List ℕ → Session = λ (ducts : List ℕ) (order : List ℕ) (tree1 : List ℕ) (tree2 : List ℕ). session_in c.close_in-closed.new.st c.args.links.now ducts c.args.used.now c.args.births.now order tree1 tree2 c.close_in-closed.new.tree3 in
    let answered : (ducts order tree1 tree2 : List ℕ) (x : Result (Unit {0}) Refusal·) → c.close_in-closed.result ≡ x → record { answer = close_answer x; after = after ducts order tree1 tree2 } ≡ closed_by shortest (session_at (held ducts order tree1 tree2)) = λ ducts order tree1 tree2 x q. ap (λ (y : Result (Unit {0}) Refusal·). record { answer = close_answer y; after = after ducts order tree1 tree2 }) (sym q) ∙ c.close_in-closed.ensures ducts order tree1 tree2 ∙ ap (λ (st : State). closed_by shortest (session_in st c.args.links.now ducts c.args.used.now c.args.births.now order tree1 tree2 c.args.tree3.now)) c.state_of-st.ensures in
    λ ducts order tree1 tree2 d o p q.
    (lengths_right _ _ 0 (lengths_close _ _ _ _ _ _ _ _ d o p q ∙ right_lengths)
    (refusing_call (held ducts order tree1 tree2) _ (after ducts order tree1 tree2) 0 (close_leaves shortest _)
    (answered ducts order tree1 tree2 _ c.in-Err.is) c.from.ensures)
    ).returns

pub returns-in-Ok : goal.returns-in-Ok
unfolding called_in called
returns-in-Ok c =
    let held : List ℕ → List ℕ → List ℕ → List ℕ → Memory = λ (ducts : List ℕ) (order : List ℕ) (tree1 : List ℕ) (tree2 : List ℕ). memory_by (numbers_by c.args.stage.now c.args.n c.args.m c.args.root c.args.first c.args.last c.args.longs c.args.born) c.args.links.now ducts c.args.used.now c.args.births.now order tree1 tree2 c.args.tree3.now in
    let right_lengths : wrong_lengths (length c.args.links.now) 4096 (length c.args.used.now) (length c.args.births.now) 1024 1024 1024 (length c.args.tree3.now) ≡ false = sym c.wrong_lengths.ensures ∙ c.if-wrong_lengths.false in
    let after : List ℕ → List ℕ → List ℕ → List ℕ → Session = λ (ducts : List ℕ) (order : List ℕ) (tree1 : List ℕ) (tree2 : List ℕ). session_in c.close_in-closed.new.st c.args.links.now ducts c.args.used.now c.args.births.now order tree1 tree2 c.close_in-closed.new.tree3 in
    let answered : (ducts order tree1 tree2 : List ℕ) (x : Result (Unit {0}) Refusal·) → c.close_in-closed.result ≡ x → record { answer = close_answer x; after = after ducts order tree1 tree2 } ≡ closed_by shortest (session_at (held ducts order tree1 tree2)) = λ ducts order tree1 tree2 x q. ap (λ (y : Result (Unit {0}) Refusal·). record { answer = close_answer y; after = after ducts order tree1 tree2 }) (sym q) ∙ c.close_in-closed.ensures ducts order tree1 tree2 ∙ ap (λ (st : State). closed_by shortest (session_in st c.args.links.now ducts c.args.used.now c.args.births.now order tree1 tree2 c.args.tree3.now)) c.state_of-st.ensures in
    λ ducts order tree1 tree2 d o p q.
    let told = answered ducts order tree1 tree2 _ c.in-Ok.is in
    (lengths_right _ _ 0 (lengths_close _ _ _ _ _ _ _ _ d o p q ∙ right_lengths)
    (granting_call (held ducts order tree1 tree2) _ (after ducts order tree1 tree2) 0 told refl
    (close_numbers (held ducts order tree1 tree2) (after ducts order tree1 tree2) told))
    ).returns
