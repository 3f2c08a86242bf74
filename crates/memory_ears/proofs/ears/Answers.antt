use mathlib.Core.Path.{◌≡◌, refl, sym, ap, ◌∙◌}
use mathlib.Core.Bool.{false}
use mathlib.Core.List.{List}
use Prim.Native.Nat.{ℕ}
use lib.ListN.{length}
use Rattle.std.specs.Prelude.{Result}
use Rattle.refusals.specs.declared.Refusal.{Refusal as Refusal·}
use Rattle.offering.specs.declared.ListRefusal.{ListRefusal}
use Rattle.in_place.specs.declared.Session.{Session}
use Rattle.in_place.specs.declared.State.{State}
use Rattle.in_place.specs.Session.{listed_by}
use Rattle.in_place.specs.InPlace.{session_in}
use Rattle.offering.specs.Offering.{ears_answer}
use Rattle.memory.specs.Memory.{Memory, numbers_by, memory_by, session_at, wrong_lengths, end_of, output_of}
use Rattle.memory.proofs.Returns.{list_wrong, list_right, listing_call, lengths_ear, right}
use Rattle.memory_ears.proofs.ears.Goals as goal

pub returns-then-wrong_lengths : goal.returns-then-wrong_lengths
returns-then-wrong_lengths c =
    λ ducts tree3 d t. list_wrong _ _ _ (lengths_ear _ _ _ _ _ _ _ _ d t ∙ sym c.wrong_lengths.ensures ∙ c.if-wrong_lengths.true) refl

pub ears-listed-requires : goal.ears-listed-requires
ears-listed-requires c =
    let right_lengths : wrong_lengths (length c.args.links.now) 4096 (length c.args.used.now) (length c.args.births.now) (length c.args.order.now) (length c.args.tree1.now) (length c.args.tree2.now) 1024 ≡ false = sym c.wrong_lengths.ensures ∙ c.if-wrong_lengths.false in
    let lengths = right _ _ _ _ _ _ _ _ right_lengths in
    (lengths.0, lengths.4)

pub returns-in-Ok : goal.returns-in-Ok
unfolding ears_answer end_of output_of
returns-in-Ok c =
    let held : List ℕ → List ℕ → Memory = λ (ducts : List ℕ) (tree3 : List ℕ). memory_by (numbers_by c.args.stage c.args.n c.args.m c.args.root c.args.first c.args.last c.args.longs.now c.args.born.now) c.args.links.now ducts c.args.used.now c.args.births.now c.args.order.now c.args.tree1.now c.args.tree2.now tree3 in
    let right_lengths : wrong_lengths (length c.args.links.now) 4096 (length c.args.used.now) (length c.args.births.now) (length c.args.order.now) (length c.args.tree1.now) (length c.args.tree2.now) 1024 ≡ false = sym c.wrong_lengths.ensures ∙ c.if-wrong_lengths.false in
    let after : List ℕ → List ℕ → Session = λ (ducts : List ℕ) (tree3 : List ℕ). session_in c.ears-listed.new.st c.args.links.now ducts c.ears-listed.new.used c.ears-listed.new.births c.ears-listed.new.order c.ears-listed.new.tree1 c.ears-listed.new.tree2 tree3 in
    let answered : (ducts tree3 : List ℕ) (x : Result ℕ ListRefusal) → c.ears-listed.result ≡ x → record { answer = ears_answer x; after = after ducts tree3 } ≡ listed_by (session_at (held ducts tree3)) c.args.list.now = λ ducts tree3 x q. ap (λ (y : Result ℕ ListRefusal). record { answer = ears_answer y; after = after ducts tree3 }) (sym q) ∙ c.ears-listed.ensures ducts tree3 ∙ ap (λ (st : State). listed_by (session_in st c.args.links.now ducts c.args.used.now c.args.births.now c.args.order.now c.args.tree1.now c.args.tree2.now tree3) c.args.list.now) c.state_of-reached.ensures in
    λ ducts tree3 d t.
    list_right _ _ _ (lengths_ear _ _ _ _ _ _ _ _ d t ∙ right_lengths)
    (listing_call (held ducts tree3) _ _ _ (after ducts tree3) (answered ducts tree3 _ c.in-Ok.is) refl refl)

pub returns-in-Err : goal.returns-in-Err
unfolding ears_answer end_of output_of
returns-in-Err c =
    let held : List ℕ → List ℕ → Memory = λ (ducts : List ℕ) (tree3 : List ℕ). memory_by (numbers_by c.args.stage c.args.n c.args.m c.args.root c.args.first c.args.last c.args.longs.now c.args.born.now) c.args.links.now ducts c.args.used.now c.args.births.now c.args.order.now c.args.tree1.now c.args.tree2.now tree3 in
    let right_lengths : wrong_lengths (length c.args.links.now) 4096 (length c.args.used.now) (length c.args.births.now) (length c.args.order.now) (length c.args.tree1.now) (length c.args.tree2.now) 1024 ≡ false = sym c.wrong_lengths.ensures ∙ c.if-wrong_lengths.false in
    let after : List ℕ → List ℕ → Session = λ (ducts : List ℕ) (tree3 : List ℕ). session_in c.ears-listed.new.st c.args.links.now ducts c.ears-listed.new.used c.ears-listed.new.births c.ears-listed.new.order c.ears-listed.new.tree1 c.ears-listed.new.tree2 tree3 in
    let answered : (ducts tree3 : List ℕ) (x : Result ℕ ListRefusal) → c.ears-listed.result ≡ x → record { answer = ears_answer x; after = after ducts tree3 } ≡ listed_by (session_at (held ducts tree3)) c.args.list.now = λ ducts tree3 x q. ap (λ (y : Result ℕ ListRefusal). record { answer = ears_answer y; after = after ducts tree3 }) (sym q) ∙ c.ears-listed.ensures ducts tree3 ∙ ap (λ (st : State). listed_by (session_in st c.args.links.now ducts c.args.used.now c.args.births.now c.args.order.now c.args.tree1.now c.args.tree2.now tree3) c.args.list.now) c.state_of-reached.ensures in
    λ ducts tree3 d t.
    list_right _ _ _ (lengths_ear _ _ _ _ _ _ _ _ d t ∙ right_lengths)
    (listing_call (held ducts tree3) _ _ _ (after ducts tree3) (answered ducts tree3 _ c.in-Err.is) c.from.ensures refl)
