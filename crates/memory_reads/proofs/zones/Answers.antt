use mathlib.Core.Path.{◌≡◌, refl, sym, ap, ◌∙◌}
use mathlib.Core.Bool.{false}
use mathlib.Core.List.{List}
use Prim.Native.Nat.{ℕ}
use lib.ListN.{length}
use Rattle.std.specs.Prelude.{Result}
use Rattle.refusals.specs.declared.Refusal.{Refusal as Refusal·}
use Rattle.mondschein.specs.Outcome.{Outcome}
use Rattle.in_place.specs.declared.State.{State}
use Rattle.in_place.specs.InPlace.{session_in}
use Rattle.zoning.specs.Zoning.{zoned_answer, zoned_by}
use Rattle.memory.specs.Memory.{numbers_by, memory_by, session_at, wrong_lengths}
use Rattle.memory.proofs.Returns.{refusing, granting, lengths_wrong, lengths_right, lengths_zones, right}
use Rattle.memory_reads.proofs.zones.Goals as goal

pub returns-then-wrong_lengths : goal.returns-then-wrong_lengths
returns-then-wrong_lengths c =
    λ links ducts used tree1 tree2 tree3 l d u p q t. (lengths_wrong _ _ 0 (lengths_zones _ _ _ _ _ _ _ _ l d u p q t ∙ sym c.wrong_lengths.ensures ∙ c.if-wrong_lengths.true) refl).returns

pub zones_in-answer-requires : goal.zones_in-answer-requires
zones_in-answer-requires c =
    let right_lengths : wrong_lengths 8192 4096 4096 (length c.args.births.now) (length c.args.order.now) 1024 1024 1024 ≡ false = sym c.wrong_lengths.ensures ∙ c.if-wrong_lengths.false in
    let e = right _ _ _ _ _ _ _ _ right_lengths in (e.3, e.4)

pub returns-in-Err : goal.returns-in-Err
returns-in-Err c =
    let right_lengths : wrong_lengths 8192 4096 4096 (length c.args.births.now) (length c.args.order.now) 1024 1024 1024 ≡ false = sym c.wrong_lengths.ensures ∙ c.if-wrong_lengths.false in
    let zoned : (links ducts used tree1 tree2 tree3 : List ℕ) → record { answer = zoned_answer c.zones_in-answer.result; after = c.zones_in-answer.new.out } ≡ zoned_by (session_at (memory_by (numbers_by c.args.stage c.args.n c.args.m c.args.root c.args.first c.args.last c.args.longs c.args.born) links ducts used c.args.births.now c.args.order.now tree1 tree2 tree3)) c.args.size1 c.args.size2 c.args.size3 c.args.out.now = λ links ducts used tree1 tree2 tree3. c.zones_in-answer.ensures links ducts used tree1 tree2 tree3 ∙ ap (λ (st : State). zoned_by (session_in st links ducts used c.args.births.now c.args.order.now tree1 tree2 tree3) c.args.size1 c.args.size2 c.args.size3 c.args.out.now) c.state_of-st.ensures in
    λ links ducts used tree1 tree2 tree3 l d u p q t.
    let w = zoned links ducts used tree1 tree2 tree3 in
    (lengths_right _ _ 0 (lengths_zones _ _ _ _ _ _ _ _ l d u p q t ∙ right_lengths)
    (refusing _ 0 (sym (ap (λ (x : Outcome (List ℕ)). x.answer) w) ∙ ap zoned_answer c.in-Err.is) c.from.ensures (ap (λ (x : Outcome (List ℕ)). x.after) w))).returns

pub returns-in-Ok : goal.returns-in-Ok
returns-in-Ok c =
    let right_lengths : wrong_lengths 8192 4096 4096 (length c.args.births.now) (length c.args.order.now) 1024 1024 1024 ≡ false = sym c.wrong_lengths.ensures ∙ c.if-wrong_lengths.false in
    let zoned : (links ducts used tree1 tree2 tree3 : List ℕ) → record { answer = zoned_answer c.zones_in-answer.result; after = c.zones_in-answer.new.out } ≡ zoned_by (session_at (memory_by (numbers_by c.args.stage c.args.n c.args.m c.args.root c.args.first c.args.last c.args.longs c.args.born) links ducts used c.args.births.now c.args.order.now tree1 tree2 tree3)) c.args.size1 c.args.size2 c.args.size3 c.args.out.now = λ links ducts used tree1 tree2 tree3. c.zones_in-answer.ensures links ducts used tree1 tree2 tree3 ∙ ap (λ (st : State). zoned_by (session_in st links ducts used c.args.births.now c.args.order.now tree1 tree2 tree3) c.args.size1 c.args.size2 c.args.size3 c.args.out.now) c.state_of-st.ensures in
    λ links ducts used tree1 tree2 tree3 l d u p q t.
    let w = zoned links ducts used tree1 tree2 tree3 in
    (lengths_right _ _ 0 (lengths_zones _ _ _ _ _ _ _ _ l d u p q t ∙ right_lengths)
    (granting _ 0 (sym (ap (λ (x : Outcome (List ℕ)). x.answer) w) ∙ ap zoned_answer c.in-Ok.is) refl (ap (λ (x : Outcome (List ℕ)). x.after) w))).returns
