use Prim.Native.Nat.{ℕ, ◌≤◌}
use native.Mathlib.Omega.{arith}
use mathlib.Core.Path.{◌≡◌, refl, sym, ap, ◌∙◌}
use mathlib.Core.Bool.{false}
use lib.ListN.{length, take, length-take}
use Rattle.std.specs.Prelude.{List, Result}
use Rattle.refusals.specs.declared.Refusal.{Refusal as Refusal·}
use Rattle.network.specs.declared.Loaded.{Loaded}
use Rattle.mondschein.specs.Network.{Network}
use Rattle.network.specs.Load.{network_of, load_answer}
use Rattle.records.specs.Records.{numbers_of}
use Rattle.records.proofs.Records.{numbers_fit}
use Rattle.session.proofs.Arrays.{ends_sized, ducts_sized}
use Rattle.in_place.specs.declared.Session.{Session}
use Rattle.in_place.specs.declared.State.{State}
use Rattle.in_place.specs.Session.{loaded_by}
use Rattle.in_place.specs.InPlace.{session_in}
use Rattle.session.specs.Calls.{called}
use Rattle.memory.specs.Program.{called_in}
use Rattle.memory.specs.Memory.{Memory, numbers_by, memory_by, session_at, wrong_lengths}
use Rattle.memory.proofs.Returns.{load_leaves, lengths_wrong, lengths_right, refusing_call, granting_call, sizes}
use Rattle.memory_load.proofs.load_flat.Goals as goal

pub returns-then-wrong_lengths : goal.returns-then-wrong_lengths
returns-then-wrong_lengths c = (lengths_wrong _ _ 0 (sym c.wrong_lengths.ensures ∙ c.if-wrong_lengths.true) refl).returns

pub load-loaded-requires : goal.load-loaded-requires
load-loaded-requires c =
    let right_lengths : wrong_lengths (length c.args.links.now) (length c.args.ducts.now) (length c.args.used.now) (length c.args.births.now) (length c.args.order.now) (length c.args.tree1.now) (length c.args.tree2.now) (length c.args.tree3.now) ≡ false = sym c.wrong_lengths.ensures ∙ c.if-wrong_lengths.false in
    sizes _ _ _ _ _ _ _ _ right_lengths

pub returns-in-Err : goal.returns-in-Err
unfolding called_in called
returns-in-Err c =
    let held : Memory = memory_by (numbers_by c.args.stage.now c.args.n.now c.args.m.now c.args.root.now c.args.first.now c.args.last.now c.args.longs.now c.args.born.now) c.args.links.now c.args.ducts.now c.args.used.now c.args.births.now c.args.order.now c.args.tree1.now c.args.tree2.now c.args.tree3.now in
    let network : Network = network_of c.args.new_n (take (numbers_of c.args.count) c.args.flat.ends) c.args.new_root c.args.new_first c.args.new_last in
    let right_lengths : wrong_lengths (length c.args.links.now) (length c.args.ducts.now) (length c.args.used.now) (length c.args.births.now) (length c.args.order.now) (length c.args.tree1.now) (length c.args.tree2.now) (length c.args.tree3.now) ≡ false = sym c.wrong_lengths.ensures ∙ c.if-wrong_lengths.false in
    let after : Session = session_in c.load-loaded.new.st c.load-loaded.new.table c.load-loaded.new.row c.load-loaded.new.used c.load-loaded.new.births c.load-loaded.new.order c.load-loaded.new.tree1 c.load-loaded.new.tree2 c.load-loaded.new.tree3 in
    let answered : (x : Result Loaded Refusal·) → c.load-loaded.result ≡ x → record { answer = load_answer x; after = after } ≡ loaded_by (session_at held) network c.args.flat.ducts = λ x q. ap (λ (y : Result Loaded Refusal·). record { answer = load_answer y; after = after }) (sym q) ∙ c.load-loaded.ensures.loads_in ∙ ap (λ (l : List ℕ). loaded_by (session_in c.state_of-st.result c.args.links.now c.args.ducts.now c.args.used.now c.args.births.now c.args.order.now c.args.tree1.now c.args.tree2.now c.args.tree3.now) (network_of c.args.new_n l c.args.new_root c.args.new_first c.args.new_last) c.args.flat.ducts) c.prefix-ends.ensures ∙ ap (λ (k : ℕ). loaded_by (session_in c.state_of-st.result c.args.links.now c.args.ducts.now c.args.used.now c.args.births.now c.args.order.now c.args.tree1.now c.args.tree2.now c.args.tree3.now) (network_of c.args.new_n (take k c.args.flat.ends) c.args.new_root c.args.new_first c.args.new_last) c.args.flat.ducts) c.numbers_of.ensures ∙ ap (λ (st : State). loaded_by (session_in st c.args.links.now c.args.ducts.now c.args.used.now c.args.births.now c.args.order.now c.args.tree1.now c.args.tree2.now c.args.tree3.now) network c.args.flat.ducts) c.state_of-st.ensures in
    (lengths_right _ _ 0 right_lengths
    (refusing_call held _ after 0 (load_leaves _ _ _) (answered _ c.in-Err.is) c.from.ensures)
    ).returns

pub returns-in-Ok : goal.returns-in-Ok
unfolding called_in called
returns-in-Ok c =
    let held : Memory = memory_by (numbers_by c.args.stage.now c.args.n.now c.args.m.now c.args.root.now c.args.first.now c.args.last.now c.args.longs.now c.args.born.now) c.args.links.now c.args.ducts.now c.args.used.now c.args.births.now c.args.order.now c.args.tree1.now c.args.tree2.now c.args.tree3.now in
    let network : Network = network_of c.args.new_n (take (numbers_of c.args.count) c.args.flat.ends) c.args.new_root c.args.new_first c.args.new_last in
    let right_lengths : wrong_lengths (length c.args.links.now) (length c.args.ducts.now) (length c.args.used.now) (length c.args.births.now) (length c.args.order.now) (length c.args.tree1.now) (length c.args.tree2.now) (length c.args.tree3.now) ≡ false = sym c.wrong_lengths.ensures ∙ c.if-wrong_lengths.false in
    let after : Session = session_in c.load-loaded.new.st c.load-loaded.new.table c.load-loaded.new.row c.load-loaded.new.used c.load-loaded.new.births c.load-loaded.new.order c.load-loaded.new.tree1 c.load-loaded.new.tree2 c.load-loaded.new.tree3 in
    let answered : (x : Result Loaded Refusal·) → c.load-loaded.result ≡ x → record { answer = load_answer x; after = after } ≡ loaded_by (session_at held) network c.args.flat.ducts = λ x q. ap (λ (y : Result Loaded Refusal·). record { answer = load_answer y; after = after }) (sym q) ∙ c.load-loaded.ensures.loads_in ∙ ap (λ (l : List ℕ). loaded_by (session_in c.state_of-st.result c.args.links.now c.args.ducts.now c.args.used.now c.args.births.now c.args.order.now c.args.tree1.now c.args.tree2.now c.args.tree3.now) (network_of c.args.new_n l c.args.new_root c.args.new_first c.args.new_last) c.args.flat.ducts) c.prefix-ends.ensures ∙ ap (λ (k : ℕ). loaded_by (session_in c.state_of-st.result c.args.links.now c.args.ducts.now c.args.used.now c.args.births.now c.args.order.now c.args.tree1.now c.args.tree2.now c.args.tree3.now) (network_of c.args.new_n (take k c.args.flat.ends) c.args.new_root c.args.new_first c.args.new_last) c.args.flat.ducts) c.numbers_of.ensures ∙ ap (λ (st : State). loaded_by (session_in st c.args.links.now c.args.ducts.now c.args.used.now c.args.births.now c.args.order.now c.args.tree1.now c.args.tree2.now c.args.tree3.now) network c.args.flat.ducts) c.state_of-st.ensures in
    (lengths_right _ _ 0 right_lengths
    (granting_call held _ after 0 (answered _ c.in-Ok.is) refl c.put_state.ensures)
    ).returns
