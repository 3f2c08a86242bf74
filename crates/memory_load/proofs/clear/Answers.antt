use mathlib.Core.Path.{◌≡◌, refl, sym, ap, ◌∙◌}
use mathlib.Core.Bool.{false}
use mathlib.Core.List.{[]}
use lib.ListN.{length}
use Rattle.std.specs.Prelude.{Result}
use Rattle.refusals.specs.declared.Refusal.{Refusal as Refusal·}
use Rattle.mondschein.specs.Judge.{given}
use Rattle.mondschein.specs.Outcome.{granted, settle}
use Rattle.in_place.specs.declared.Session.{Session}
use Rattle.in_place.specs.Session.{cleared_by}
use Rattle.in_place.specs.InPlace.{session_in}
use Rattle.session.specs.Calls.{called}
use Rattle.memory.specs.Program.{called_in}
use Rattle.memory.specs.Memory.{Memory, numbers_by, memory_by, wrong_lengths}
use Rattle.memory.proofs.Returns.{lengths_wrong, lengths_right, granting_call, sizes}
use Rattle.memory_load.proofs.clear.Goals as goal

pub returns-then-wrong_lengths : goal.returns-then-wrong_lengths
returns-then-wrong_lengths c = (lengths_wrong _ _ 0 (sym c.wrong_lengths.ensures ∙ c.if-wrong_lengths.true) refl).returns

pub clear-cleared-requires : goal.clear-cleared-requires
clear-cleared-requires c =
    let right_lengths : wrong_lengths (length c.args.links.now) (length c.args.ducts.now) (length c.args.used.now) (length c.args.births.now) (length c.args.order.now) (length c.args.tree1.now) (length c.args.tree2.now) (length c.args.tree3.now) ≡ false = sym c.wrong_lengths.ensures ∙ c.if-wrong_lengths.false in
    sizes _ _ _ _ _ _ _ _ right_lengths

pub returns : goal.returns
unfolding called_in called cleared_by settle granted
returns c =
    let held : Memory = memory_by (numbers_by c.args.stage.now c.args.n.now c.args.m.now c.args.root.now c.args.first.now c.args.last.now c.args.longs.now c.args.born.now) c.args.links.now c.args.ducts.now c.args.used.now c.args.births.now c.args.order.now c.args.tree1.now c.args.tree2.now c.args.tree3.now in
    let right_lengths : wrong_lengths (length c.args.links.now) (length c.args.ducts.now) (length c.args.used.now) (length c.args.births.now) (length c.args.order.now) (length c.args.tree1.now) (length c.args.tree2.now) (length c.args.tree3.now) ≡ false = sym c.wrong_lengths.ensures ∙ c.if-wrong_lengths.false in
    let after : Session = session_in c.clear-cleared.result c.clear-cleared.new.links c.clear-cleared.new.ducts c.clear-cleared.new.used c.clear-cleared.new.births c.clear-cleared.new.order c.clear-cleared.new.tree1 c.clear-cleared.new.tree2 c.clear-cleared.new.tree3 in
    (lengths_right _ _ 0 right_lengths
    (granting_call held _ after 0
    (ap (λ (s : Session). record { answer = given []; after = s }) c.clear-cleared.ensures.0)
    refl c.put_state.ensures)
    ).returns
