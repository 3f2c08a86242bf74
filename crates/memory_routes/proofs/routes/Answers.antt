use mathlib.Core.Path.{◌≡◌, sym, ◌∙◌}
use mathlib.Core.Bool.{false}
use mathlib.Core.List.{List}
use Prim.Native.Nat.{ℕ}
use lib.ListN.{length}
use Rattle.routing.specs.Answers.{reply_of}
use Rattle.memory.specs.Memory.{Memory, numbers_by, memory_by, wrong_lengths}
use Rattle.memory.proofs.Returns.{right}
use Rattle.memory_routes.specs.Routes.{between_in}
use Rattle.memory_routes.proofs.Returns.{told_of_lem, lengths_links, links_wrong, links_right}
use Rattle.memory_routes.proofs.routes.Goals as goal

pub returns-then-wrong_lengths : goal.returns-then-wrong_lengths
returns-then-wrong_lengths c =
    λ ducts used births order tree1 tree2 tree3 d u b o p q t.
    links_wrong _ _ (lengths_links _ _ _ _ _ _ _ _ d u b o p q t ∙ sym c.wrong_lengths.ensures ∙ c.if-wrong_lengths.true) c.refused.ensures

pub between_in-answer-requires : goal.between_in-answer-requires
between_in-answer-requires c =
    let right_lengths : wrong_lengths (length c.args.links.now) 4096 4096 1024 1024 1024 1024 1024 ≡ false = sym c.wrong_lengths.ensures ∙ c.if-wrong_lengths.false in
    (right _ _ _ _ _ _ _ _ right_lengths).0

pub returns : goal.returns
returns c =
    let held : List ℕ → List ℕ → List ℕ → List ℕ → List ℕ → List ℕ → List ℕ → Memory = λ (ducts : List ℕ) (used : List ℕ) (births : List ℕ) (order : List ℕ) (tree1 : List ℕ) (tree2 : List ℕ) (tree3 : List ℕ). memory_by (numbers_by c.args.stage c.args.n c.args.m c.args.root c.args.first c.args.last c.args.longs c.args.born) c.args.links.now ducts used births order tree1 tree2 tree3 in
    let right_lengths : wrong_lengths (length c.args.links.now) 4096 4096 1024 1024 1024 1024 1024 ≡ false = sym c.wrong_lengths.ensures ∙ c.if-wrong_lengths.false in
    let meant : (ducts used births order tree1 tree2 tree3 : List ℕ) → record { reply = reply_of c.between_in-answer.result; after = c.between_in-answer.new.out } ≡ between_in (held ducts used births order tree1 tree2 tree3) c.args.from c.args.to c.args.out.now = λ ducts used births order tree1 tree2 tree3. told_of_lem c.state_of-st.ensures c.args.links.now ducts used births order tree1 tree2 tree3 c.args.from c.args.to c.args.out.now (c.between_in-answer.ensures ducts used births order tree1 tree2 tree3) in
    λ ducts used births order tree1 tree2 tree3 d u b o p q t.
    links_right _ _ c.between_in-answer.result (lengths_links _ _ _ _ _ _ _ _ d u b o p q t ∙ right_lengths)
    (meant ducts used births order tree1 tree2 tree3) c.told.ensures
