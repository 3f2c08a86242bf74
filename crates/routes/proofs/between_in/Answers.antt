use Rattle.std.proofs.Common.{List, ℕ, sym, ◌∙◌}
use Rattle.in_place.specs.declared.Session.{Session}
use Rattle.in_place.specs.InPlace.{session_in}
use Rattle.routes.proofs.Answers.{between_empty, between_loaded_lem}
use Rattle.routes.proofs.between_in.Goals as goal

pub returns-in-Empty : goal.returns-in-Empty
returns-in-Empty c =
    let held : List ℕ → List ℕ → List ℕ → List ℕ → List ℕ → List ℕ → List ℕ → Session = λ ducts used births order tree1 tree2 tree3. session_in c.args.st c.args.links.now ducts used births order tree1 tree2 tree3 in
    λ ducts used births order tree1 tree2 tree3. sym (between_empty (held ducts used births order tree1 tree2 tree3) _ _ _ c.in-Empty.is)

pub returns-in-Open : goal.returns-in-Open
returns-in-Open c =
    let held : List ℕ → List ℕ → List ℕ → List ℕ → List ℕ → List ℕ → List ℕ → Session = λ ducts used births order tree1 tree2 tree3. session_in c.args.st c.args.links.now ducts used births order tree1 tree2 tree3 in
    λ ducts used births order tree1 tree2 tree3. c.between_loaded.ensures ∙ sym (between_loaded_lem (held ducts used births order tree1 tree2 tree3) _ _ _ c.in-Open.is)
