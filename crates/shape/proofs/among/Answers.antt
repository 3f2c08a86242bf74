use Rattle.std.proofs.Common.{ℕ, eqb, take, ◌∙◌, rules, tests}
use Rattle.std.proofs.lemmas.Iterator.{YieldsList-from_slice}
use Rattle.std.proofs.lemmas.Iterator.Search.{any_from_yields_List}
use Rattle.network.proofs.Tables.{any_of_take}
use Rattle.shape.proofs.among.Goals as goal

pub returns : goal.returns
returns c =
    any_from_yields_List (λ (y : ℕ). eqb y c.args.x) _ _ _ c.any.ensures.ran (YieldsList-from_slice (take c.args.k c.args.ear.now) c.iter.ensures.rest) (λ y b q h. search (rules, tests))
    ∙ any_of_take (λ (y : ℕ). eqb y c.args.x) c.args.ear.now c.args.k c.requires.1
