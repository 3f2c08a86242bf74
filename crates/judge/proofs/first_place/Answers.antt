use Rattle.std.proofs.Common.{ℕ, eqb, rules, tests}
use Rattle.mondschein.specs.Order.{position}
use Rattle.network.proofs.Tables.{found_by_position}
use Rattle.judge.proofs.first_place.Goals as goal

pub returns-clause-lowest : goal.returns-clause-lowest
unfolding position
returns-clause-lowest c =
    (found_by_position (λ (y : ℕ). eqb y c.args.x) c.args.list.now _ _ _ _ c.iter.ensures.rest c.position.ensures.ran (λ y b q h. search (rules, tests))).lowest
