use Rattle.std.proofs.Common.{◌≡◌, ℕ, pred, length, unwrap_or, subst, rules, tests}
use Rattle.mondschein.specs.Network.{low}
use Rattle.network.proofs.Tables.{found_by_find}
use Rattle.shape.proofs.Shape.{apart}
use Rattle.shape.proofs.first_not_joined.Goals as goal

pub returns-clause-lowest : goal.returns-clause-lowest
returns-clause-lowest c =
    let e : c.saturating_sub.result ≡ pred (length c.args.ear.now) = search rules in
    subst (λ (m : ℕ). unwrap_or c.find.result m ≡ low (apart c.args.links.now c.args.ear.now) m) e
    (found_by_find (apart c.args.links.now c.args.ear.now) _ _ _ _ c.find.ensures.ran (λ x b q h. search (rules, tests))).lowest
