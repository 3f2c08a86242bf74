use Rattle.std.proofs.Common.{ℕ, eqb, not, ◌&&◌, rules, tests}
use Rattle.network.proofs.Tables.{any_by_range}
use Rattle.unborn.proofs.Neighbours.{free}
use Rattle.unborn.proofs.other_unborn.Goals as goal

pub returns : goal.returns
returns c = any_by_range (λ (x : ℕ). not (eqb x c.args.last) && free c.args.births.now c.args.ear.now x) _ _ _ _ c.any.ensures.ran (λ x b q h. search (rules, tests))
