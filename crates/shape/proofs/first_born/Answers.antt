use Rattle.std.proofs.Common.{ℕ, rules, tests}
use Rattle.mondschein.specs.Network.{at}
use Rattle.rows.specs.Rows.{marked}
use Rattle.network.proofs.Tables.{found}
use Rattle.shape.proofs.first_born.Goals as goal

pub returns-clause-lowest : goal.returns-clause-lowest
returns-clause-lowest c = (found (λ (k : ℕ). marked c.args.births.now (at c.args.part.now k)) _ c.position.result (search (rules, tests))).lowest
