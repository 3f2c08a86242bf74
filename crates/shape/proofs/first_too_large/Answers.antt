use Rattle.std.proofs.Common.{ℕ, leb, rules, tests}
use Rattle.mondschein.specs.Network.{at}
use Rattle.network.proofs.Tables.{found}
use Rattle.shape.proofs.first_too_large.Goals as goal

pub returns-clause-lowest : goal.returns-clause-lowest
returns-clause-lowest c = (found (λ (k : ℕ). leb c.args.n (at c.args.ear.now k)) _ c.position.result (search (rules, tests))).lowest
