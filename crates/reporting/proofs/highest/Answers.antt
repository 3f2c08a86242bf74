use Rattle.std.proofs.Common.{ℕ, ◌<◌, ◌≤◌, length, rules}
use Rattle.mondschein.specs.Network.{at}
use Rattle.reporting.proofs.Steps.{top_of_all}
use Rattle.reporting.proofs.highest.Goals as goal

pub returns : goal.returns
returns c =
    let each : (k : ℕ) → k < length c.args.ducts.now → at c.args.ducts.now k ≤ c.unwrap_or.result = search rules in
    top_of_all c.args.ducts.now c.unwrap_or.result each
