use Rattle.std.proofs.Common.{sym, ◌∙◌, rules, tests}
use Rattle.mondschein.specs.Network.{size}
use Rattle.network.specs.Load.{table_of}
use Rattle.network.proofs.Tables.{any_by_range}
use Rattle.unborn.specs.Neighbours.{leads_to}
use Rattle.unborn.proofs.Neighbours.{sought, scan}
use Rattle.unborn.proofs.unborn_by_scan.Goals as goal

pub returns : goal.returns
unfolding size
returns c =
    any_by_range (leads_to (table_of c.args.links.now) (sought c.args.n c.args.births.now c.args.ear.now) c.args.v) _ _ _ _ c.any.ensures.ran (λ x b q h. search (rules, tests))
    ∙ sym (scan _ _ _ _)
