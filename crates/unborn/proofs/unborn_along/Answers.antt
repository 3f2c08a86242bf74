use Rattle.std.proofs.Common.{◌∙◌, rules, tests}
use Rattle.network.specs.Load.{table_of}
use Rattle.unborn.proofs.Neighbours.{free, sought, along}
use Rattle.unborn.proofs.unborn_along.Goals as goal

pub returns : goal.returns
returns c =
    c.is_some.ensures
    ∙ along (table_of c.args.links.now) (free c.args.births.now c.args.ear.now) c.args.v c.args.n c.half_link_to.result
    (c.half_link_to.ensures (sought c.args.n c.args.births.now c.args.ear.now) (λ x t p. search (rules, tests)))
