use Rattle.std.proofs.Common.{rules, tests}
use Rattle.network.specs.Load.{table_of}
use Rattle.shape.proofs.Tests.{free_link}
use Rattle.shape.proofs.not_free.Goals as goal

pub returns : goal.returns
returns c =
    free_link (table_of c.args.links.now) c.args.used.now c.args.a c.args.b c.link_by.result c.is_none_or.result c.link_by.ensures.lowest c.link_by.ensures.within
    c.is_none_or.ensures (λ l h. search (rules, tests))
