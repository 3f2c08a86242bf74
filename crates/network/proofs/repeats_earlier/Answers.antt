use Rattle.std.proofs.Common.{ℕ, arith, rules, tests}
use Rattle.mondschein.specs.Network.{joins, link_of, former, latter, size}
use Rattle.mondschein.specs.Judge.{repeated_link}
use Rattle.network.specs.Load.{table_of}
use Rattle.network.proofs.Tables.{some_below}
use Rattle.network.proofs.repeats_earlier.Goals as goal

pub returns : goal.returns
unfolding repeated_link link_of former latter size
returns c =
    some_below (λ (j : ℕ). joins (table_of c.args.links.now) j (former (table_of c.args.links.now) c.args.i) (latter (table_of c.args.links.now) c.args.i)) _ _ c.link_by.ensures.lowest c.link_by.ensures.within c.args.i c.is_some_and.result (omega arith) c.is_some_and.ensures (λ i h. search (rules, tests))
