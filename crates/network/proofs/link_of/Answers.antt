use Rattle.std.proofs.Common.{ℕ, rules, tests}
use Rattle.mondschein.specs.Network.{size, joins, link_of}
use Rattle.network.specs.Load.{table_of}
use Rattle.network.proofs.Tables.{found_by_find}
use Rattle.network.proofs.link_of.Goals as goal

pub returns : goal.returns
unfolding size link_of
returns c =
    let f = found_by_find (λ (i : ℕ). joins (table_of c.args.links.now) i c.args.a c.args.b) _ _ _ _ c.find.ensures.ran (λ x b q h. search (rules, tests)) in
    record { lowest = f.lowest; within = f.within }
