use Rattle.std.proofs.Common.{rules, tests}
use Rattle.mondschein.specs.Network.{size, former, latter}
use Rattle.mondschein.specs.Judge.{self_link}
use Rattle.network.specs.Load.{table_of}
use Rattle.network.proofs.Tables.{found_by_find}
use Rattle.network.proofs.first_self_link.Goals as goal

pub returns : goal.returns
unfolding size self_link former latter
returns c =
    let f = found_by_find (self_link (table_of c.args.links.now)) _ _ _ _ c.find.ensures.ran (λ x b q h. search (rules, tests)) in
    record { lowest = f.lowest; within = f.within }
