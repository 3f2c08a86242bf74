use Rattle.std.proofs.Common.{rules, tests}
use Rattle.mondschein.specs.Network.{size, former, latter}
use Rattle.mondschein.specs.Judge.{link_too_large}
use Rattle.network.specs.Load.{network_of}
use Rattle.network.proofs.Tables.{found_by_find}
use Rattle.network.proofs.first_link_too_large.Goals as goal

pub returns : goal.returns
unfolding size link_too_large former latter
returns c =
    let f = found_by_find (link_too_large (network_of c.args.n c.args.links.now 0 0 0)) _ _ _ _ c.find.ensures.ran (λ x b q h. search (rules, tests)) in
    record { lowest = f.lowest; within = f.within }
