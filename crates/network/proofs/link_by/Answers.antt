use Rattle.std.proofs.Common.{◌∙◌}
use Rattle.mondschein.proofs.Links.{link_of_sym}
use Rattle.network.proofs.link_by.Goals as goal

pub returns-clause-lowest : goal.returns-clause-lowest
returns-clause-lowest c = c.link_along-2.ensures.lowest ∙ link_of_sym _ _ _
