use Rattle.std.proofs.Common.{◌∙◌, ℕ}
use Rattle.mondschein.specs.Network.{joins, link_of, joined}
use Rattle.network.specs.Load.{table_of}
use Rattle.network.proofs.Tables.{some_found}
use Rattle.network.proofs.joined.Goals as goal

pub returns : goal.returns
unfolding joined link_of
returns c = c.is_some.ensures ∙ some_found (λ (i : ℕ). joins (table_of c.args.links.now) i c.args.a c.args.b) _ _ c.link_by.ensures.lowest c.link_by.ensures.within
