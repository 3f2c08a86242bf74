use Rattle.std.proofs.Common.{ap, ◌∙◌}
use Rattle.in_place.specs.Session.{padded}
use Rattle.loading.proofs.Stores.{stored, put_in_zeros, index_stored}
use Rattle.loading.proofs.store_network.Goals as goal

pub returns : goal.returns
returns c =
    let table = put_in_zeros _ _ c.clear_links.ensures.0 c.put_first.ensures in (
      stored c.requires.1 c.clear_tables.ensures c.args.n c.args.links.now c.args.ducts.now c.args.root c.args.first c.args.last table
          (put_in_zeros _ _ c.clear_links.ensures.1 c.put_first-2.ensures ∙ ap (padded _) c.prefix.ensures),
      index_stored c.args.n c.args.links.now c.args.root c.args.first c.args.last _ c.requires.0 table c.make_index.ensures,
    )
