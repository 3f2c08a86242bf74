use Rattle.loading.proofs.Stores.{emptied, index_none}
use Rattle.loading.proofs.clear.Goals as goal

pub returns : goal.returns
returns c = (
  emptied c.requires c.clear_tables.ensures c.empty.ensures c.clear_links.ensures.0 c.clear_links.ensures.1,
  index_none c.empty.ensures c.make_index.ensures _,
)
