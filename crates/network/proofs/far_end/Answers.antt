use Rattle.network.specs.Load.{table_of}
use Rattle.network.proofs.Indexing.{other_end}
use Rattle.network.proofs.far_end.Goals as goal

pub returns : goal.returns
returns c = other_end c.args.h (table_of c.args.links.now)
