use Rattle.std.proofs.Common.{sym, ◌∙◌, length, eqb-true, arith}
use Rattle.mondschein.specs.Network.{size}
use Rattle.network.specs.Load.{table_of}
use Rattle.network.proofs.Indexing.{indexed_none}
use Rattle.network.proofs.make_index.Goals as goal

pub fill_index-requires : goal.fill_index-requires
unfolding size
fill_index-requires c =
    indexed_none (table_of c.args.links.now) _ (omega arith)
    (omega (arith, eqb-true (length c.args.index.now) 10240 (sym c.is_index.ensures ∙ c.if-not-is_index.false)))
    c.clear_index.ensures
