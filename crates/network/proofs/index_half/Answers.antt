use Rattle.std.proofs.Common.{refl, arith}
use Rattle.mondschein.specs.Network.{size}
use Rattle.network.specs.Load.{table_of}
use Rattle.network.proofs.Indexing.{indexed_past, indexed_more}
use Rattle.network.proofs.index_half.Goals as goal

pub bounds-links-h : goal.bounds-links-h
unfolding size
bounds-links-h c = omega arith

pub returns-then-v-ge1024 : goal.returns-then-v-ge1024
returns-then-v-ge1024 c = indexed_past (table_of c.args.links.now) c.args.h c.args.index.now c.requires.0 c.requires.1 c.if-v-ge1024.true

pub returns : goal.returns
returns c = indexed_more (table_of c.args.links.now) c.args.h c.args.index.now c.requires.0 c.requires.1 _ refl c.if-v-ge1024.false _
