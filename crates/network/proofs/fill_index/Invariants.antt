use Rattle.network.specs.Load.{table_of}
use Rattle.network.specs.Index.{IndexedFrom}
use Rattle.network.proofs.fill_index.Given as goal

abbrev pub invariant-loop-h : goal.invariant-loop-h
invariant-loop-h l = IndexedFrom (table_of l.links) l.h l.index
