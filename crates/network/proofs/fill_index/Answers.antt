use Rattle.std.proofs.Common.{ℕ, subst, arith}
use Rattle.mondschein.specs.Network.{size}
use Rattle.network.specs.Load.{table_of}
use Rattle.network.specs.Index.{IndexedFrom}
use Rattle.network.proofs.fill_index.Goals as goal

pub loop-h-init : goal.loop-h-init
unfolding size
loop-h-init c = c.requires

pub index_half-requires : goal.index_half-requires
unfolding size
index_half-requires c = (subst (λ (k : ℕ). IndexedFrom (table_of c.args.links.now) k c.loop-h.index) (omega arith) c.loop-h.invariant, omega arith)
