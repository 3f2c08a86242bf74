use Rattle.std.proofs.Common.{◌≡◌, ◌*◌, ◌-◌, ℕ, Bool, false}
use Rattle.mondschein.specs.Network.{size}
use Rattle.network.specs.Load.{table_of}
use Rattle.network.proofs.Indexing.{Followed}
use Rattle.network.proofs.half_link_to.Given as goal

abbrev pub invariant-loop-h : goal.invariant-loop-h
invariant-loop-h g l = record {
  whole : l.end ≡ 2 * size (table_of l.links);
  stands : Followed (table_of l.links) l.v (λ x. false) l.h;
  missed : (q : ℕ → Bool) → ((x : ℕ) (b : Bool) → goal.P-post g l.passes x b → b ≡ q x) → Followed (table_of l.links) l.v q l.h;
}

abbrev pub decreases-loop-h : goal.decreases-loop-h
decreases-loop-h g l = l.end - l.h
