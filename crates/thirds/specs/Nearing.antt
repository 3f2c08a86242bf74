-- What is known of the row of tree 3 and of the distances to last while the half-links are followed by falling births, for births
-- numbered in any way, and what following one half-link, one chain and all chains makes of it.
use Rattle.std.specs.Prelude.{◌≡◌, ◌⊎◌, true, List, ℕ, suc, ◌≤◌, ◌<◌, length}
use Rattle.mondschein.specs.Network.{Network, at}
use Rattle.mondschein.specs.Order.{is_later, distance}
use Rattle.network.specs.Index.{far_end}
use Rattle.network.specs.Load.{network_of, table_of}
use Rattle.thirds.specs.Chains.{Rises, LowestRising, ChainedFrom}

-- half-link j is followed: the birth of its own switch is k or more, or it is k - 1 and j is below h
abbrev pub Done : List ℕ → (ℕ → ℕ) → ℕ → ℕ → ℕ → Type 0
Done links birth_of k h j = Rises links birth_of j × ((k ≤ birth_of (at links j)) ⊎ ((suc (birth_of (at links j)) ≡ k) × (j < h)))

-- the row and the distances after the half-links of births from k on, and of birth k - 1 below h
pub record Nearing (net : Network) (birth_of : ℕ → ℕ) (k h : ℕ) (row dist : List ℕ) : Type 0 where
  pub late : (v : ℕ) → 1024 ≤ v → birth_of v ≡ 0
  pub long : (length row ≡ 1024) × (length dist ≡ 1024)
  pub at_last : net.last < 1024 → at dist net.last ≡ 0
  pub bounds : (v : ℕ) → v < 1024 → (distance net birth_of v ≤ at dist v) × (at dist v ≤ net.n)
  pub entry : (v : ℕ) → v < 1024
      → (at row v ≡ net.n) ⊎ ((at row v < net.n) × (is_later net birth_of v (at row v) ≡ true) × (at dist v ≡ suc (distance net birth_of (at row v))))
  pub best : (j : ℕ) → Done net.links birth_of k h j → at net.links j < 1024 → far_end (table_of net.links) j < net.n
      → (at dist (at net.links j) ≤ suc (distance net birth_of (far_end (table_of net.links) j)))
      × (at dist (at net.links j) ≡ suc (distance net birth_of (far_end (table_of net.links) j)) → at row (at net.links j) ≤ far_end (table_of net.links) j)

-- half-link h is followed
abbrev pub FollowsHalf : ℕ → List ℕ → ℕ → List ℕ → List ℕ → List ℕ → List ℕ → Type 0
FollowsHalf n links h row dist row' dist' =
    (root last k : ℕ) (birth_of : ℕ → ℕ)
    → Rises links birth_of h
    → birth_of (at links h) ≡ k
    → Nearing (network_of n links root 0 last) birth_of (suc k) h row dist
    → Nearing (network_of n links root 0 last) birth_of (suc k) (suc h) row' dist'

-- the chain that begins with `start` is followed
abbrev pub FollowsChain : ℕ → List ℕ → List ℕ → ℕ → List ℕ → List ℕ → List ℕ → List ℕ → Type 0
FollowsChain n links nexts start row dist row' dist' =
    (root last k : ℕ) (birth_of : ℕ → ℕ) (heads : List ℕ)
    → ChainedFrom links birth_of 0 heads nexts
    → LowestRising links birth_of k 0 start
    → Nearing (network_of n links root 0 last) birth_of (suc k) 0 row dist
    → Nearing (network_of n links root 0 last) birth_of k 0 row' dist'

-- the chains of the births below 1,024 are followed, the highest first, down to birth k
abbrev pub FollowsChains : ℕ → List ℕ → List ℕ → List ℕ → ℕ → List ℕ → List ℕ → List ℕ → List ℕ → Type 0
FollowsChains n links heads nexts k row dist row' dist' =
    (root last : ℕ) (birth_of : ℕ → ℕ)
    → ChainedFrom links birth_of 0 heads nexts
    → Nearing (network_of n links root 0 last) birth_of 1024 0 row dist
    → Nearing (network_of n links root 0 last) birth_of k 0 row' dist'
