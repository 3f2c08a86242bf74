-- Document 02, Note 4, "Three maintenance zones": what three zones of a network are, whatever finds them. Source document 000 calls them a
-- 3-partition (Application 5).
use Rattle.std.specs.Prelude.{◌≡◌, ◌⊎◌, ℕ, ◌+◌, ◌<◌, eqb}
use Rattle.mondschein.specs.Network.{Network, count, Adjacent}
use Rattle.connectivity.specs.Connected.{Connected}

-- three sizes of 1 or more that add up to N
pub record Sizes (n n₁ n₂ n₃ : ℕ) : Type 0 where
  pub some1 : 0 < n₁
  pub some2 : 0 < n₂
  pub some3 : 0 < n₃
  pub sum : n₁ + n₂ + n₃ ≡ n

-- how many switches are in zone k; z v is the zone of switch v
unfoldable pub size_of_zone : ℕ → (ℕ → ℕ) → ℕ → ℕ
size_of_zone n z k = count (λ v. eqb (z v) k) n

-- the zones z of a network have these sizes
pub record Zoning (net : Network) (n₁ n₂ n₃ : ℕ) (z : ℕ → ℕ) : Type 0 where
  pub each : (v : ℕ) → v < net.n → (z v ≡ 1) ⊎ ((z v ≡ 2) ⊎ (z v ≡ 3))
  pub root_in1 : z net.root ≡ 1
  pub first_in2 : z net.first ≡ 2
  pub last_in3 : z net.last ≡ 3
  pub size1 : size_of_zone net.n z 1 ≡ n₁
  pub size2 : size_of_zone net.n z 2 ≡ n₂
  pub size3 : size_of_zone net.n z 3 ≡ n₃
  -- each zone hangs together: between any two switches of it a path over links of the network, inside the zone
  pub connected : (k : ℕ) → Connected (λ v. (v < net.n) × (z v ≡ k)) (Adjacent net)
