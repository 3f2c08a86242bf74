-- Chains of half-links: for each birth those whose own switch has it and which lead to a switch born later, in rising order.
-- Number h of the table is half-link h; a number of 2 M or more ends a chain.
use Rattle.std.specs.Prelude.{◌≡◌, ◌≢◌, List, ℕ, suc, ◌+◌, ◌*◌, ◌/◌, ◌≤◌, ◌<◌, length}
use Rattle.mondschein.specs.Network.{at, size}
use Rattle.network.specs.Index.{far_end}
use Rattle.network.specs.Load.{table_of}

module _ (links : List ℕ) (birth_of : ℕ → ℕ) where
  -- half-link h leads to a switch born later
  abbrev pub Rises : ℕ → Type 0
  Rises h = (h < 2 * size (table_of links)) × (birth_of (at links h) < birth_of (far_end (table_of links) h))

  -- h is the lowest of these from half-link j on whose own switch has birth k, or past the last half-link where there is none
  pub record LowestRising (k j h : ℕ) : Type 0 where
    pub from : j ≤ h
    pub own : h < 2 * size (table_of links) → Rises h × (birth_of (at links h) ≡ k)
    pub before : (m : ℕ) → j ≤ m → m < h → Rises m → birth_of (at links m) ≢ k

  -- the chains of the links from i on: the lowest half-link of each birth, and the next after each half-link, by its link
  pub record ChainedFrom (i : ℕ) (heads nexts : List ℕ) : Type 0 where
    pub long : (length heads ≡ 1024) × (length nexts ≡ 4096)
    pub head : (k : ℕ) → k < 1024 → LowestRising k (2 * i) (at heads k)
    pub next : (h : ℕ) → 2 * i ≤ h → Rises h → LowestRising (birth_of (at links h)) (suc h) (at nexts (h / 2))
    pub rise : (l : ℕ) → l < 4096 → 2 * l + 1 < at nexts l

-- whoever follows `nexts` from a half-link comes to a higher number
pub record Linked (links nexts : List ℕ) : Type 0 where
  pub fits : length links ≤ 8193
  pub long : length nexts ≡ 4096
  pub rise : (l : ℕ) → l < 4096 → 2 * l + 1 < at nexts l
