-- Source document 000, Definitions 1, 3, 4 and 9, of a list of ears P_0, P_1, .. in a network. Document 01 writes an ear as the
-- list of its switches; P_0 is a cycle, written from root to first, whose closing link is understood.
use Rattle.std.specs.Prelude.{◌≡◌, ◌⊎◌, ◌≢◌, ◌↔◌, ℕ, zero, suc, pred, ◌≤◌, ◌<◌, eqb, length}
use Rattle.mondschein.specs.Network.{Network, at, In, Simple, size, Joins, Adjacent, Along, Ears, ear_at, trail}

module _ (P : Ears) where
  -- switch x lies on P_i
  abbrev pub On : ℕ → ℕ → Type 0
  On i x = In (ear_at P i) x

  -- x lies on P_0, .., P_(i-1)
  abbrev pub Before : ℕ → ℕ → Type 0
  Before i x = (j : ℕ) × (j < i) × On j x

  -- x is an endpoint of P_i
  abbrev pub End : ℕ → ℕ → Type 0
  End i x = (at (ear_at P i) 0 ≡ x) ⊎ (at (ear_at P i) (pred (length (ear_at P i))) ≡ x)

  -- x is an inner vertex of P_i; every vertex of a cycle is one
  abbrev pub Inner : ℕ → ℕ → Type 0
  Inner zero x = On zero x
  Inner (suc i) x = On (suc i) x × (End (suc i) x → ⊥)

  -- P_i is a long ear: no single link
  abbrev pub Long : ℕ → Type 0
  Long i = (i < length P) × (length (ear_at P i) ≢ 2)

  -- Definition 3: birth(x) is i, the minimal index of an ear that contains x
  pub record Birth (i x : ℕ) : Type 0 where
    pub below : i < length P
    pub on : On i x
    pub minimal : Before i x → ⊥

module _ (net : Network) (P : Ears) where
  -- P_i contains link l
  abbrev pub Contains : ℕ → ℕ → Type 0
  Contains i l = Along net (trail (eqb i 0) (ear_at P i)) l

  -- Definition 1: the ears are subgraphs that partition the links; P_0 is a cycle; every later ear is a path that intersects the
  -- ears before it in exactly its endpoints. Document 01 adds that every switch is born.
  pub record EarDecomposition : Type 0 where
    pub inside : (i : ℕ) → i < length P → (x : ℕ) → On P i x → x < net.n
    pub simple : (i : ℕ) → i < length P → Simple (ear_at P i)
    pub linked : (i : ℕ) → i < length P → (k : ℕ) → suc k < length (ear_at P i) → Adjacent net (at (ear_at P i) k) (at (ear_at P i) (suc k))
    pub cycle : (3 ≤ length (ear_at P 0)) × Adjacent net (at (ear_at P 0) (pred (length (ear_at P 0)))) (at (ear_at P 0) 0)
    pub paths : (i : ℕ) → i < length P → 0 < i → 2 ≤ length (ear_at P i)
    pub meets : (i : ℕ) → i < length P → 0 < i → (x : ℕ) → On P i x → (Before P i x ↔ End P i x)
    pub partition : (l : ℕ) → l < size net → (i : ℕ) × (i < length P) × Contains i l × ((j : ℕ) → j < length P → Contains j l → j ≡ i)
    pub spans : (x : ℕ) → x < net.n → (i : ℕ) × (i < length P) × On P i x

  -- Definition 4: every inner vertex of a long ear P_i except the last long one has a neighbour outside P_0, .., P_i
  abbrev pub NonSeparating : Type 0
  NonSeparating =
      (i j : ℕ) → i < j → Long P i → Long P j → (x : ℕ) → Inner P i x → (y : ℕ) × (y < net.n) × Adjacent net x y × (Before P (suc i) y → ⊥)

  -- Definition 9: a Mondschein sequence through link root-first and avoiding switch last
  pub record Mondschein : Type 0 where
    pub decomposition : EarDecomposition
    -- 1. root-first lies on P_0
    pub through : (at (ear_at P 0) 0 ≡ net.root) × (at (ear_at P 0) (pred (length (ear_at P 0))) ≡ net.first)
    -- 2. last's birth ear is the last long ear, has last as its only inner vertex and does not contain link root-last
    pub final : ℕ
    pub birth : Birth P final net.last
    pub last_long : Long P final × ((j : ℕ) → Long P j → j ≤ final)
    pub alone : (x : ℕ) → Inner P final x → x ≡ net.last
    pub avoiding : (l : ℕ) → l < size net → Joins net l net.root net.last → Contains final l → ⊥
    -- 3.
    pub non_separating : NonSeparating
