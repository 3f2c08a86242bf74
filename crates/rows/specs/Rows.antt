-- What the contracts over rows cite: marks, and numbers assigned one after another.
-- Births and used links are kept as rows of marks: 0 for unborn and unused.
use Rattle.std.specs.Prelude.{Bool, List, ℕ, zero, suc, ltb, set}
use Rattle.mondschein.specs.Network.{at}

-- the entry at x is not 0: of births, x is born; of used links, x is used
abbrev pub marked : List ℕ → ℕ → Bool
marked marks x = ltb 0 (at marks x)

-- the row with value k at index key k, for each k below c in turn; an index past its end changes nothing
unfoldable pub assigned : List ℕ → (ℕ → ℕ) → (ℕ → ℕ) → ℕ → List ℕ
assigned row key value zero = row
assigned row key value (suc k) = set (assigned row key value k) (key k) (value k)
