-- What the contracts over tree 3 cite: its row by a rule, from the births that are kept in an array, for any numbers in it.
-- The earlier delivery's row (`lowest`) stays, so that sessions that it closed are spoken of.
use Rattle.std.specs.Prelude.{◌≡◌, List, ℕ, min, length}
use Rattle.mondschein.specs.Network.{Network, at}
use Rattle.mondschein.specs.Order.{Rule, lowest, shortest, taken, parent3_of}
use Rattle.network.specs.Load.{network_of}
use Rattle.rows.specs.Rows.{assigned}

-- the birth of v as it is read: by long ear, and there are at most 1,024 of these
unfoldable pub birth_read : List ℕ → ℕ → ℕ
birth_read births v = min (at births v) 1024

-- tree 3 of the births
unfoldable pub tree3_of : Rule → Network → List ℕ → List ℕ → List ℕ
tree3_of lowest net births row = assigned row (λ v. v) (parent3_of net (at births) lowest) (length row)
tree3_of shortest net births row = assigned row (λ v. v) (parent3_of net (birth_read births) shortest) (length row)

-- `after` has for each switch the neighbour that Note 6's rule takes, or N, whatever root is
abbrev pub Nearest : ℕ → List ℕ → ℕ → List ℕ → List ℕ → List ℕ → Type 0
Nearest n links last births row after = (root : ℕ) → after ≡ assigned row (λ v. v) (taken (network_of n links root 0 last) (birth_read births) shortest) (length row)
