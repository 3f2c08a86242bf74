-- Document 02, Note 7, "Cables that share a duct": which walks are lost when all links of a duct fail, and how many switches lose how many.
-- The ducts of a network stand beside it, by link; a link past the end of that list has duct 0, which is none. `w t v` is the walk of v in tree t.
use Rattle.std.specs.Prelude.{Bool, not, ◌&&◌, cond, List, ℕ, ◌+◌, eqb}
use Rattle.mondschein.specs.Network.{any, count, Network, at, size, passes}
use Rattle.mondschein.specs.Order.{walk_of}
use Rattle.machine.specs.Machine.{Closed}

-- a walk is lost when all links of duct d fail: one of them joins two neighbours in it
unfoldable pub lost : Network → List ℕ → ℕ → List ℕ → Bool
lost net ducts d walk = any (λ i. eqb (at ducts i) d && passes net walk i) (size net)

abbrev pub bit : Bool → ℕ
bit b = cond b 1 0

module _ (net : Network) (ducts : List ℕ) (w : ℕ → ℕ → List ℕ) where
  -- how many of the three walks of v are lost when duct d fails
  unfoldable pub lost_walks : ℕ → ℕ → ℕ
  lost_walks d v = bit (lost net ducts d (w 1 v)) + bit (lost net ducts d (w 2 v)) + bit (lost net ducts d (w 3 v))

  -- how many switches other than the root lose exactly c walks when duct d fails
  unfoldable pub losers : ℕ → ℕ → ℕ
  losers c d = count (λ v. not (eqb v net.root) && eqb (lost_walks d v) c) net.n

-- the same of a closed session, by its own walks and ducts
unfoldable pub losers_of : Closed → ℕ → ℕ → ℕ
losers_of p c d = losers p.net p.ducts (walk_of p.rule p.net p.ears) c d
