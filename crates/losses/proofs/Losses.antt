-- Laws of lost walks: in the words of demand 3, a walk is lost exactly where some link of the duct hits it; and the switches that lose
-- walks are at most N.
use mathlib.Core.Path.{◌≡◌, ap}
use mathlib.Core.Bool.{◌&&◌}
use mathlib.Core.List.{List}
use Prim.Native.Nat.{ℕ, ◌≤◌, ◌<◌}
use lib.Dec.{eqb}
use borrow.Author.Tests.{eqb-true, eq-eqb}
use Rattle.mondschein.specs.Network.{Network, at, size, passes}
use Rattle.mondschein.proofs.Logic.{and_true, true_and}
use Rattle.mondschein.proofs.Search.{any_true, true_any, any_ext, count_ext, count_bound}
use Rattle.mondschein.proofs.Links.{passes_along, along_passes}
use Rattle.losses.specs.Losses.{lost, lost_walks, losers}
use Rattle.losses.specs.Statements.{LostByALink}

pub lost_by_a_link : LostByALink
unfolding lost
lost_by_a_link net ducts d walk = (
  λ t.
      let (i, l, q) = any_true _ (size net) t in
      let (e, p) = and_true _ _ q in
      (i, l, eqb-true _ _ e, passes_along net walk i p),
  λ (i, l, e, h). true_any _ (size net) i l (true_and _ _ (eq-eqb _ _ e) (along_passes net walk i h)),
)

lost_ext : (net : Network) (ducts ducts' : List ℕ) → ((i : ℕ) → i < size net → at ducts i ≡ at ducts' i) → (d : ℕ) (walk : List ℕ) → lost net ducts d walk ≡ lost net ducts' d walk
unfolding lost
lost_ext net ducts ducts' e d walk = any_ext _ _ (size net) (λ i l. ap (λ (x : ℕ). eqb x d && passes net walk i) (e i l))

pub losers_bound : (net : Network) (ducts : List ℕ) (w : ℕ → ℕ → List ℕ) (c d : ℕ) → losers net ducts w c d ≤ net.n
unfolding losers
losers_bound net ducts w c d = count_bound _ net.n

-- the ducts of its links alone count
pub losers_ext : (net : Network) (ducts ducts' : List ℕ) → ((i : ℕ) → i < size net → at ducts i ≡ at ducts' i) → (w : ℕ → ℕ → List ℕ) (c d : ℕ)
    → losers net ducts w c d ≡ losers net ducts' w c d
unfolding losers lost_walks
losers_ext net ducts ducts' e w c d = count_ext _ _ net.n (λ v _. rw (same (w 1 v), same (w 2 v), same (w 3 v)))
  where
    same : (walk : List ℕ) → lost net ducts d walk ≡ lost net ducts' d walk
    same walk = lost_ext net ducts ducts' e d walk
