-- Card i's network of document 01, closed, with its links to the root in ducts: a duct with all three costs every other switch all three
-- walks, one with two of them exactly two. Of the links after them no duct is told.
use mathlib.Core.Path.{◌≡◌, refl}
use mathlib.Core.List.{List, [], ◌∷◌, map}
use Prim.Native.Nat.{ℕ}
use Rattle.mondschein.specs.Network.{low, any, count, Network, holds, size, former, latter, joins, joined, passes, birth}
use Rattle.mondschein.specs.Order.{position, from_a, between, extend, order, course, parent1, parent2, shortest, reaches, distance, taken, parent3_of, parent_of, walk_by, walk_of}
use Rattle.machine.specs.Machine.{Closed, closed_plan}
use Rattle.losses.specs.Losses.{lost, lost_walks, losers, losers_of}

abbrev network : Network
network = record { n = 4; links = 0 ∷ 1 ∷ 0 ∷ 2 ∷ 0 ∷ 3 ∷ 1 ∷ 2 ∷ 1 ∷ 3 ∷ 2 ∷ 3 ∷ []; root = 0; first = 1; last = 3 }

abbrev card : List ℕ → Closed
card ducts = closed_plan shortest network ducts ((0 ∷ 2 ∷ 1 ∷ []) ∷ (2 ∷ 3 ∷ 1 ∷ []) ∷ (0 ∷ 3 ∷ []) ∷ [])

-- how many switches other than the root lose none, exactly one, exactly two and all three walks when duct d fails
abbrev losses : List ℕ → ℕ → List ℕ
losses ducts d = map (λ c. losers_of (card ducts) c d) (0 ∷ 1 ∷ 2 ∷ 3 ∷ [])

pub cards : (losses (7 ∷ 7 ∷ 7 ∷ []) 7 ≡ 0 ∷ 0 ∷ 0 ∷ 3 ∷ [])
    × (losses (7 ∷ 7 ∷ 8 ∷ []) 7 ≡ 0 ∷ 0 ∷ 3 ∷ 0 ∷ [])
    × (losses (7 ∷ 7 ∷ 8 ∷ []) 8 ≡ 0 ∷ 3 ∷ 0 ∷ 0 ∷ [])
    × (losses (7 ∷ 7 ∷ 8 ∷ []) 9 ≡ 3 ∷ 0 ∷ 0 ∷ 0 ∷ [])
unfolding low any count holds size former latter joins joined passes birth position from_a between extend order course parent1 parent2 reaches distance taken parent3_of parent_of walk_by walk_of lost lost_walks losers losers_of
cards = (refl, refl, refl, refl)
