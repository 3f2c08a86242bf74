-- Card k of document 01 with the zones of document 02, Note 4, for all ten choices of sizes, computed from its order and births; and zones of
-- the right sizes that are none, since one of them falls apart.
use mathlib.Core.Path.{◌≡◌, refl, sym, ap, ◌∙◌}
use mathlib.Core.Logic.{◌⊎◌, inl, inr, ⊎_elim}
use mathlib.Core.Bool.{true}
use mathlib.Core.List.{List, [], ◌∷◌, map}
use Prim.Native.Nat.{ℕ, zero, suc, ◌<◌}
use native.Mathlib.Omega.{arith}
use Rattle.mondschein.specs.Network.{low, any, count, at, holds, size, former, latter, joins, joined, Adjacent, born, birth, long_ears, long_birth}
use Rattle.mondschein.specs.Order.{position, from_a, between, extend, order}
use Rattle.mondschein.proofs.Logic.{clash}
use Rattle.mondschein.proofs.Links.{adjacent_joined}
use Rattle.rows.specs.Rows.{assigned}
use Rattle.connectivity.proofs.Connected.{path_kept}
use Rattle.zones.specs.Zoning.{Zoning}
use Rattle.zones.specs.Cut.{born_before, born_in, ear_past, older, in_ear, ahead, zone_at, cut_ear, taken, share, zone_in, zones_by}
use Rattle.cards.proofs.Cards.{network_k, ears_k}

-- the order of card k, and its births by long ear
abbrev line : List ℕ
line = 0 ∷ 4 ∷ 5 ∷ 2 ∷ 3 ∷ 1 ∷ []

abbrev births : List ℕ
births = 1 ∷ 1 ∷ 1 ∷ 2 ∷ 3 ∷ 4 ∷ []

pub line_is : order ears_k ≡ line
unfolding low any position from_a between extend order
line_is = refl

pub births_are : map (long_birth ears_k) (0 ∷ 1 ∷ 2 ∷ 3 ∷ 4 ∷ 5 ∷ []) ≡ births
unfolding low any count holds born birth long_ears long_birth
births_are = refl

-- zones 1 and 2 of n₁ and n₂ switches, by switch number
abbrev zones : ℕ → ℕ → List ℕ
zones n₁ n₂ = zones_by 6 line (at births) n₁ n₂ 6

-- all choices of sizes, and what they give
pub card_zones : zones 1 1
    ∷ zones 1 2
    ∷ zones 1 3
    ∷ zones 1 4
    ∷ zones 2 1
    ∷ zones 2 2
    ∷ zones 2 3
    ∷ zones 3 1
    ∷ zones 3 2
    ∷ zones 4 1 ∷ []
    ≡ (1 ∷ 2 ∷ 3 ∷ 3 ∷ 3 ∷ 3 ∷ [])
    ∷ (1 ∷ 2 ∷ 2 ∷ 3 ∷ 3 ∷ 3 ∷ [])
    ∷ (1 ∷ 2 ∷ 2 ∷ 2 ∷ 3 ∷ 3 ∷ [])
    ∷ (1 ∷ 2 ∷ 2 ∷ 2 ∷ 2 ∷ 3 ∷ [])
    ∷ (1 ∷ 2 ∷ 1 ∷ 3 ∷ 3 ∷ 3 ∷ [])
    ∷ (1 ∷ 2 ∷ 1 ∷ 2 ∷ 3 ∷ 3 ∷ [])
    ∷ (1 ∷ 2 ∷ 2 ∷ 2 ∷ 1 ∷ 3 ∷ [])
    ∷ (1 ∷ 2 ∷ 1 ∷ 1 ∷ 3 ∷ 3 ∷ [])
    ∷ (1 ∷ 2 ∷ 1 ∷ 2 ∷ 1 ∷ 3 ∷ [])
    ∷ (1 ∷ 2 ∷ 1 ∷ 1 ∷ 1 ∷ 3 ∷ []) ∷ []
unfolding low count assigned born_before born_in ear_past older in_ear ahead zone_at cut_ear taken share zone_in zones_by
card_zones = refl

-- Root, first and last are in the zones where they belong, and the sizes are 1, 3 and 2; but switch 4 of zone 2 has no link to the others
abbrev apart : ℕ → ℕ
apart = at (1 ∷ 2 ∷ 2 ∷ 3 ∷ 2 ∷ 3 ∷ [])

-- from switches 1 and 2 no link of the zone leads elsewhere
stays : (x y : ℕ) → (x ≡ 1) ⊎ (x ≡ 2) → (y < 6) × (apart y ≡ 2) → Adjacent network_k x y → (y ≡ 1) ⊎ (y ≡ 2)
unfolding low any size former latter joins joined
stays x zero a (l, e) h = absurd (omega arith)
stays x (suc zero) a i h = inl refl
stays x (suc (suc zero)) a i h = inr refl
stays x (suc (suc (suc zero))) a (l, e) h = absurd (omega arith)
stays x (suc (suc (suc (suc zero)))) a i h =
    let linked : (v : ℕ) → x ≡ v → joined network_k v 4 ≡ true = λ v e. ap (λ (z : ℕ). joined network_k z 4) (sym e) ∙ adjacent_joined network_k x 4 h in
    ⊎_elim (λ e. clash (linked 1 e) refl) (λ e. clash (linked 2 e) refl) a
stays x (suc (suc (suc (suc (suc zero))))) a (l, e) h = absurd (omega arith)
stays x (suc (suc (suc (suc (suc (suc y)))))) a (l, e) h = absurd (omega arith)

pub no_zones : Zoning network_k 1 3 2 apart → ⊥
no_zones Z =
    let inside : ℕ → Type 0 = λ v. (v < 6) × (apart v ≡ 2) in
    ⊎_elim (λ e. omega arith) (λ e. omega arith)
    (path_kept inside (Adjacent network_k) (λ v. (v ≡ 1) ⊎ (v ≡ 2)) stays (Z.connected 2 1 4 (omega arith, refl) (omega arith, refl)) (inl refl))
