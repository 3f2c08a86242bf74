-- Inner vertices by their places: a new switch of an ear stands at one of its new indices, and is born in that ear.
-- Shared by Sound.antt and Complete.antt.
use mathlib.Core.Path.{◌≡◌, refl, sym, ◌∙◌}
use mathlib.Core.Logic.{◌⊎◌, inl, inr, ⊎_elim, ◌↔◌}
use mathlib.Core.Bool.{true}
use Prim.Native.Nat.{ℕ, zero, suc, pred, ◌≤◌, ◌<◌}
use native.Mathlib.Omega.{arith}
use lib.Dec.{eqb}
use lib.ListN.{length}
use borrow.Author.Tests.{ne_eqb}
use Rattle.mondschein.specs.Network.{at, Simple, Ears, ear_at, birth, is_new}
use Rattle.mondschein.specs.Mondschein.{On, Before, End, Inner, Long}
use Rattle.mondschein.proofs.Logic.{less?}
use Rattle.mondschein.proofs.Lists.{at_same, holds_in, in_holds}
use Rattle.mondschein.proofs.Passed.{new_between, between_new}
use Rattle.mondschein.proofs.Births.{birth_is, birth_le}

-- an index of a list is its first, its last, or between
pub where? : (c k : ℕ) → k < c → (k ≡ 0) ⊎ ((k ≡ pred c) ⊎ ((0 < k) × (suc k < c)))
where? c k l = ⊎_elim (λ (m : 0 < k). ⊎_elim (λ m'. inr (inr (m, m'))) (λ (m' : c ≤ suc k). inr (inl (omega arith))) (less? (suc k) c)) (λ m. inl (omega arith)) (less? 0 k)

pub later_new : (i c k : ℕ) → is_new (eqb (suc i) 0) c k ≡ true → (0 < k) × (suc k < c)
later_new i c k h = new_between c k (rw (ne_eqb (suc i) 0 (λ q. omega arith)) at h)

pub new_later : (i c k : ℕ) → 0 < k → suc k < c → is_new (eqb (suc i) 0) c k ≡ true
new_later i c k l m = rw (ne_eqb (suc i) 0 (λ q. omega arith)) (between_new c k l m)

module _ (P : Ears) where
  -- a new index of P_i at which x stands
  abbrev pub NewAt : ℕ → ℕ → Type 0
  NewAt i x = (k : ℕ) × (k < length (ear_at P i)) × (is_new (eqb i 0) (length (ear_at P i)) k ≡ true) × (at (ear_at P i) k ≡ x)

  pub inner_new : (i x : ℕ) → Inner P i x → NewAt i x
  unfolding is_new
  inner_new zero x (k, l, q) = (k, l, refl, q)
  inner_new (suc i) x ((k, l, q), d) =
      let e = ear_at P (suc i) in
      ⊎_elim
      (λ z. absurd (d (inl (at_same e 0 k (sym z) ∙ q))))
      (⊎_elim
      (λ z. absurd (d (inr (at_same e _ k (sym z) ∙ q))))
      (λ (a, b). (k, l, new_later i (length e) k a b, q)))
      (where? (length e) k l)

  pub new_inner : (i x : ℕ) → Simple (ear_at P i) → NewAt i x → Inner P i x
  new_inner zero x d (k, l, f, q) = (k, l, q)
  new_inner (suc i) x d (k, l, f, q) =
      let (a, b) = later_new i (length (ear_at P (suc i))) k f in (
        (k, l, q),
        ⊎_elim
            (λ z. let w = d 0 k (omega arith) l (z ∙ sym q) in omega arith)
            (λ z. let w = d (pred (length (ear_at P (suc i)))) k (omega arith) l (z ∙ sym q) in omega arith),
      )

  -- an ear with an inner vertex is long
  pub new_long : (i x : ℕ) → i < length P → 3 ≤ length (ear_at P 0) → NewAt i x → Long P i
  new_long zero x b c (k, l, f, q) = (b, λ z. omega arith)
  new_long (suc i) x b c (k, l, f, q) = let (v, w) = later_new i (length (ear_at P (suc i))) k f in (b, λ z. omega arith)

  module _ (meets : (i : ℕ) → i < length P → 0 < i → (x : ℕ) → On P i x → (Before P i x ↔ End P i x)) where
    -- an inner vertex is born in its ear, and a switch is an inner vertex of its birth ear
    pub inner_birth : (i x : ℕ) → i < length P → Inner P i x → birth P x ≡ i
    inner_birth zero x b h = omega (arith, birth_le P x 0 b (in_holds (ear_at P 0) x h))
    inner_birth (suc i) x b (h, d) =
        let le = birth_le P x (suc i) b (in_holds (ear_at P (suc i)) x h) in
        ⊎_elim
        (λ (l : birth P x < suc i). absurd (d ((meets (suc i) b (omega arith) x h).0 (birth P x, l, holds_in (ear_at P (birth P x)) x ((birth_is P x).hit (omega arith))))))
        (λ l. omega arith)
        (less? (birth P x) (suc i))

    pub birth_inner : (i x : ℕ) → i < length P → On P i x → (Before P i x → ⊥) → Inner P i x
    birth_inner zero x b h u = h
    birth_inner (suc i) x b h u = (h, λ z. u ((meets (suc i) b (omega arith) x h).1 z))
