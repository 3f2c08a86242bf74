-- The first k numbers of a list, or all of it where it has fewer: the part of a slice that `least` bounds.
-- A caller need not say that the slice is long enough.
use Rattle.std.proofs.Common.{◌≡◌, sym, ap, ◌∙◌, ⊎_elim, List, ℕ, min, arith, length, take, length-take, take_all}
use Rattle.mondschein.proofs.Logic.{less?}

-- the first k numbers of a list, or all of it
module _ {r : ℕ} (k : ℕ) (l : List ℕ) (q : r ≡ min k (length l)) where
  pub least_length : r ≡ length (take r l)
  least_length = omega (arith, length-take r l)

  pub least_take : take r l ≡ take k l
  least_take =
      ⊎_elim
      (λ h. ap (λ (n : ℕ). take n l) (let z : r ≡ k = omega arith in z))
      (λ h. take_all r l (omega arith) ∙ sym (take_all k l (omega arith)))
      (less? k (length l))
