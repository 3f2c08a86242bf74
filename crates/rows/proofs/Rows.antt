-- Laws of rows in the code's terms: what an entry's comparison says of a mark, one mark more, a row filled with one number, and
-- positions. Prefixes are in Prefixes.antt.
use Rattle.std.proofs.Common.{◌≡◌, sym, ap, ap₂, ◌∙◌, subst, ◌≢◌, ⊎_elim, Bool, true, false, ◌||◌, cond, List, ◌++◌, append-nil, ℕ, ◌≤◌, ◌<◌, arith, eqb, ltb, length, drop, replicate, drop_of_length-le, lt-ltb, le-ltb, eq-eqb, eqb-true, ◌⊎◌, min, Option, None, Some, MatchOption, EachIndex, unwrap_or, ne_eqb}
use mathlib.Core.Bool.{or-true, or-false}
use Rattle.mondschein.specs.Network.{at}
use Rattle.mondschein.specs.Order.{position}
use Rattle.mondschein.proofs.Logic.{less?, clash}
use Rattle.mondschein.proofs.Search.{IsLow, low_is, low_none, low_stop}

-- the entry r of a table of marks
pub marked_hit : {r mark : ℕ} → r ≡ mark → 0 < r → ltb 0 mark ≡ true
marked_hit q h = lt-ltb _ _ (subst (λ (z : ℕ). 0 < z) q h)

pub marked_miss : {r mark : ℕ} → r ≡ mark → r ≤ 0 → ltb 0 mark ≡ false
marked_miss q h = le-ltb _ _ (subst (λ (z : ℕ). z ≤ 0) q h)

-- one mark more
pub mark_or : (b : Bool) (x : ℕ) → ltb 0 (cond b 1 x) ≡ (ltb 0 x || b)
mark_or true x = sym (or-true (ltb 0 x))
mark_or false x = sym (or-false (ltb 0 x))

-- a row that is full of x
pub filled : (row : List ℕ) (x v : ℕ) → v ≡ length row → replicate v x ++ drop v row ≡ replicate (length row) x
filled row x v e = ap₂ ◌++◌ (ap (λ (k : ℕ). replicate k x) e) (drop_of_length-le row {i = v} (omega arith)) ∙ append-nil (replicate (length row) x)

-- the position of x, by what stands at an index
module _ (l : List ℕ) (x : ℕ) where
  first : IsLow (λ j. eqb (at l j) x) (length l) (position l x)
  unfolding position
  first = low_is (λ j. eqb (at l j) x) (length l)

  pub position_end : position l x ≤ length l
  position_end = first.le

  pub position_found : position l x < length l → at l (position l x) ≡ x
  position_found h = eqb-true _ _ (first.hit h)

  pub position_hit : (k : ℕ) → at l k ≡ x → position l x ≤ k
  position_hit k e = ⊎_elim (λ (h : k < position l x). clash (eq-eqb (at l k) x e) (first.before k h)) (λ (h : position l x ≤ k). h) (less? k (position l x))

  -- the position, of what a search for x answers
  pub position_is : (r : Option ℕ) → MatchOption r (EachIndex l (λ k. at l k ≢ x)) (λ i. (i < length l) × (at l i ≡ x) × ((k : ℕ) → k < i → at l k ≢ x)) → unwrap_or r (length l) ≡ position l x
  unfolding position
  position_is None h = sym (low_none (λ j. eqb (at l j) x) (length l) (λ j m. ne_eqb _ _ (h j m)))
  position_is (Some i) h = sym (low_stop (λ j. eqb (at l j) x) (length l) i (λ j m. ne_eqb _ _ (h.2 j m)) h.0 (eq-eqb _ _ h.1))

-- the lesser of two positions, of what one search for both answers
pub position_is_either : (l : List ℕ) (x y : ℕ) (r : Option ℕ)
    → MatchOption r (EachIndex l (λ k. (at l k ≢ x) × (at l k ≢ y))) (λ i. (i < length l) × ((at l i ≡ x) ⊎ (at l i ≡ y)) × ((k : ℕ) → k < i → (at l k ≢ x) × (at l k ≢ y)))
    → unwrap_or r (length l) ≡ min (position l x) (position l y)
position_is_either l x y None h =
    omega (
      arith,
      position_is l x None (λ k m. (h k m).0),
      position_is l y None (λ k m. (h k m).1),
    )
position_is_either l x y (Some i) h =
    ⊎_elim
    (λ e. omega (arith, position_is l x (Some i) (h.0, e, λ k m. (h.2 k m).0), later y (λ k m. (h.2 k m).1)))
    (λ e. omega (arith, position_is l y (Some i) (h.0, e, λ k m. (h.2 k m).1), later x (λ k m. (h.2 k m).0)))
    h.1
  where
    later : (z : ℕ) → ((k : ℕ) → k < i → at l k ≢ z) → i ≤ position l z
    later z d = ⊎_elim (λ (m : position l z < i). absurd (d _ m (position_found l z (omega (arith, h.0))))) (λ (m : i ≤ position l z). m) (less? (position l z) i)
