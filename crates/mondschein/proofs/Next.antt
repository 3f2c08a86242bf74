-- What the next accepted ear brings: which of its switches are new, and their entries in trees 1 and 2 by their places in the ear as
-- it is written.
use mathlib.Core.Path.{◌≡◌, refl, sym, ap, ◌∙◌}
use mathlib.Core.Logic.{⊎_elim, ◌≢◌}
use mathlib.Core.Bool.{Bool, true, false, not, ◌&&◌, cond}
use mathlib.Core.List.{List, [], ◌∷◌, ◌++◌, reverse}
use Prim.Native.Nat.{ℕ, suc, pred, ◌+◌, ◌-◌, ◌<◌}
use native.Mathlib.Omega.{arith}
use lib.Dec.{eqb}
use lib.ListN.{length}
use lib.ListN as L
use borrow.Author.Tests.{ne_eqb}
use Rattle.mondschein.specs.Network.{Network, at, Simple, holds, Ears, ear_at, born}
use Rattle.mondschein.specs.Order.{position, upward, from_a, between, order, parent1, parent2}
use Rattle.mondschein.proofs.Logic.{which, clash, true_and, false_and}
use Rattle.mondschein.proofs.Lists.{at_same, at_reverse, holds_in, holds_by, holds_at}
use Rattle.mondschein.proofs.Passed.{Passed}
use Rattle.mondschein.proofs.Births.{Passing, first_passed, born_at, at_born}
use Rattle.mondschein.proofs.Order.{position_is, between_length, between_at}
use Rattle.mondschein.proofs.Growth.{root_held, parent1_new, parent2_new}
use Rattle.mondschein.proofs.Inner.{where?}

-- nothing is born before the first ear
pub none_born : (x : ℕ) → born [] x ≡ false
none_born x = ⊎_elim (λ t. let (i, l, _) = born_at [] x t in absurd (omega arith)) (λ f. f) (which (born [] x))

-- in a list that repeats nothing a number has the position where it stands
position_own : (l : List ℕ) → Simple l → (k : ℕ) → k < length l → position l (at l k) ≡ k
position_own l d k h = position_is l (at l k) k h refl (λ j m q. let z = d j k (omega arith) h q in omega arith)

-- the places next to a switch between the ends, from A to B, in the ear as it is written
module _ (o e : List ℕ) (d : Simple e) (k : ℕ) (l : suc (suc k) < length e) where
  turned_position : position (reverse e) (at e (suc k)) ≡ length e - suc (suc k)
  turned_position =
      position_is (reverse e) (at e (suc k)) (length e - suc (suc k)) (omega (arith, L.length-reverse e))
      (at_reverse e (length e - suc (suc k)) (omega arith) ∙ at_same e _ (suc k) (omega arith))
      (λ j m q. let z = d (length e - suc j) (suc k) (omega arith) (omega arith) (sym (at_reverse e j (omega arith)) ∙ q) in omega arith)

  towards_a : at (from_a o e) (pred (position (from_a o e) (at e (suc k)))) ≡ at e (k + cond (upward o e) 0 2)
  unfolding from_a
  towards_a = go (upward o e)
    where
      go : (b : Bool) → at (cond b e (reverse e)) (pred (position (cond b e (reverse e)) (at e (suc k)))) ≡ at e (k + cond b 0 2)
      go true = at_same e _ (k + 0) (omega (arith, position_own e d (suc k) (omega arith)))
      go false = rw turned_position (at_reverse e (pred (length e - suc (suc k))) (omega arith) ∙ at_same e _ (k + 2) (omega arith))

  towards_b : at (from_a o e) (suc (position (from_a o e) (at e (suc k)))) ≡ at e (k + cond (upward o e) 2 0)
  unfolding from_a
  towards_b = go (upward o e)
    where
      go : (b : Bool) → at (cond b e (reverse e)) (suc (position (cond b e (reverse e)) (at e (suc k)))) ≡ at e (k + cond b 2 0)
      go true = at_same e _ (k + 2) (omega (arith, position_own e d (suc k) (omega arith)))
      go false = rw turned_position (at_reverse e (suc (length e - suc (suc k))) (omega arith) ∙ at_same e _ (k + 0) (omega arith))

-- the first ear
module _ (net : Network) (e : List ℕ) (p : Passed net [] true e) (k : ℕ) (l : 0 < k) (m : k < length e) where
  first_not_root : at e k ≢ net.root
  first_not_root q = let z = p.simple k 0 m (omega arith) (q ∙ sym (p.cycle refl).0) in omega arith

  pub parent1_first_ear : parent1 net (e ∷ []) (at e k) ≡ at e (pred k)
  parent1_first_ear = parent1_new net [] e (at e k) first_not_root (none_born (at e k)) (holds_at e k m) ∙ at_same e _ _ (ap pred (position_own e p.simple k m))

  pub parent2_first_ear : suc k < length e → parent2 net (e ∷ []) (at e k) ≡ at e (suc k)
  parent2_first_ear r =
      parent2_new net [] e (at e k) first_not_root (none_born (at e k)) (holds_at e k m)
      (λ q. let z = p.simple k (pred (length e)) m (omega arith) (q ∙ sym (p.cycle refl).1) in omega arith)
      ∙ at_same e _ _ (ap suc (position_own e p.simple k m))

-- from the first ear on root and first are born
root_born : (net : Network) (es : Ears) → Passing net es → 0 < length es → born es net.root ≡ true
root_born net es acc l = at_born es net.root 0 l (root_held net es acc l)

pub first_born_lem : (net : Network) (es : Ears) → Passing net es → 0 < length es → born es net.first ≡ true
first_born_lem net es acc l =
    let p = first_passed net es acc l in
    at_born es net.first 0 l (holds_by (ear_at es 0) (pred (length (ear_at es 0))) net.first (omega (arith, p.at_least)) (p.cycle refl).1)

-- a later ear
module _ (net : Network) (es : Ears) (e : List ℕ) (p : Passed net es false e) where
  pub between_held : (x : ℕ) → holds (between e) x ≡ (holds e x && not (born es x))
  between_held x = ⊎_elim (λ t. t ∙ sym (inward t)) (λ f. f ∙ sym (outward f)) (which (holds (between e) x))
    where
      inward : holds (between e) x ≡ true → (holds e x && not (born es x)) ≡ true
      inward t =
          let (k, l, q) = holds_in (between e) x t in
          let m : suc (suc k) < length e = omega (arith, between_length e) in
          let r : at e (suc k) ≡ x = sym (between_at e k m) ∙ q in
          true_and _ _ (holds_by e (suc k) x (omega arith) r) (ap (λ (y : ℕ). not (born es y)) (sym r) ∙ ap not (p.inner refl (suc k) (omega arith) m))

      outward : holds (between e) x ≡ false → (holds e x && not (born es x)) ≡ false
      outward f =
          false_and (holds e x) _ (λ h.
          let (k, l, q) = holds_in e x h in
          ap not
          (⊎_elim
          (λ (z : k ≡ 0). ap (born es) (sym q ∙ at_same e k 0 z) ∙ (p.ends refl).0)
          (⊎_elim
          (λ (z : k ≡ pred (length e)). ap (born es) (sym q ∙ at_same e k _ z) ∙ (p.ends refl).1)
          (λ (a, b).
          let r : at (between e) (pred k) ≡ x = between_at e (pred k) (omega arith) ∙ at_same e (suc (pred k)) k (omega arith) ∙ q in
          clash (holds_by (between e) (pred k) x (omega (arith, between_length e)) r) f))
          (where? (length e) k l)))

  module _ (acc : Passing net es) (some : 0 < length es) (k : ℕ) (l : suc (suc k) < length e) where
    -- a switch between its ends was unborn, so it is neither root nor first
    inner_unborn : born es (at e (suc k)) ≡ false
    inner_unborn = p.inner refl (suc k) (omega arith) l

    not_born : (x : ℕ) → born es x ≡ true → at e (suc k) ≢ x
    not_born x h q = clash (ap (born es) q ∙ h) inner_unborn

    later_course : cond (eqb (length es) 0) e (from_a (order es) e) ≡ from_a (order es) e
    later_course = rw (ne_eqb (length es) 0 (λ z. omega arith))

    pub parent1_inner : parent1 net (es ++ (e ∷ [])) (at e (suc k)) ≡ at e (k + cond (upward (order es) e) 0 2)
    parent1_inner =
        parent1_new net es e (at e (suc k)) (not_born net.root (root_born net es acc some)) inner_unborn (holds_at e (suc k) (omega arith))
        ∙ ap (λ (c : List ℕ). at c (pred (position c (at e (suc k))))) later_course
        ∙ towards_a (order es) e p.simple k l

    pub parent2_inner : parent2 net (es ++ (e ∷ [])) (at e (suc k)) ≡ at e (k + cond (upward (order es) e) 2 0)
    parent2_inner =
        parent2_new net es e (at e (suc k)) (not_born net.root (root_born net es acc some)) inner_unborn (holds_at e (suc k) (omega arith))
        (not_born net.first (first_born_lem net es acc some))
        ∙ ap (λ (c : List ℕ). at c (suc (position c (at e (suc k))))) later_course
        ∙ towards_b (order es) e p.simple k l
