-- The augmentation and the copies of s by one turn of each loop of the code.
-- A search that did not come to t leaves the matching.
use Rattle.std.proofs.Common.{◌≡◌, refl, ap, ◌∙◌, subst, ◌≢◌, true, false, cond, List, ℕ, zero, suc, ◌+◌, ◌-◌, ◌≤◌, ◌<◌, add-one, arith, set, eq-eqb, ne_eqb}
use Rattle.mondschein.specs.Network.{Network, at}
use Rattle.rows.specs.Rows.{marked}
use Rattle.disjoint.specs.Matching.{Explored, blank, turns, augment, all, short, inverse, explore, matched, tries}

module _ (k : ℕ) (hs us : List ℕ) (j : ℕ) (l : 0 < j) (next : List ℕ) (w : ℕ) where
  turn : augment k hs us j next w ≡ augment k hs us (suc (j - 1)) next w
  turn = ap (λ (i : ℕ). augment k hs us i next w) (let z : j ≡ suc (j - 1) = omega arith in z)

  pub augment_past : at hs (j - 1) ≢ w → augment k hs us j next w ≡ augment k hs us (j - 1) next w
  unfolding augment
  augment_past d = turn ∙ rw (ne_eqb (at hs (j - 1)) w d)

  pub augment_on : at hs (j - 1) ≡ w → at us (j - 1) ≢ k → augment k hs us j next w ≡ augment k hs us (j - 1) (set next (at us (j - 1)) w) (at next (at us (j - 1)))
  unfolding augment
  augment_on e d = turn ∙ rw (eq-eqb (at hs (j - 1)) w e, ne_eqb (at us (j - 1)) k d)

  pub augment_stop : at hs (j - 1) ≡ w → at us (j - 1) ≡ k → augment k hs us j next w ≡ set next (at us (j - 1)) w
  unfolding augment
  augment_stop e q = turn ∙ rw (eq-eqb (at hs (j - 1)) w e, eq-eqb (at us (j - 1)) k q, q)

pub augment_end : (k : ℕ) (hs us : List ℕ) (j : ℕ) (next : List ℕ) (w : ℕ) → j ≤ 0 → augment k hs us j next w ≡ next
unfolding augment
augment_end k hs us zero next w l = refl
augment_end k hs us (suc j) next w l = absurd (omega arith)

-- one search and what it makes of the matching
module _ (net : Network) (s t k : ℕ) (next : List ℕ) where
  pub explore_by : {previous : List ℕ} {h : Explored} → previous ≡ inverse next k → h ≡ turns net s t k previous (suc net.n) 0 blank → h ≡ explore net s t k next
  unfolding explore
  explore_by e q = q ∙ ap (λ (p : List ℕ). turns net s t k p (suc net.n) 0 blank) e

  pub matched_none : marked (explore net s t k next).mark t ≡ false → matched net s t k next ≡ next
  unfolding matched
  matched_none q = rw q

  -- h is what the search gave
  module _ (h : Explored) (e : h ≡ explore net s t k next) where
    pub matched_miss : marked h.mark t ≡ false → next ≡ matched net s t k next
    unfolding matched
    matched_miss q = subst (λ (x : Explored). next ≡ cond (marked x.mark t) (augment k x.heads x.lefts x.count next t) next) e (rw q)

    pub matched_hit : marked h.mark t ≡ true → augment k h.heads h.lefts h.count next t ≡ matched net s t k next
    unfolding matched
    matched_hit q = subst (λ (x : Explored). augment k h.heads h.lefts h.count next t ≡ cond (marked x.mark t) (augment k x.heads x.lefts x.count next t) next) e (rw q)

-- one copy more
module _ (net : Network) (s t i k : ℕ) (next : List ℕ) where
  tries_turn : 0 < i → tries net s t i k next ≡ tries net s t (suc (i - 1)) k next
  tries_turn l = ap (λ (j : ℕ). tries net s t j k next) (let z : i ≡ suc (i - 1) = omega arith in z)

  pub tries_short : 0 < i → marked (explore net s t k next).mark t ≡ false → tries net s t i k next ≡ short next (explore net s t k next).mark
  unfolding tries
  tries_short l q = tries_turn l ∙ rw q

  pub tries_more : 0 < i → marked (explore net s t k next).mark t ≡ true → tries net s t i k next ≡ tries net s t (i - 1) (k + 1) (matched net s t k next)
  unfolding tries
  tries_more l q = tries_turn l ∙ rw (q, add-one)

  pub tries_end : i ≤ 0 → tries net s t i k next ≡ all next
  unfolding tries
  tries_end l = ap (λ (j : ℕ). tries net s t j k next) (let z : i ≡ 0 = omega arith in z)
