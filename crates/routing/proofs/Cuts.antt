-- The switches of a cut, as the code finds them: the lowest one, and the lowest but that one.
-- A search that finds none answers n.
use Rattle.std.proofs.Common.{◌≡◌, refl, ap, ◌∙◌, Bool, true, false, not, ◌&&◌, cond, List, [], ◌∷◌, ℕ, suc, ◌≤◌, ◌<◌, arith, eqb, ltb, lt-ltb, le-ltb, ne_eqb}
use Rattle.mondschein.specs.Network.{low, any}
use Rattle.mondschein.specs.Routes.{Thing, switch}
use Rattle.mondschein.proofs.Search.{low_ext}
use Rattle.disjoint.specs.Matching.{lowest, in_cut}
use Rattle.routing.specs.Answers.{in_cut_but}

lowest_turn : (n f : ℕ) (p : ℕ → Bool) → lowest n (suc f) p ≡ cond (ltb (low p n) n) (switch (low p n) ∷ lowest n f (λ w. p w && not (eqb w (low p n)))) []
unfolding lowest any
lowest_turn n f p = refl

lowest_none : (n : ℕ) (p : ℕ → Bool) → lowest n 0 p ≡ []
unfolding lowest
lowest_none n p = refl

module _ (n : ℕ) (next mark : List ℕ) where
  -- n is no switch, so nothing is left out
  first_plain : low (in_cut_but next mark n) n ≡ low (in_cut next mark) n
  unfolding in_cut_but
  first_plain = low_ext (in_cut_but next mark n) (in_cut next mark) n (λ w l. same (in_cut next mark w) (eqb w n) (ne_eqb w n (λ q. omega arith)))
    where
      same : (b c : Bool) → c ≡ false → (b && not c) ≡ b
      same true c q = ap not q
      same false c q = refl

  -- x is the first
  module _ (x : ℕ) (ex : x ≡ low (in_cut_but next mark n) n) where
    one : x ≡ low (in_cut next mark) n
    one = ex ∙ first_plain

    pub lowest_zero : (f : ℕ) → n ≤ x → lowest n (suc f) (in_cut next mark) ≡ []
    lowest_zero f l = lowest_turn n f (in_cut next mark) ∙ rw (← one, le-ltb x n l)

    lowest_some : (f : ℕ) → x < n → lowest n (suc f) (in_cut next mark) ≡ switch x ∷ lowest n f (in_cut_but next mark x)
    unfolding in_cut_but
    lowest_some f l = lowest_turn n f (in_cut next mark) ∙ rw (← one, lt-ltb x n l)

    pub lowest_one : x < n → lowest n 1 (in_cut next mark) ≡ switch x ∷ []
    lowest_one l = lowest_some 0 l ∙ ap (λ (z : List Thing). switch x ∷ z) (lowest_none n (in_cut_but next mark x))

    -- y is the second
    module _ (l : x < n) (y : ℕ) (ey : y ≡ low (in_cut_but next mark x) n) where
      pub lowest_alone : n ≤ y → lowest n 2 (in_cut next mark) ≡ switch x ∷ []
      lowest_alone h = lowest_some 1 l ∙ ap (λ (z : List Thing). switch x ∷ z) (lowest_turn n 0 (in_cut_but next mark x) ∙ rw (← ey, le-ltb y n h))

      pub lowest_two : y < n → lowest n 2 (in_cut next mark) ≡ switch x ∷ switch y ∷ []
      lowest_two h = lowest_some 1 l ∙ ap (λ (z : List Thing). switch x ∷ z) (lowest_turn n 0 (in_cut_but next mark x) ∙ rw (← ey, lt-ltb y n h, lowest_none))
