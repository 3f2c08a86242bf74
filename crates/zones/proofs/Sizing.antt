-- Laws of checks 24 and 18: what sizes are answered where a slice has room and where it has none, and what of a slice zones leave.
-- Laws of check 24 in the code's order of questions are the last.
use mathlib.Core.Path.{◌≡◌, sym, ap, ◌∙◌}
use mathlib.Core.Logic.{⊎_elim, ◌≢◌}
use mathlib.Core.Bool.{true, false, not}
use mathlib.Core.List.{List, []}
use Prim.Native.Nat.{ℕ, ◌+◌, ◌≤◌, ◌<◌}
use native.Mathlib.Omega.{arith}
use lib.Dec.{eqb}
use lib.ListN.{length}
use borrow.Author.Tests.{eqb-true, eqb-false, eq-eqb, ne_eqb, not-false}
use Rattle.mondschein.specs.Judge.{given, refused}
use Rattle.mondschein.specs.Outcome.{room}
use Rattle.mondschein.proofs.Logic.{which, or_false, or_left, true_or, false_or}
use Rattle.mondschein.proofs.Checks.{check_pass, check_fail}
use Rattle.mondschein.proofs.Outcomes.{room_pass, room_fail}
use Rattle.zones.specs.Zoning.{Sizes}
use Rattle.zones.specs.Sizing.{wrong_sizes, sizing}

module _ (n n₁ n₂ n₃ : ℕ) where
  -- 24 is told of sizes that are wrong, and of no other
  right_sizes : wrong_sizes n n₁ n₂ n₃ ≡ false → Sizes n n₁ n₂ n₃
  unfolding wrong_sizes
  right_sizes f =
      let (a, g) = or_false (eqb n₁ 0) _ f in
      let (b, h) = or_false (eqb n₂ 0) _ g in
      let (c, d) = or_false (eqb n₃ 0) _ h in
      let x = eqb-false n₁ 0 a in
      let y = eqb-false n₂ 0 b in
      let z = eqb-false n₃ 0 c in
      record { some1 = omega arith; some2 = omega arith; some3 = omega arith; sum = eqb-true (n₁ + n₂ + n₃) n (not-false _ d) }

  pub sizes_right : Sizes n n₁ n₂ n₃ → wrong_sizes n n₁ n₂ n₃ ≡ false
  unfolding wrong_sizes
  sizes_right S =
      false_or _ _ (ne_eqb n₁ 0 (λ e. omega (arith, S.some1)))
      (false_or _ _ (ne_eqb n₂ 0 (λ e. omega (arith, S.some2)))
      (false_or _ _ (ne_eqb n₃ 0 (λ e. omega (arith, S.some3))) (ap not (eq-eqb (n₁ + n₂ + n₃) n S.sum))))

  pub sizes_wrong : (Sizes n n₁ n₂ n₃ → ⊥) → wrong_sizes n n₁ n₂ n₃ ≡ true
  sizes_wrong bad = ⊎_elim (λ t. t) (λ f. absurd (bad (right_sizes f))) (which (wrong_sizes n n₁ n₂ n₃))

  -- the answers on a closed session
  module _ (out : List ℕ) where
    pub sizing_24 : wrong_sizes n n₁ n₂ n₃ ≡ true → sizing n n₁ n₂ n₃ out ≡ refused 24 0
    unfolding sizing
    sizing_24 t = check_fail 24 (λ k. wrong_sizes n n₁ n₂ n₃) _ t

    clear_24 : wrong_sizes n n₁ n₂ n₃ ≡ false → sizing n n₁ n₂ n₃ out ≡ room n out (given [])
    unfolding sizing
    clear_24 f = check_pass 24 1 (λ k. wrong_sizes n n₁ n₂ n₃) _ (λ k _. f)

    pub sizing_18 : wrong_sizes n n₁ n₂ n₃ ≡ false → length out < n → sizing n n₁ n₂ n₃ out ≡ refused 18 0
    sizing_18 f l = clear_24 f ∙ room_fail n out (given []) l

    pub sizing_given : wrong_sizes n n₁ n₂ n₃ ≡ false → n ≤ length out → sizing n n₁ n₂ n₃ out ≡ given []
    sizing_given f l = clear_24 f ∙ room_pass n out (given []) l

  -- 24 as the code asks it
  pub wrong_1 : n₁ ≡ 0 → true ≡ wrong_sizes n n₁ n₂ n₃
  unfolding wrong_sizes
  wrong_1 e = sym (or_left _ _ (eq-eqb n₁ 0 e))

  pub wrong_2 : n₂ ≡ 0 → true ≡ wrong_sizes n n₁ n₂ n₃
  unfolding wrong_sizes
  wrong_2 e = sym (true_or (eqb n₁ 0) _ (or_left _ _ (eq-eqb n₂ 0 e)))

  pub wrong_3 : n₃ ≡ 0 → true ≡ wrong_sizes n n₁ n₂ n₃
  unfolding wrong_sizes
  wrong_3 e = sym (true_or (eqb n₁ 0) _ (true_or (eqb n₂ 0) _ (or_left _ _ (eq-eqb n₃ 0 e))))

  pub wrong_sum : n₁ ≢ 0 → n₂ ≢ 0 → n₃ ≢ 0 → not (eqb (n₁ + n₂ + n₃) n) ≡ wrong_sizes n n₁ n₂ n₃
  unfolding wrong_sizes
  wrong_sum a b c = rw (ne_eqb n₁ 0 a, ne_eqb n₂ 0 b, ne_eqb n₃ 0 c)
