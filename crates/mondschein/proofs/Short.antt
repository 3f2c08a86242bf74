-- A later ear of two numbers is accepted where its ends are two born switches of the network whose link is unused.
-- Between its ends there is nothing, so 14, 15 and 16 ask nothing of it.
use mathlib.Core.Path.{◌≡◌, refl, sym}
use mathlib.Core.Logic.{◌≢◌, ⊎_elim}
use mathlib.Core.Bool.{Bool, true, false}
use mathlib.Core.List.{[], ◌∷◌}
use Prim.Native.Nat.{ℕ, zero, suc, ◌≤◌, ◌<◌}
use native.Mathlib.Omega.{arith}
use Rattle.mondschein.specs.Network.{Network, at, Simple, joined, link_of, is_new, new_count}
use Rattle.mondschein.specs.Judge.{given, verdict}
use Rattle.mondschein.proofs.Logic.{less?, clash}
use Rattle.mondschein.proofs.Passed.{new_between, passed_given}

-- what holds at both places
both : (P : ℕ → Type 0) → P 0 → P 1 → (k : ℕ) → k < 2 → P k
both P x y zero l = x
both P x y (suc zero) l = y
both P x y (suc (suc k)) l = absurd (omega arith)

module _ (a b : ℕ) (differ : a ≢ b) where
  two_below : (n : ℕ) → a < n → b < n → 2 ≤ n
  two_below n l m = ⊎_elim (λ (h : 1 < n). h) (λ (h : n ≤ 1). absurd (differ (omega arith))) (less? 1 n)

  two_simple : Simple (a ∷ b ∷ [])
  two_simple j k l m =
      both (λ j. at (a ∷ b ∷ []) j ≡ at (a ∷ b ∷ []) k → j ≡ k)
      (both (λ k. a ≡ at (a ∷ b ∷ []) k → 0 ≡ k) (λ q. refl) (λ q. absurd (differ q)) k m)
      (both (λ k. b ≡ at (a ∷ b ∷ []) k → 1 ≡ k) (λ q. absurd (differ (sym q))) (λ q. refl) k m)
      j l

module _ (net : Network) (is_born is_used : ℕ → Bool) where
  pub short_given : (a b : ℕ) → a < net.n → b < net.n → a ≢ b → is_born a ≡ true → is_born b ≡ true → joined net a b ≡ true → is_used (link_of net a b) ≡ false
      → verdict net is_born is_used false (a ∷ b ∷ []) ≡ given (0 ∷ [])
  unfolding new_count
  short_given a b l m d a-born b-born linked unused =
      passed_given net is_born is_used false (a ∷ b ∷ [])
      (record {
        at_least = omega arith;
        fits = two_below a b d net.n l m;
        below = both (λ k. at (a ∷ b ∷ []) k < net.n) l m;
        simple = two_simple a b d;
        linked = one (λ k. joined net (at (a ∷ b ∷ []) k) (at (a ∷ b ∷ []) (suc k)) ≡ true) linked;
        unused = one (λ k. is_used (link_of net (at (a ∷ b ∷ []) k) (at (a ∷ b ∷ []) (suc k))) ≡ false) unused;
        cycle = λ z. clash z refl;
        ends = λ _. (a-born, b-born);
        inner = λ _ k v w. absurd (omega arith);
        alone = λ k v f. none_between_lem k v f;
        neighbour = λ k v f. none_between_lem k v f;
      })
    where
      one : (P : ℕ → Type 0) → P 0 → (k : ℕ) → suc k < 2 → P k
      one P x zero l = x
      one P x (suc k) l = absurd (omega arith)

      none_between_lem : {X : Type 0} (k : ℕ) → k < 2 → is_new false 2 k ≡ true → X
      none_between_lem k l f = let (m, m') = new_between 2 k f in absurd (omega arith)
