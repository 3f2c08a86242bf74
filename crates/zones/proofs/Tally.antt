-- Laws of the order cut at ear i: how many of its first k are older or in the ear, the six ways to a zone, and how many each zone has.
-- `tallied` counts the zones.
use mathlib.Core.Path.{◌≡◌}
use mathlib.Core.Logic.{⊎_elim, ◌≢◌}
use mathlib.Core.Bool.{cond}
use mathlib.Core.List.{List}
use Prim.Native.Nat.{ℕ, zero, suc, ◌+◌, ◌-◌, ◌≤◌, ◌<◌}
use native.Mathlib.Omega.{arith}
use lib.Dec.{eqb}
use borrow.Author.Tests.{lt-ltb, le-ltb, eq-eqb, ne_eqb}
use Rattle.mondschein.specs.Network.{count, at}
use Rattle.mondschein.proofs.Logic.{less?, trichotomy}
use Rattle.mondschein.proofs.Search.{count_hit, count_skip, count_more}
use Rattle.zones.specs.Cut.{older, in_ear, zone_at}

module _ (o : List ℕ) (b : ℕ → ℕ) (i : ℕ) where
  abbrev bk : ℕ → ℕ
  bk k = b (at o k)

  pub older_hit : (k : ℕ) → bk k < i → older o b i (suc k) ≡ suc (older o b i k)
  unfolding older
  older_hit k h = count_hit _ k (lt-ltb _ _ h)

  pub older_skip : (k : ℕ) → i ≤ bk k → older o b i (suc k) ≡ older o b i k
  unfolding older
  older_skip k h = count_skip _ k (le-ltb _ _ h)

  pub in_ear_hit : (k : ℕ) → bk k ≡ i → in_ear o b i (suc k) ≡ suc (in_ear o b i k)
  unfolding in_ear
  in_ear_hit k h = count_hit _ k (eq-eqb _ _ h)

  pub in_ear_skip : (k : ℕ) → bk k ≢ i → in_ear o b i (suc k) ≡ in_ear o b i k
  unfolding in_ear
  in_ear_skip k h = count_skip _ k (ne_eqb _ _ h)

  pub older_more : (j k : ℕ) → j ≤ k → older o b i j ≤ older o b i k
  unfolding older
  older_more j k l = count_more _ j k l

  pub in_ear_more : (j k : ℕ) → j ≤ k → in_ear o b i j ≤ in_ear o b i k
  unfolding in_ear
  in_ear_more j k l = count_more _ j k l

  pub older_past : (j k : ℕ) → j < k → bk j < i → older o b i j < older o b i k
  older_past j k l h = omega (arith, older_hit j h, older_more (suc j) k l)

  pub in_ear_past : (j k : ℕ) → j < k → bk j ≡ i → in_ear o b i j < in_ear o b i k
  in_ear_past j k l h = omega (arith, in_ear_hit j h, in_ear_more (suc j) k l)

  module _ (t u w : ℕ) where
    pub old₁ : (k : ℕ) → bk k < i → older o b i k < t → zone_at o b i t u w k ≡ 1
    unfolding zone_at
    old₁ k h l = rw (lt-ltb (bk k) i h, lt-ltb (older o b i k) t l)

    pub old₂ : (k : ℕ) → bk k < i → t ≤ older o b i k → zone_at o b i t u w k ≡ 2
    unfolding zone_at
    old₂ k h l = rw (lt-ltb (bk k) i h, le-ltb (older o b i k) t l)

    pub late₃ : (k : ℕ) → i < bk k → zone_at o b i t u w k ≡ 3
    unfolding zone_at
    late₃ k h = rw (le-ltb (bk k) i (omega arith), lt-ltb i (bk k) h)

    pub cut₁ : (k : ℕ) → bk k ≡ i → in_ear o b i k < u → zone_at o b i t u w k ≡ 1
    unfolding zone_at
    cut₁ k h l = rw (le-ltb (bk k) i (omega arith), le-ltb i (bk k) (omega arith), lt-ltb (in_ear o b i k) u l)

    pub cut₃ : (k : ℕ) → bk k ≡ i → u ≤ in_ear o b i k → in_ear o b i k < w → zone_at o b i t u w k ≡ 3
    unfolding zone_at
    cut₃ k h l m = rw (le-ltb (bk k) i (omega arith), le-ltb i (bk k) (omega arith), le-ltb (in_ear o b i k) u l, lt-ltb (in_ear o b i k) w m)

    pub cut₂ : (k : ℕ) → bk k ≡ i → u ≤ in_ear o b i k → w ≤ in_ear o b i k → zone_at o b i t u w k ≡ 2
    unfolding zone_at
    cut₂ k h l m = rw (le-ltb (bk k) i (omega arith), le-ltb i (bk k) (omega arith), le-ltb (in_ear o b i k) u l, le-ltb (in_ear o b i k) w m)

    -- the six ways
    pub cases : (P : ℕ → Type 0) (k : ℕ)
        → (bk k < i → older o b i k < t → P 1) → (bk k < i → t ≤ older o b i k → P 2) → (i < bk k → P 3)
        → (bk k ≡ i → in_ear o b i k < u → P 1) → (bk k ≡ i → u ≤ in_ear o b i k → in_ear o b i k < w → P 3) → (bk k ≡ i → u ≤ in_ear o b i k → w ≤ in_ear o b i k → P 2)
        → P (zone_at o b i t u w k)
    cases P k f₁ f₂ f₃ f₄ f₅ f₆ =
        ⊎_elim
        (λ h. ⊎_elim (λ l. rw (old₁ k h l) (f₁ h l)) (λ l. rw (old₂ k h l) (f₂ h l)) (less? (older o b i k) t))
        (⊎_elim
        (λ h. rw (late₃ k h) (f₃ h))
        (λ h.
        ⊎_elim
        (λ l. rw (cut₁ k h l) (f₄ h l))
        (λ l. ⊎_elim (λ m. rw (cut₃ k h l m) (f₅ h l m)) (λ m. rw (cut₂ k h l m) (f₆ h l m)) (less? (in_ear o b i k) w))
        (less? (in_ear o b i k) u)))
        (trichotomy (bk k) i)

    abbrev pub tally : ℕ → ℕ → ℕ
    tally z k = count (λ j. eqb (zone_at o b i t u w j) z) k

    abbrev pub Tallied : ℕ → Type 0
    Tallied k =
        (tally 1 k + (older o b i k - t) + (in_ear o b i k - u) ≡ older o b i k + in_ear o b i k)
        × (tally 2 k ≡ (older o b i k - t) + (in_ear o b i k - w))
        × (tally 1 k + tally 2 k + tally 3 k ≡ k)

    tally_more : (z y k : ℕ) → zone_at o b i t u w k ≡ y → tally z (suc k) ≡ cond (eqb y z) (suc (tally z k)) (tally z k)
    unfolding count
    tally_more z y k e = rw e

    -- how many of the first k are in each zone
    pub tallied : u ≤ w → (k : ℕ) → Tallied k
    unfolding count older in_ear
    tallied v zero = omega arith
    tallied v (suc k) = go (tallied v k)
      where
        in₁ : zone_at o b i t u w k ≡ 1 → (tally 1 (suc k) ≡ suc (tally 1 k)) × (tally 2 (suc k) ≡ tally 2 k) × (tally 3 (suc k) ≡ tally 3 k)
        in₁ e = (tally_more 1 1 k e, tally_more 2 1 k e, tally_more 3 1 k e)

        in₂ : zone_at o b i t u w k ≡ 2 → (tally 1 (suc k) ≡ tally 1 k) × (tally 2 (suc k) ≡ suc (tally 2 k)) × (tally 3 (suc k) ≡ tally 3 k)
        in₂ e = (tally_more 1 2 k e, tally_more 2 2 k e, tally_more 3 2 k e)

        in₃ : zone_at o b i t u w k ≡ 3 → (tally 1 (suc k) ≡ tally 1 k) × (tally 2 (suc k) ≡ tally 2 k) × (tally 3 (suc k) ≡ suc (tally 3 k))
        in₃ e = (tally_more 1 3 k e, tally_more 2 3 k e, tally_more 3 3 k e)

        go : Tallied k → Tallied (suc k)
        go s =
            ⊎_elim
            (λ h.
            let a = older_hit k h in
            let c = in_ear_skip k (λ e. omega arith) in
            ⊎_elim (λ l. let n = in₁ (old₁ k h l) in omega arith) (λ l. let n = in₂ (old₂ k h l) in omega arith) (less? (older o b i k) t))
            (⊎_elim
            (λ h. let a = older_skip k (omega arith) in let c = in_ear_skip k (λ e. omega arith) in let n = in₃ (late₃ k h) in omega arith)
            (λ h.
            let a = older_skip k (omega arith) in
            let c = in_ear_hit k h in
            ⊎_elim
            (λ l. let n = in₁ (cut₁ k h l) in omega arith)
            (λ l. ⊎_elim (λ m. let n = in₃ (cut₃ k h l m) in omega arith) (λ m. let n = in₂ (cut₂ k h l m) in omega arith) (less? (in_ear o b i k) w))
            (less? (in_ear o b i k) u)))
            (trichotomy (bk k) i)
