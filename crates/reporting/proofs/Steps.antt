-- The loops of the report: the highest duct, marks along a walk, and one more at each duct that passes.
-- Each law is one turn of a loop.
use Rattle.std.proofs.Common.{◌≡◌, ◌≢◌, refl, ap, ◌∙◌, ⊎_elim, Bool, true, false, cond, List, ℕ, zero, suc, pred, ◌+◌, ◌-◌, ◌≤◌, ◌<◌, arith, add-one, eqb, length, set, replicate, length-set, eq-eqb, ne_eqb}
use Rattle.std.proofs.Math.ListN.{get_or-eq_default}
use Rattle.mondschein.specs.Network.{at}
use Rattle.mondschein.proofs.Logic.{less?}
use Rattle.reporting.specs.Reporting.{NoneAbove, more, marks_after, marks_at, losing, raised, Trees, costs, switch_after, switches_after}

-- ---- the highest duct: past the last there is none
pub top_of_all : (ducts : List ℕ) (top : ℕ) → ((k : ℕ) → k < length ducts → at ducts k ≤ top) → NoneAbove top ducts
top_of_all ducts top h j =
    ⊎_elim (λ (n : j < length ducts). h j n) (λ (n : length ducts ≤ j). omega (arith, get_or-eq_default ducts 0 {n = j} n)) (less? j (length ducts))

-- ---- marks along a walk
module _ (root : ℕ) (p duct : ℕ → ℕ) where
  pub marks_at_root : (k v : ℕ) (marks : List ℕ) → v ≡ root → marks_after root p duct k v marks ≡ marks
  unfolding marks_after
  marks_at_root zero v marks h = refl
  marks_at_root (suc k) v marks h = rw (eq-eqb v root h)

  pub marks_next : (limit k v : ℕ) (marks : List ℕ) → k < limit → v ≢ root
      → marks_after root p duct (limit - k) v marks ≡ marks_after root p duct (limit - (k + 1)) (p v) (set marks (duct v) 1)
  unfolding marks_after
  marks_next limit k v marks h t = let e : limit - k ≡ suc (limit - (k + 1)) = omega arith in rw (e, ne_eqb v root t)

  pub marks_end : (limit k v : ℕ) (marks : List ℕ) → limit ≤ k → marks_after root p duct (limit - k) v marks ≡ marks
  unfolding marks_after
  marks_end limit k v marks h = let e : limit - k ≡ 0 = omega arith in rw e

pub ruleset walk_marks = (marks_at_root, marks_next, marks_end)

-- ---- one more at each duct that passes
module _ (p : ℕ → Bool) (sums : List ℕ) where
  pub raised_begin : sums ≡ raised p sums 0
  unfolding raised
  raised_begin = refl

  pub raised_next : (d : ℕ) {before after : List ℕ} {b : Bool} → 1 ≤ d → before ≡ raised p sums (d - 1) → b ≡ p d
      → after ≡ cond b (set before d (more (at before d))) before → after ≡ raised p sums (d + 1 - 1)
  unfolding raised
  raised_next d l e t q = let here : d + 1 - 1 ≡ suc (d - 1) = omega arith in let z : suc (d - 1) ≡ d = omega arith in q ∙ rw (e, t, here, z)

pub raised_length : (p : ℕ → Bool) (sums : List ℕ) (k : ℕ) → length (raised p sums k) ≡ length sums
unfolding raised
raised_length p sums zero = refl
raised_length p sums (suc k) = go (p (suc k)) (raised_length p sums k)
  where
    go : (b : Bool) → length (raised p sums k) ≡ length sums
        → length (cond b (set (raised p sums k) (suc k) (more (at (raised p sums k) (suc k)))) (raised p sums k)) ≡ length sums
    go true h = omega (arith, h, length-set (raised p sums k) (suc k) (more (at (raised p sums k) (suc k))))
    go false h = h

-- that a count of marks is c says that exactly c walks are lost
pub losing_told : (marks₁ marks₂ marks₃ : List ℕ) (c d : ℕ) {lost : ℕ} → lost ≡ marks_at marks₁ marks₂ marks₃ d → eqb lost c ≡ losing marks₁ marks₂ marks₃ c d
unfolding losing
losing_told marks₁ marks₂ marks₃ c d e = ap (λ (x : ℕ). eqb x c) e

-- ---- the switches, one after another
module _ (t : Trees) (top c : ℕ) where
  pub switch_root : (v : ℕ) (sums : List ℕ) → v ≡ t.root → sums ≡ switch_after t top c v sums
  unfolding switch_after
  switch_root v sums e = rw (eq-eqb v t.root e)

  pub switch_other : (v : ℕ) (sums : List ℕ) {limit : ℕ} {marks₁ marks₂ marks₃ after : List ℕ} → (v ≡ t.root → ⊥) → limit ≡ pred t.n
      → marks₁ ≡ marks_after t.root (at t.row1) (at t.ducts1) limit v (replicate 256 0)
      → marks₂ ≡ marks_after t.root (at t.row2) (at t.ducts2) limit v (replicate 256 0)
      → marks₃ ≡ marks_after t.root (at t.row3) (at t.ducts3) limit v (replicate 256 0)
      → after ≡ raised (losing marks₁ marks₂ marks₃ c) sums top → after ≡ switch_after t top c v sums
  unfolding switch_after
  switch_other v sums d l a b e h = rw (ne_eqb v t.root d, h, a, b, e, l)

  pub switches_begin : (sums : List ℕ) → sums ≡ switches_after t top c sums 0
  unfolding switches_after
  switches_begin sums = refl

  pub switches_next : (sums : List ℕ) (v : ℕ) {before after : List ℕ} → before ≡ switches_after t top c sums v → after ≡ switch_after t top c v before
      → after ≡ switches_after t top c sums (v + 1)
  unfolding switches_after
  switches_next sums v e h = rw (h, e, add-one)

  pub switch_length : (v : ℕ) (sums : List ℕ) → length (switch_after t top c v sums) ≡ length sums
  unfolding switch_after
  switch_length v sums = go (eqb v t.root)
    where
      go : (b : Bool) → length (cond b sums (raised (costs t c v) sums top)) ≡ length sums
      go true = refl
      go false = raised_length (costs t c v) sums top

  pub switches_length : (sums : List ℕ) (v : ℕ) → length (switches_after t top c sums v) ≡ length sums
  unfolding switches_after
  switches_length sums zero = refl
  switches_length sums (suc v) = switch_length v (switches_after t top c sums v) ∙ switches_length sums v
