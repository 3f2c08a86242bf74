-- The number of switches of a walk that is cut after a limit, as a loop along the row counts them, k of them behind it.
-- The loop ends at the root or at the limit.
use Rattle.std.proofs.Common.{◌≡◌, ◌≢◌, ℕ, zero, suc, ◌+◌, ◌-◌, ◌≤◌, ◌<◌, false, eqb, length, arith}
use Rattle.std.proofs.lemmas.Bool.Decides.{nat_tests}
use Rattle.mondschein.specs.Order.{walk_by}

module _ (root : ℕ) (p : ℕ → ℕ) where
  -- the walk of the root is the root
  pub walk_at_root : (k v : ℕ) → v ≡ root → length (walk_by root p k v) ≡ 1
  unfolding walk_by
  walk_at_root zero v h = omega arith
  walk_at_root (suc k) v h = grind (arith, nat_tests)

  -- elsewhere it has one switch more than the walk of the entry
  pub walk_next : (limit k v : ℕ) → k < limit → v ≢ root → length (walk_by root p (limit - k) v) ≡ suc (length (walk_by root p (limit - (k + 1)) (p v)))
  unfolding walk_by
  walk_next limit k v h t =
      let e : limit - k ≡ suc (limit - (k + 1)) = omega arith in
      let b : eqb v root ≡ false = grind (arith, nat_tests) in
      rw (e, b) (omega arith)

  -- with no link left it is one switch
  pub walk_cut : (limit k v : ℕ) → limit ≤ k → length (walk_by root p (limit - k) v) ≡ 1
  unfolding walk_by
  walk_cut limit k v h = let e : limit - k ≡ 0 = omega arith in rw e (omega arith)

pub ruleset walk_lengths = (walk_at_root, walk_next, walk_cut)
