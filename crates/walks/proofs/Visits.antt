-- A walk as the switches visited up to its last one, and these written into a slice from the front.
-- What stands behind them is left.
use Rattle.std.proofs.Common.{◌≡◌, refl, ap, Bool, true, false, cond, List, [], ◌∷◌, ◌++◌, ℕ, zero, suc, ◌+◌, ◌-◌, ◌<◌, arith, eqb, length, set, take, drop, append_assoc}
use Rattle.std.proofs.Math.Seq.{drop-cons}
use Rattle.std.proofs.lemmas.List.{set-append_right, take_all}
use Rattle.std.proofs.lemmas.Grind.{common_steps}
use Rattle.mondschein.specs.Order.{walk_by}
use Rattle.walks.specs.Walks.{visited}
use Rattle.mondschein.proofs.Routes.{walk_bound}

-- the walk is what is visited from v in one step less than it has switches
pub visited_walk : (root : ℕ) (p : ℕ → ℕ) (limit v left : ℕ) → suc left ≡ length (walk_by root p limit v) → visited p left v ≡ walk_by root p limit v
unfolding visited walk_by
visited_walk root p zero v zero q = refl
visited_walk root p zero v (suc left) q = absurd (omega arith)
visited_walk root p (suc k) v left q = go (eqb v root) left q (visited_walk root p k (p v))
  where
    go : (b : Bool) (left : ℕ) → suc left ≡ length (cond b (v ∷ []) (v ∷ walk_by root p k (p v)))
        → ((l : ℕ) → suc l ≡ length (walk_by root p k (p v)) → visited p l (p v) ≡ walk_by root p k (p v))
        → visited p left v ≡ cond b (v ∷ []) (v ∷ walk_by root p k (p v))
    go true zero q next = refl
    go true (suc left) q next = absurd (omega arith)
    go false zero q next = absurd (omega (arith, walk_bound root p k (p v)))
    go false (suc left) q next = ap (λ (l : List ℕ). v ∷ l) (next left (omega arith))

-- none of them is written yet, and all are to come
pub visited_begin : (p : ℕ → ℕ) (left : ℕ) (out : List ℕ) (v : ℕ) → take 0 out ++ (visited p (left - 0) v ++ drop (suc left) out) ≡ visited p left v ++ drop (suc left) out
visited_begin p left out v = let e : left - 0 ≡ left = omega arith in rw e

-- ---- a loop that writes them from the front into xs: i of them stand there, and x is the next
module _ (p : ℕ → ℕ) (left : ℕ) (xs : List ℕ) where
  pub visited_next : (x i : ℕ) → i < left → i < length xs
      → take (i + 1) (set xs i x) ++ visited p (left - (i + 1)) (p x) ≡ take i xs ++ visited p (left - i) x
  unfolding visited
  visited_next x i h g = let e : left - i ≡ suc (left - (i + 1)) = omega arith in rw e (grind (arith, common_steps))

  -- the last of them goes behind xs, and what stands behind it in the slice is left
  pub visited_last : (out : List ℕ) (x : ℕ) → length xs ≡ left → left < length out
      → set (xs ++ drop left out) left x ≡ (take left xs ++ visited p (left - left) x) ++ drop (suc left) out
  unfolding visited
  visited_last out x e h =
      let z : left - left ≡ 0 = omega arith in
      rw (set-append_right xs (drop left out) left left x e (omega arith), drop-cons out left 0 h, z, take_all left xs (omega arith), append_assoc xs (x ∷ []) (drop (suc left) out))
