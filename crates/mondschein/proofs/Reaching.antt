-- Laws of `reaches` and `distance`, for any numbering of births: a distance is the least number of links that reaches last, at most N, and at
-- most one more than that of a neighbour born later; and what tree 3 does not ask for.
use mathlib.Core.Path.{◌≡◌, refl, ap, ap₂}
use mathlib.Core.Logic.{◌⊎◌, inl, inr, ⊎_elim}
use mathlib.Core.List.{List}
use mathlib.Core.Bool.{Bool, true, ◌&&◌, ◌||◌, cond}
use Prim.Native.Nat.{ℕ, zero, suc, ◌≤◌, ◌<◌}
use native.Mathlib.Omega.{arith}
use lib.Dec.{eqb, ltb}
use borrow.Author.Tests.{eqb-true, eq-eqb}
use Rattle.mondschein.specs.Network.{Network, size, former, latter, joins, joined}
use Rattle.mondschein.specs.Order.{Rule, lowest, shortest, is_later, reaches, distance, taken, parent3_of}
use Rattle.mondschein.proofs.Logic.{clash, less?, and_true, true_and, or_true, or_left, true_or}
use Rattle.mondschein.proofs.Search.{low_is, low_ext, low_found, any_true, any_ext, true_any}

module _ (net : Network) (b : ℕ → ℕ) where
  pub reaches_last : (k v : ℕ) → v ≡ net.last → reaches net b k v ≡ true
  unfolding reaches
  reaches_last zero v e = eq-eqb v net.last e
  reaches_last (suc k) v e = or_left _ _ (eq-eqb v net.last e)

  pub reaches_on : (k v x : ℕ) → x < net.n → is_later net b v x ≡ true → reaches net b k x ≡ true → reaches net b (suc k) v ≡ true
  unfolding reaches
  reaches_on k v x l h r = true_or (eqb v net.last) _ (true_any (λ x. is_later net b v x && reaches net b k x) net.n x l (true_and (is_later net b v x) _ h r))

  pub distance_le : (k v : ℕ) → reaches net b k v ≡ true → distance net b v ≤ k
  unfolding distance
  distance_le k v h = ⊎_elim (λ l. clash h ((low_is (λ j. reaches net b j v) net.n).before k l)) (λ l. l) (less? k (distance net b v))

  pub distance_reached : (k v : ℕ) → k < net.n → reaches net b k v ≡ true → distance net b v < net.n
  unfolding distance
  distance_reached k v l h = (low_found (λ j. reaches net b j v) net.n k l h).0

  distance_least : (v : ℕ) → distance net b v < net.n → reaches net b (distance net b v) v ≡ true
  unfolding distance
  distance_least v l = (low_is (λ k. reaches net b k v) net.n).hit l

  pub distance_most : (v : ℕ) → distance net b v ≤ net.n
  unfolding distance
  distance_most v = (low_is (λ k. reaches net b k v) net.n).le

  pub distance_last : distance net b net.last ≡ 0
  distance_last = let l = distance_le 0 net.last (reaches_last 0 net.last refl) in omega arith

  -- a link to a neighbour born later leads one nearer to last at most
  pub distance_on : (v x : ℕ) → x < net.n → is_later net b v x ≡ true → distance net b v ≤ suc (distance net b x)
  distance_on v x l h =
      ⊎_elim
      (λ (m : distance net b x < net.n). distance_le (suc (distance net b x)) v (reaches_on (distance net b x) v x l h (distance_least x m)))
      (λ (m : net.n ≤ distance net b x). omega (arith, m, distance_most v))
      (less? (distance net b x) net.n)

  -- and some such link does, where last can be reached
  reaches_first : (k v : ℕ) → reaches net b k v ≡ true → (v ≡ net.last) ⊎ ((x : ℕ) × (x < net.n) × (is_later net b v x ≡ true) × (suc (distance net b x) ≤ k))
  unfolding reaches
  reaches_first zero v h = inl (eqb-true v net.last h)
  reaches_first (suc k) v h =
      ⊎_elim
      (λ t. inl (eqb-true v net.last t))
      (λ t.
      let (x, l, g) = any_true (λ x. is_later net b v x && reaches net b k x) net.n t in
      let (i, j) = and_true (is_later net b v x) _ g in
      inr (x, l, i, omega (arith, distance_le k x j)))
      (or_true (eqb v net.last) _ h)

  pub distance_first : (v : ℕ) → distance net b v < net.n
      → (v ≡ net.last) ⊎ ((x : ℕ) × (x < net.n) × (is_later net b v x ≡ true) × (suc (distance net b x) ≤ distance net b v))
  distance_first v l = reaches_first (distance net b v) v (distance_least v l)

-- tree 3 asks only which switches are born later
module _ (net : Network) (b b' : ℕ → ℕ) (h : (v x : ℕ) → v < net.n → x < net.n → ltb (b v) (b x) ≡ ltb (b' v) (b' x)) where
  later_ext : (v x : ℕ) → v < net.n → x < net.n → is_later net b v x ≡ is_later net b' v x
  later_ext v x l m = ap (λ (c : Bool). joined net v x && c) (h v x l m)

  reaches_ext : (k v : ℕ) → v < net.n → reaches net b k v ≡ reaches net b' k v
  unfolding reaches
  reaches_ext zero v l = refl
  reaches_ext (suc k) v l = ap (λ (c : Bool). eqb v net.last || c) (any_ext _ _ net.n (λ x m. ap₂ ◌&&◌ (later_ext v x l m) (reaches_ext k x m)))

  distance_ext : (v : ℕ) → v < net.n → distance net b v ≡ distance net b' v
  unfolding distance
  distance_ext v l = low_ext _ _ net.n (λ k _. reaches_ext k v l)

  taken_ext : (rule : Rule) (v : ℕ) → v < net.n → taken net b rule v ≡ taken net b' rule v
  unfolding taken
  taken_ext lowest v l = low_ext _ _ net.n (λ x m. later_ext v x l m)
  taken_ext shortest v l =
      low_ext _ _ net.n (λ x m. ap₂ ◌&&◌ (later_ext v x l m) (ap₂ (λ (c d : ℕ). eqb (suc c) d) (distance_ext x m) (distance_ext v l)))

  pub parent3_ext : (rule : Rule) (v : ℕ) → v < net.n → parent3_of net b rule v ≡ parent3_of net b' rule v
  unfolding parent3_of
  parent3_ext rule v l = ap (λ (y : ℕ). cond (eqb v net.root) v (cond (eqb v net.last) net.root y)) (taken_ext rule v l)

-- tree 3 does not ask for first
module _ (n : ℕ) (links : List ℕ) (root first first' last : ℕ) (b : ℕ → ℕ) where
  abbrev one : Network
  one = record { n = n; links = links; root = root; first = first; last = last }

  abbrev other : Network
  other = record { n = n; links = links; root = root; first = first'; last = last }

  reaches_named : (k v : ℕ) → reaches one b k v ≡ reaches other b k v
  unfolding reaches joined joins former latter size
  reaches_named zero v = refl
  reaches_named (suc k) v = ap (λ (c : Bool). eqb v last || c) (any_ext _ _ n (λ x _. ap (λ (c : Bool). is_later one b v x && c) (reaches_named k x)))

  distance_named : (v : ℕ) → distance one b v ≡ distance other b v
  unfolding distance
  distance_named v = low_ext _ _ n (λ k _. reaches_named k v)

  taken_named : (rule : Rule) (v : ℕ) → taken one b rule v ≡ taken other b rule v
  unfolding taken joined joins former latter size
  taken_named lowest v = refl
  taken_named shortest v = low_ext _ _ n (λ x _. ap₂ (λ (c d : ℕ). is_later one b v x && eqb (suc c) d) (distance_named x) (distance_named v))

  pub parent3_named : (rule : Rule) (v : ℕ) → parent3_of one b rule v ≡ parent3_of other b rule v
  unfolding parent3_of
  parent3_named rule v = ap (λ (y : ℕ). cond (eqb v root) v (cond (eqb v last) root y)) (taken_named rule v)
