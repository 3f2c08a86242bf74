-- Which right number may follow which left one: a neighbour, or the switch itself; a copy of s stands for s.
-- A half-link leads from its switch to a neighbour, and each neighbour has one that leads to it.
use mathlib.Core.Path.{◌≡◌, sym, ap, ◌∙◌, subst}
use mathlib.Core.Logic.{◌⊎◌, inl, inr, ⊎_elim, ◌≢◌}
use mathlib.Core.Bool.{true, not, cond}
use Prim.Native.Nat.{ℕ, ◌*◌, ◌/◌, ◌≤◌, ◌<◌}
use native.Mathlib.Omega.{arith}
use lib.Dec.{eqb, ltb}
use borrow.Author.Tests.{lt-ltb, le-ltb, eqb-true, eqb-false, eq-eqb, ne_eqb, not-true}
use Rattle.mondschein.specs.Network.{Network, at, size, joined, Proper}
use Rattle.mondschein.proofs.Logic.{same?, and_true, true_and, and_false, false_and}
use Rattle.mondschein.proofs.Links.{joined_adjacent, adjacent_joined, adjacent_below}
use Rattle.network.specs.Index.{far_end}
use Rattle.network.proofs.Indexing.{half_joins, joins_half}
use Rattle.disjoint.specs.Matching.{usable, left}

pub joined_below : (net : Network) → Proper net → (a b : ℕ) → joined net a b ≡ true → (a < net.n) × (b < net.n)
joined_below net proper a b h = adjacent_below net proper a b (joined_adjacent net a b h)

-- the switch that a left number stands for
unfoldable pub real : ℕ → ℕ → ℕ → ℕ
real n s u = cond (ltb u n) u s

pub real_old : (n s u : ℕ) → u < n → real n s u ≡ u
unfolding real
real_old n s u l = rw (lt-ltb u n l)

pub real_new : (n s u : ℕ) → n ≤ u → real n s u ≡ s
unfolding real
real_new n s u l = rw (le-ltb u n l)

-- w may be entered after u was left
abbrev pub Edge : Network → ℕ → ℕ → ℕ → ℕ → Type 0
Edge net s t u w = ((u < net.n) × (u ≡ w)) ⊎ ((joined net (real net.n s u) w ≡ true) × (u ≢ s) × (u ≢ t) × (w ≢ s) × (net.n ≤ u → w ≢ t))

-- b is a, or a neighbour of it
abbrev pub Near : Network → ℕ → ℕ → Type 0
Near net a b = ((a < net.n) × (a ≡ b)) ⊎ (joined net a b ≡ true)

pub near_below : (net : Network) → Proper net → (a b : ℕ) → Near net a b → (a < net.n) × (b < net.n)
near_below net proper a b (inl (l, q)) = (l, subst (λ (z : ℕ). z < net.n) q l)
near_below net proper a b (inr j) = joined_below net proper a b j

-- half-links
module _ (net : Network) (v : ℕ) where
  pub half_near : (e : ℕ) → e < 2 * size net → at net.links e ≡ v → Near net v (far_end net e)
  half_near e l p = inr (subst (λ (z : ℕ). joined net z (far_end net e) ≡ true) p (adjacent_joined net _ _ (e / 2, omega arith, half_joins net e)))

  pub near_half : (w : ℕ) → joined net v w ≡ true → (e : ℕ) × (e < 2 * size net) × (at net.links e ≡ v) × (far_end net e ≡ w)
  near_half w j =
      let (i, l, c) = joined_adjacent net v w j in
      let (e, h, p, q) = joins_half net i v w c in
      (e, omega arith, p, q)

-- what is usable
module _ (s t v w : ℕ) where
  pub usable_is : usable s t v w ≡ true → (v ≢ t) × (w ≢ s) × (v ≡ s → w ≢ t)
  unfolding usable
  usable_is h =
      let (a, r) = and_true (not (eqb v t)) _ h in
      let (b, c) = and_true (not (eqb w s)) _ r in (
        eqb-false _ _ (not-true _ a),
        eqb-false _ _ (not-true _ b),
        λ p. eqb-false _ _ (and_false (eqb v s) _ (not-true _ c) (eq-eqb v s p)),
      )

  pub is_usable : v ≢ t → w ≢ s → (v ≡ s → w ≢ t) → usable s t v w ≡ true
  unfolding usable
  is_usable a b c =
      true_and _ _ (ap not (ne_eqb v t a))
      (true_and _ _ (ap not (ne_eqb w s b))
      (ap not (false_and _ _ (λ p. ne_eqb w t (c (eqb-true v s p))))))

-- the left number of v
pub left_s : (s k v : ℕ) → v ≡ s → left s k v ≡ k
unfolding left
left_s s k v p = rw (eq-eqb v s p)

pub left_a : (s k v : ℕ) → v ≢ s → left s k v ≡ v
unfolding left
left_a s k v p = rw (ne_eqb v s p)

module _ (net : Network) (s t : ℕ) (proper : Proper net) (ls : s < net.n) (lt : t < net.n) (k : ℕ) (nk : net.n ≤ k) where
  pub usable_edge : (v w : ℕ) → Near net v w → usable s t v w ≡ true → Edge net s t (left s k v) w
  usable_edge v w near h =
      let (a, b, c) = usable_is s t v w h in
      let (x, y) = near_below net proper v w near in
      ⊎_elim
      (λ p. rw (left_s s k v p) (⊎_elim
      (λ (_, q). absurd (b (sym q ∙ p)))
      (λ q. inr (rw (real_new net.n s k nk) (subst (λ (z : ℕ). joined net z w ≡ true) p q), (λ r. omega arith), (λ r. omega arith), b, λ _. c p))
      near))
      (λ p. rw (left_a s k v p) (⊎_elim
      (λ (_, q). inl (x, q))
      (λ q. inr (rw (real_old net.n s v x) q, p, a, b, λ r. absurd (omega (arith, x))))
      near))
      (same? v s)
