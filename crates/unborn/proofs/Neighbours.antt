-- What the code's comparisons say of the switches that are still unborn after an ear, and of the links that lead to them.
-- `scan` turns a search over switches into one scan of the links; `along` into one along the half-links of a switch.
use Rattle.std.proofs.Common.{◌≡◌, ℕ, ◌/◌, Bool, true, false, not, ◌&&◌, ◌||◌, eqb, ltb, List, Option, Some, None, is_some, refl, sym, ap, ◌∙◌, subst, inl, inr, ⊎_elim, arith, lt-ltb, eq-eqb, ltb-true, eqb-true}
use Rattle.mondschein.specs.Network.{Network, any, size, former, latter, Joins, joined, holds}
use Rattle.mondschein.proofs.Logic.{and_true, or_true, true_and, or_left, true_or, and_false, false_and}
use Rattle.mondschein.proofs.Search.{any_true, true_any, false_any}
use Rattle.mondschein.proofs.Links.{joined_adjacent, adjacent_joined}
use Rattle.network.specs.Index.{far_end, FirstLeading}
use Rattle.network.proofs.Indexing.{half_joins, joins_half}
use Rattle.rows.specs.Rows.{marked}
use Rattle.unborn.specs.Neighbours.{leads_to}

-- x is still unborn after the ear
abbrev pub free : List ℕ → List ℕ → ℕ → Bool
free births ear x = not (marked births x || holds ear x)

-- and below n
abbrev pub sought : ℕ → List ℕ → List ℕ → ℕ → Bool
sought n births ear x = ltb x n && free births ear x

-- a switch next to v that passes q is at the other end of a link that leads from v to it
module _ (net : Network) (q : ℕ → Bool) (v : ℕ) where
  joins_leads : (i x : ℕ) → Joins net i v x → q x ≡ true → leads_to net q v i ≡ true
  unfolding leads_to
  joins_leads i x (inl (e, f)) t = or_left _ _ (true_and _ _ (eq-eqb _ _ e) (ap q f ∙ t))
  joins_leads i x (inr (e, f)) t = true_or (eqb (former net i) v && q (latter net i)) _ (true_and _ _ (eq-eqb _ _ f) (ap q e ∙ t))

  leads_joins : (i : ℕ) → leads_to net q v i ≡ true → (x : ℕ) × Joins net i v x × (q x ≡ true)
  unfolding leads_to
  leads_joins i h =
      ⊎_elim
      (λ t. let w = and_true _ _ t in (latter net i, inl (eqb-true _ _ w.0, refl), w.1))
      (λ t. let w = and_true _ _ t in (former net i, inr (refl, eqb-true _ _ w.0), w.1))
      (or_true _ _ h)

both_ways : (a b : Bool) → (a ≡ true → b ≡ true) → (b ≡ true → a ≡ true) → a ≡ b
both_ways true b f g = sym (f refl)
both_ways false true f g = g refl
both_ways false false f g = refl

-- a search over the switches below n, as one scan of the links
pub scan : (net : Network) (q : ℕ → Bool) (v n : ℕ) → any (λ x. joined net v x && q x) n ≡ any (leads_to net (λ x. ltb x n && q x) v) (size net)
scan net q v n =
    both_ways _ _
    (λ t.
    let (x, l, h) = any_true (λ x. joined net v x && q x) n t in
    let (j, p) = and_true _ _ h in
    let (i, m, c) = joined_adjacent net v x j in
    true_any _ (size net) i m (joins_leads net (λ x. ltb x n && q x) v i x c (true_and _ _ (lt-ltb x n l) p)))
    (λ t.
    let (i, m, h) = any_true _ (size net) t in
    let (x, c, p) = leads_joins net (λ x. ltb x n && q x) v i h in
    let (l, r) = and_true _ _ p in
    true_any (λ x. joined net v x && q x) n x (ltb-true x n l) (true_and _ _ (adjacent_joined net v x (i, m, c)) r))

-- a search over the switches below n, along the half-links of v: it met one that leads to a switch that passes, or there is none
pub along : (net : Network) (q : ℕ → Bool) (v n : ℕ) (r : Option ℕ) → FirstLeading net v (λ x. ltb x n && q x) r → is_some r ≡ any (λ x. joined net v x && q x) n
along net q v n None none =
    sym
    (false_any (λ x. joined net v x && q x) n
    (λ x m. false_and (joined net v x) (q x)
    (λ t.
    let (i, b, j) = joined_adjacent net v x t in
    let (k, e, o, w) = joins_half net i v x j in
    and_false (ltb x n) (q x) (ap (λ (y : ℕ). ltb y n && q y) (sym w) ∙ none k (omega arith) o) (lt-ltb x n m))))
along net q v n (Some h) (l, o, t, none) =
    let (p, r) = and_true _ _ t in
    let a = subst (λ (x : ℕ). Joins net (h / 2) x (far_end net h)) o (half_joins net h) in
    sym (true_any (λ x. joined net v x && q x) n (far_end net h) (ltb-true _ _ p) (true_and _ _ (adjacent_joined net v (far_end net h) (h / 2, omega arith, a)) r))
