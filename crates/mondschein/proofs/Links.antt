-- Laws of links: which switches they join, which lists they lie along, and that a proper network has one link for a pair.
-- `joins`, `joined` and `passes` decide `Joins`, `Adjacent` and `Along`.
use mathlib.Core.Path.{◌≡◌, refl, sym, ap, ap₂, ◌∙◌, subst}
use mathlib.Core.Logic.{◌⊎◌, inl, inr, ⊎_elim}
use mathlib.Core.Bool.{Bool, true, false, ◌&&◌, ◌||◌, or_comm}
use mathlib.Core.List.{List, [], ◌∷◌, ◌++◌, reverse, reverse-reverse}
use Prim.Native.Nat.{ℕ, zero, suc, pred, ◌-◌, ◌<◌}
use native.Mathlib.Omega.{arith}
use lib.Dec.{eqb, ltb}
use lib.ListN.{length, length-append, get_or-append}
use lib.ListN as L
use lib.Seq.{get_or_at}
use borrow.Author.Tests.{eqb-true, eq-eqb, ne_eqb}
use Rattle.mondschein.specs.Network.{any, Network, at, holds, size, former, latter, Joins, Adjacent, Along, joins, joined, passes, link_of, Proper, trail}
use Rattle.mondschein.proofs.Logic.{which, clash, less?, and_true, or_true, true_and, or_left, true_or}
use Rattle.mondschein.proofs.Search.{low_ext, low_found, any_true, true_any, any_suc, any_ext}
use Rattle.mondschein.proofs.Lists.{at_same, at_reverse, holds_in, holds_by}

pub passes_nil : {X : Type 0} (net : Network) (v i : ℕ) → passes net (v ∷ []) i ≡ true → X
unfolding passes
passes_nil net v i h = let w = any_true (λ k. joins net i (at (v ∷ []) k) (at [] k)) 0 h in absurd (omega (arith, w.1))

passes_cons : (net : Network) (a b : ℕ) (l : List ℕ) (i : ℕ) → passes net (a ∷ b ∷ l) i ≡ true → (joins net i a b ≡ true) ⊎ (passes net (b ∷ l) i ≡ true)
unfolding passes
passes_cons net a b l i h = let w = any_true (λ k. joins net i (at (a ∷ b ∷ l) k) (at (b ∷ l) k)) (suc (length l)) h in go w.0 w.1 w.2
  where
    go : (k : ℕ) → k < suc (length l) → joins net i (at (a ∷ b ∷ l) k) (at (b ∷ l) k) ≡ true → (joins net i a b ≡ true) ⊎ (any (λ j. joins net i (at (b ∷ l) j) (at l j)) (length l) ≡ true)
    go zero m e = inl e
    go (suc k) m e = inr (true_any (λ j. joins net i (at (b ∷ l) j) (at l j)) (length l) k (omega arith) e)

pub passes_on : (net : Network) (a b : ℕ) (w : List ℕ) (i : ℕ) → at w 0 ≡ b → 0 < length w → passes net (a ∷ w) i ≡ true → (joins net i a b ≡ true) ⊎ (passes net w i ≡ true)
passes_on net a b [] i e l h = absurd (omega arith)
passes_on net a b (c ∷ w) i e l h = subst (λ (x : ℕ). (joins net i a x ≡ true) ⊎ (passes net (c ∷ w) i ≡ true)) e (passes_cons net a c w i h)

-- the tests decide the facts
module _ (net : Network) where
  pub joins_cases : (i a b : ℕ) → joins net i a b ≡ true → Joins net i a b
  unfolding joins
  joins_cases i a b h =
      ⊎_elim
      (λ t. let w = and_true _ _ t in inl (eqb-true _ _ w.0, eqb-true _ _ w.1))
      (λ t. let w = and_true _ _ t in inr (eqb-true _ _ w.0, eqb-true _ _ w.1))
      (or_true _ _ h)

  pub cases_joins : (i a b : ℕ) → Joins net i a b → joins net i a b ≡ true
  unfolding joins
  cases_joins i a b (inl (p, q)) = or_left _ _ (true_and _ _ (eq-eqb _ _ p) (eq-eqb _ _ q))
  cases_joins i a b (inr (p, q)) = true_or (eqb (former net i) a && eqb (latter net i) b) _ (true_and _ _ (eq-eqb _ _ p) (eq-eqb _ _ q))

  pub joined_adjacent : (a b : ℕ) → joined net a b ≡ true → Adjacent net a b
  unfolding joined
  joined_adjacent a b h = let (i, l, q) = any_true (λ i. joins net i a b) (size net) h in (i, l, joins_cases i a b q)

  pub adjacent_joined : (a b : ℕ) → Adjacent net a b → joined net a b ≡ true
  unfolding joined
  adjacent_joined a b (i, l, q) = true_any (λ i. joins net i a b) (size net) i l (cases_joins i a b q)

  pub passes_along : (l : List ℕ) (i : ℕ) → passes net l i ≡ true → Along net l i
  unfolding passes
  passes_along l i h =
      let (k, m, q) = any_true (λ k. joins net i (at l k) (at l (suc k))) (pred (length l)) h in
      (k, omega (arith, m), joins_cases i _ _ q)

  pub along_passes : (l : List ℕ) (i : ℕ) → Along net l i → passes net l i ≡ true
  unfolding passes
  along_passes l i (k, m, q) = true_any (λ k. joins net i (at l k) (at l (suc k))) (pred (length l)) k (omega arith) (cases_joins i _ _ q)

  not_passes : (l : List ℕ) (i : ℕ) → (Along net l i → ⊥) → passes net l i ≡ false
  not_passes l i h = ⊎_elim (λ t. absurd (h (passes_along l i t))) (λ f. f) (which (passes net l i))

-- a link has two ends
pub joins_ends : (net : Network) (i a b c d : ℕ) → joins net i a b ≡ true → joins net i c d ≡ true → ((a ≡ c) × (b ≡ d)) ⊎ ((a ≡ d) × (b ≡ c))
joins_ends net i a b c d g h =
    ⊎_elim
    (λ g'. ⊎_elim (λ h'. inl (cc, cc)) (λ h'. inr (cc, cc)) (joins_cases net i c d h))
    (λ g'. ⊎_elim (λ h'. inr (cc, cc)) (λ h'. inl (cc, cc)) (joins_cases net i c d h))
    (joins_cases net i a b g)

pub joins_sym : (net : Network) (i a b : ℕ) → joins net i a b ≡ joins net i b a
unfolding joins
joins_sym net i a b = or_comm (eqb (former net i) a && eqb (latter net i) b) (eqb (former net i) b && eqb (latter net i) a)

pub link_of_sym : (net : Network) (a b : ℕ) → link_of net a b ≡ link_of net b a
unfolding link_of
link_of_sym net a b = low_ext _ _ (size net) (λ i _. joins_sym net i a b)

pub joined_sym : (net : Network) (a b : ℕ) → joined net a b ≡ true → joined net b a ≡ true
unfolding joined
joined_sym net a b h = let (i, l, q) = any_true (λ i. joins net i a b) (size net) h in true_any (λ i. joins net i b a) (size net) i l (joins_sym net i b a ∙ q)

-- both ends of a link that a list passes stand in it
pub passes_held : (net : Network) (t : List ℕ) (i a b : ℕ) → passes net t i ≡ true → joins net i a b ≡ true → (holds t a ≡ true) × (holds t b ≡ true)
unfolding passes
passes_held net t i a b h j =
    let (k, l, q) = any_true (λ k. joins net i (at t k) (at t (suc k))) (pred (length t)) h in
    let m : suc k < length t = omega (arith, l) in
    ⊎_elim
    (λ (x, y). (holds_by t k a (omega arith) x, holds_by t (suc k) b m y))
    (λ (x, y). (holds_by t (suc k) a m y, holds_by t k b (omega arith) x))
    (joins_ends net i (at t k) (at t (suc k)) a b q j)

-- a list turned round passes the same links
along_reverse : (net : Network) (l : List ℕ) (i : ℕ) → Along net l i → Along net (reverse l) i
along_reverse net l i (k, h, j) =
    let m = length l - suc (suc k) in (
      m,
      omega (arith, L.length-reverse l),
      joins_cases net i _ _
          (ap₂ (joins net i)
          (at_reverse l m (omega arith) ∙ at_same l _ (suc k) (omega arith))
          (at_reverse l (suc m) (omega arith) ∙ at_same l _ k (omega arith))
          ∙ joins_sym net i _ _
          ∙ cases_joins net i _ _ j),
    )

pub passes_reverse : (net : Network) (l : List ℕ) (i : ℕ) → passes net (reverse l) i ≡ passes net l i
passes_reverse net l i =
    ⊎_elim
    (λ t. along_passes net (reverse l) i (along_reverse net l i (passes_along net l i t)) ∙ sym t)
    (λ f. not_passes net (reverse l) i (λ h. clash (along_passes net l i (subst (λ (z : List ℕ). Along net z i) (reverse-reverse l) (along_reverse net (reverse l) i h))) f) ∙ sym f)
    (which (passes net l i))

-- an ear's trail holds the ear's switches, and passes the links between its neighbours
pub trail_held : (b : Bool) (e : List ℕ) (x : ℕ) → 0 < length e → holds (trail b e) x ≡ true → holds e x ≡ true
unfolding trail
trail_held false e x c h = h
trail_held true e x c h =
    let (k, l, q) = holds_in (e ++ (at e 0 ∷ [])) x h in
    ⊎_elim
    (λ m. holds_by e k x m (sym (get_or-append e (at e 0 ∷ []) 0 k m) ∙ q))
    (λ m. holds_by e 0 x c (sym (get_or_at e (at e 0) [] 0 k (let z : length e ≡ k = omega (arith, l, m, length-append e (at e 0 ∷ [])) in z)) ∙ q))
    (less? k (length e))

pub trail_passes : (net : Network) (b : Bool) (e : List ℕ) (k l : ℕ) → suc k < length e → joins net l (at e k) (at e (suc k)) ≡ true → passes net (trail b e) l ≡ true
unfolding trail passes
trail_passes net false e k l m h = true_any (λ k. joins net l (at e k) (at e (suc k))) (pred (length e)) k (omega arith) h
trail_passes net true e k l m h =
    true_any (λ k. joins net l (at (e ++ (at e 0 ∷ [])) k) (at (e ++ (at e 0 ∷ [])) (suc k))) (pred (length (e ++ (at e 0 ∷ [])))) k
    (omega (arith, length-append e (at e 0 ∷ [])))
    (rw (get_or-append e (at e 0 ∷ []) 0 k (omega arith), get_or-append e (at e 0 ∷ []) 0 (suc k) m) h)

-- a cycle passes the links between its neighbours, and its closing link
pub cycle_passes : (net : Network) (e : List ℕ) (l : ℕ) → 0 < length e → passes net (trail true e) l ≡ (passes net e l || joins net l (at e (pred (length e))) (at e 0))
unfolding trail passes
cycle_passes net e l h =
    let c = e ++ (at e 0 ∷ []) in
    let z : suc (pred (length e)) ≡ length e = omega arith in
    ap (any (λ k. joins net l (at c k) (at c (suc k)))) (let q : pred (length c) ≡ suc (pred (length e)) = omega (arith, length-append e (at e 0 ∷ [])) in q)
    ∙ any_suc (λ k. joins net l (at c k) (at c (suc k))) (pred (length e))
    ∙ ap₂ ◌||◌
    (any_ext _ _ (pred (length e)) (λ k m. ap₂ (joins net l) (get_or-append e (at e 0 ∷ []) 0 k (omega arith)) (get_or-append e (at e 0 ∷ []) 0 (suc k) (omega arith))))
    (ap₂ (joins net l) (get_or-append e (at e 0 ∷ []) 0 (pred (length e)) (omega arith)) (get_or_at e (at e 0) [] 0 (suc (pred (length e))) (sym z)))

module _ (net : Network) where
  pub joined_link : (x y : ℕ) → joined net x y ≡ ltb (link_of net x y) (size net)
  unfolding joined link_of any
  joined_link x y = refl

  pub link_found : (x y : ℕ) → joined net x y ≡ true → (link_of net x y < size net) × (joins net (link_of net x y) x y ≡ true)
  unfolding link_of joined
  link_found x y h = let (i, l, q) = any_true (λ i. joins net i x y) (size net) h in low_found (λ i. joins net i x y) (size net) i l q

-- in a proper network a link is known by its ends
pub link_unique : (net : Network) → Proper net → (l a b : ℕ) → l < size net → joins net l a b ≡ true → link_of net a b ≡ l
link_unique net proper l a b m h =
    let (m', h') = link_found net a b (adjacent_joined net a b (l, m, joins_cases net l a b h)) in
    proper.once l (link_of net a b) m m'
    (⊎_elim
    (λ u. ⊎_elim (λ v. inl (cc, cc)) (λ v. inr (cc, cc)) (joins_cases net (link_of net a b) a b h'))
    (λ u. ⊎_elim (λ v. inr (cc, cc)) (λ v. inl (cc, cc)) (joins_cases net (link_of net a b) a b h'))
    (joins_cases net l a b h))

pub link_is : (net : Network) → Proper net → (l a b : ℕ) → l < size net → joined net a b ≡ true → eqb (link_of net a b) l ≡ joins net l a b
link_is net proper l a b m j =
    ⊎_elim
    (λ t. eq-eqb _ _ (link_unique net proper l a b m t) ∙ sym t)
    (λ f. ne_eqb _ _ (λ e. clash (subst (λ (i : ℕ). joins net i a b ≡ true) e (link_found net a b j).1) f) ∙ sym f)
    (which (joins net l a b))

pub adjacent_below : (net : Network) → Proper net → (a b : ℕ) → Adjacent net a b → (a < net.n) × (b < net.n)
adjacent_below net proper a b (i, l, j) =
    let (u, v) = proper.inside i l in
    ⊎_elim
    (λ (p, q). (subst (λ (x : ℕ). x < net.n) p u, subst (λ (x : ℕ). x < net.n) q v))
    (λ (p, q). (subst (λ (x : ℕ). x < net.n) q v, subst (λ (x : ℕ). x < net.n) p u))
    j
