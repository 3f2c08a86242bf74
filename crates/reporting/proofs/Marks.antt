-- What marks say, of any rows: a duct is marked exactly where a link along the walk lies in it, so no duct above the highest is, and the sums
-- need not be looked at there.
use Rattle.std.proofs.Common.{◌≡◌, refl, sym, ap, ◌∙◌, ⊎_elim, Bool, true, false, ◌||◌, cond, List, ℕ, zero, suc, pred, ◌≤◌, ◌<◌, arith, eqb, length, set, take, replicate, length-set, length-take, get_or-take, ne_eqb}
use Rattle.std.proofs.Math.ListN.{get_or-eq_default}
use Rattle.std.proofs.lemmas.List.{length-replicate, get_or-replicate}
use Rattle.mondschein.specs.Network.{at, size, link_of}
use Rattle.mondschein.proofs.Logic.{less?, false_or}
use Rattle.network.specs.Load.{table_of}
use Rattle.rows.proofs.Assigned.{at_set}
use Rattle.reporting.specs.Reporting.{duct_between, duct_row, NoneAbove, more, marks_after, losing, raised, Trees, trees_of, marks_of, costs, switch_after, switches_after, losses_after}
use Rattle.reporting.proofs.Ducts.{row_length, duct_at}

-- a link along the walk of v, cut after k links, lies in duct d
unfoldable pub along : ℕ → (ℕ → ℕ) → (ℕ → ℕ) → ℕ → ℕ → ℕ → Bool
along root p duct zero v d = false
along root p duct (suc k) v d = cond (eqb v root) false (eqb (duct v) d || along root p duct k (p v) d)

marks_at_lem : (root : ℕ) (p duct : ℕ → ℕ) (k v : ℕ) (marks : List ℕ) (d : ℕ) → d < length marks
    → at (marks_after root p duct k v marks) d ≡ cond (along root p duct k v d) 1 (at marks d)
unfolding marks_after along
marks_at_lem root p duct zero v marks d h = refl
marks_at_lem root p duct (suc k) v marks d h =
    go (eqb v root)
    (marks_at_lem root p duct k (p v) (set marks (duct v) 1) d (omega (arith, length-set marks (duct v) 1))
    ∙ ap (λ (x : ℕ). cond (along root p duct k (p v) d) 1 x) (at_set marks (duct v) 1 d h)
    ∙ either (eqb (duct v) d) (along root p duct k (p v) d))
  where
    either : (a b : Bool) → cond b 1 (cond a 1 (at marks d)) ≡ cond (a || b) 1 (at marks d)
    either true true = refl
    either true false = refl
    either false b = refl

    go : (b : Bool) → at (marks_after root p duct k (p v) (set marks (duct v) 1)) d ≡ cond (eqb (duct v) d || along root p duct k (p v) d) 1 (at marks d)
        → at (cond b marks (marks_after root p duct k (p v) (set marks (duct v) 1))) d ≡ cond (cond b false (eqb (duct v) d || along root p duct k (p v) d)) 1 (at marks d)
    go true e = refl
    go false e = e

-- from no marks
pub marks_of_at : (t : Trees) (row ducts : List ℕ) (v d : ℕ) → d < 256 → at (marks_of t row ducts v) d ≡ cond (along t.root (at row) (at ducts) (pred t.n) v d) 1 0
marks_of_at t row ducts v d h =
    marks_at_lem t.root (at row) (at ducts) (pred t.n) v (replicate 256 0) d (omega (arith, length-replicate {A = ℕ} 256 0))
    ∙ ap (cond (along t.root (at row) (at ducts) (pred t.n) v d) 1) (get_or-replicate {A = ℕ} 256 d 0 0 h)

-- ---- above the highest duct
along_above : (root : ℕ) (p : ℕ → ℕ) (ducts : List ℕ) (top d : ℕ) → NoneAbove top ducts → top < d → (k v : ℕ) → along root p (at ducts) k v d ≡ false
unfolding along
along_above root p ducts top d h l zero v = refl
along_above root p ducts top d h l (suc k) v = go (eqb v root) (false_or _ _ (ne_eqb (at ducts v) d (λ e. omega (arith, h v))) (along_above root p ducts top d h l k (p v)))
  where
    go : (b : Bool) → (eqb (at ducts v) d || along root p (at ducts) k (p v) d) ≡ false → cond b false (eqb (at ducts v) d || along root p (at ducts) k (p v) d) ≡ false
    go true e = refl
    go false e = e

marks_above : (t : Trees) (row ducts : List ℕ) (top v d : ℕ) → NoneAbove top ducts → top < d → d < 256 → at (marks_of t row ducts v) d ≡ 0
marks_above t row ducts top v d h l m =
    marks_of_at t row ducts v d m ∙ ap (λ (b : Bool). cond b 1 0) (along_above t.root (at row) ducts top d h l (pred t.n) v)

raised_above : (p : ℕ → Bool) (sums : List ℕ) (top k : ℕ) → top ≤ k → ((d : ℕ) → top < d → d ≤ k → p d ≡ false) → raised p sums k ≡ raised p sums top
unfolding raised
raised_above p sums top zero l h = ap (raised p sums) (let z : 0 ≡ top = omega arith in z)
raised_above p sums top (suc k) l h =
    ⊎_elim
    (λ (m : top < suc k).
    ap (λ (b : Bool). cond b (set (raised p sums k) (suc k) (more (at (raised p sums k) (suc k)))) (raised p sums k)) (h (suc k) m (omega arith))
    ∙ raised_above p sums top k (omega arith) (λ d a b. h d a (omega arith)))
    (λ (m : suc k ≤ top). ap (raised p sums) (let z : suc k ≡ top = omega arith in z))
    (less? top (suc k))

module _ (t : Trees) (top c : ℕ) (h₁ : NoneAbove top t.ducts1) (h₂ : NoneAbove top t.ducts2) (h₃ : NoneAbove top t.ducts3) (low : top ≤ 255) (some : 0 < c) where
  costs_above : (v d : ℕ) → top < d → d ≤ 255 → costs t c v d ≡ false
  unfolding losing
  costs_above v d l m =
      let k : d < 256 = omega arith in
      ne_eqb _ c
      (λ e.
      omega (
        arith,
        e,
        marks_above t t.row1 t.ducts1 top v d h₁ l k,
        marks_above t t.row2 t.ducts2 top v d h₂ l k,
        marks_above t t.row3 t.ducts3 top v d h₃ l k,
      ))

  switches_above : (sums : List ℕ) (v : ℕ) → switches_after t 255 c sums v ≡ switches_after t top c sums v
  unfolding switches_after switch_after
  switches_above sums zero = refl
  switches_above sums (suc v) =
      ap (λ (l : List ℕ). cond (eqb v t.root) l (raised (costs t c v) l 255)) (switches_above sums v)
      ∙ ap (cond (eqb v t.root) (switches_after t top c sums v)) (raised_above (costs t c v) (switches_after t top c sums v) top 255 low (costs_above v))

switches_nothing : (t : Trees) (c : ℕ) (sums : List ℕ) (v : ℕ) → switches_after t 0 c sums v ≡ sums
unfolding switches_after switch_after raised
switches_nothing t c sums zero = refl
switches_nothing t c sums (suc v) = go (eqb v t.root) ∙ switches_nothing t c sums v
  where
    go : (b : Bool) → cond b (switches_after t 0 c sums v) (switches_after t 0 c sums v) ≡ switches_after t 0 c sums v
    go true = refl
    go false = refl

-- a row of ducts has none above the table's
row_above : (links ducts row : List ℕ) (top : ℕ) → NoneAbove top ducts → NoneAbove top (duct_row links ducts row)
unfolding duct_row duct_between
row_above links ducts row top h v =
    ⊎_elim
    (λ (l : v < 1024). omega (arith, duct_at links ducts row v l, taken (size (table_of links)) (link_of (table_of links) v (at row v))))
    (λ (l : 1024 ≤ v). omega (arith, get_or-eq_default (duct_row links ducts row) 0 {n = v} (omega (arith, row_length links ducts row))))
    (less? v 1024)
  where
    taken : (m k : ℕ) → at (take m ducts) k ≤ top
    taken m k =
        ⊎_elim
        (λ (l : k < m). omega (arith, get_or-take m ducts k 0 l, h k))
        (λ (l : m ≤ k). omega (arith, get_or-eq_default (take m ducts) 0 {n = k} (omega (arith, length-take m ducts))))
        (less? k m)

-- the sums after all switches, of which only those up to the highest duct were looked at; where that is 0, none was
module _ (n root : ℕ) (links ducts row₁ row₂ row₃ : List ℕ) (c : ℕ) (some : 0 < c) (sums : List ℕ) {top : ℕ} (h : NoneAbove top ducts) (low : top ≤ 255) where
  abbrev t : Trees
  t = trees_of n root links ducts row₁ row₂ row₃

  losses_up_to : losses_after t c sums ≡ switches_after t top c sums n
  unfolding losses_after
  losses_up_to = switches_above t top c (row_above links ducts row₁ top h) (row_above links ducts row₂ top h) (row_above links ducts row₃ top h) low some sums n

  pub losses_none : top ≡ 0 → sums ≡ losses_after t c sums
  losses_none e = sym (losses_up_to ∙ ap (λ (k : ℕ). switches_after t k c sums n) e ∙ switches_nothing t c sums n)

  pub losses_done : {ducts₁ ducts₂ ducts₃ after : List ℕ} → ducts₁ ≡ duct_row links ducts row₁ → ducts₂ ≡ duct_row links ducts row₂ → ducts₃ ≡ duct_row links ducts row₃
      → after ≡ switches_after (record { n = n; root = root; row1 = row₁; row2 = row₂; row3 = row₃; ducts1 = ducts₁; ducts2 = ducts₂; ducts3 = ducts₃ }) top c sums n
      → after ≡ losses_after t c sums
  losses_done a b e q = rw (a, b, e) at q ∙ sym losses_up_to
