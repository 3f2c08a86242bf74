-- The ducts of a tree's links, found from the last link of the table to the first: the lowest link that joins a switch and its entry stays.
-- `Found` is the loop's invariant; begin, next and end are its turns.
use Rattle.std.proofs.Common.{◌≡◌, refl, sym, ap, ◌∙◌, inl, inr, ⊎_elim, ◌≢◌, Bool, true, false, ◌&&◌, cond, List, ℕ, ◌+◌, ◌/◌, ◌≤◌, ◌<◌, arith, eqb, length, set, take, replicate, length-set, length-take, get_or-take, ext_get_or, eqb-true, eq-eqb, ne_eqb}
use Rattle.std.proofs.Math.ListN.{get_or-eq_default}
use Rattle.std.proofs.lemmas.List.{length-replicate, get_or-replicate}
use Rattle.mondschein.specs.Network.{at, size, former, latter, joins, link_of}
use Rattle.mondschein.proofs.Logic.{which, same?, clash, and_true, true_and}
use Rattle.mondschein.proofs.Search.{rest, rest_begin, rest_hit, rest_miss, rest_end}
use Rattle.mondschein.proofs.Links.{joins_cases, cases_joins}
use Rattle.network.specs.Load.{table_of}
use Rattle.rows.proofs.Assigned.{at_set, assigned_length, assigned_each}
use Rattle.reporting.specs.Reporting.{duct_between, duct_row, duct_told}

pub told_length : (row : List ℕ) (a b d : ℕ) (l : List ℕ) → length (duct_told row a b d l) ≡ length l
told_length row a b d l = go (eqb (at row a) b)
  where
    go : (t : Bool) → length (cond t (set l a d) l) ≡ length l
    go true = length-set l a d
    go false = refl

-- what one writing of a link tells switch v
told_at : (row : List ℕ) (a b d : ℕ) (l : List ℕ) (v : ℕ) → v < length l → at (duct_told row a b d l) v ≡ cond (eqb a v && eqb (at row v) b) d (at l v)
told_at row a b d l v h = ⊎_elim (λ (e : a ≡ v). here e) (λ (n : a ≢ v). there n (eqb (at row a) b)) (same? a v)
  where
    here : a ≡ v → at (duct_told row a b d l) v ≡ cond (eqb a v && eqb (at row v) b) d (at l v)
    here e = go (eqb (at row a) b) refl
      where
        go : (t : Bool) → eqb (at row a) b ≡ t → at (cond t (set l a d) l) v ≡ cond (eqb a v && eqb (at row v) b) d (at l v)
        go true q = at_set l a d v h ∙ rw (eq-eqb a v e, ap (λ (x : ℕ). eqb (at row x) b) (sym e) ∙ q)
        go false q = rw (eq-eqb a v e, ap (λ (x : ℕ). eqb (at row x) b) (sym e) ∙ q)

    there : a ≢ v → (t : Bool) → at (cond t (set l a d) l) v ≡ cond (eqb a v && eqb (at row v) b) d (at l v)
    there n true = at_set l a d v h ∙ rw (ne_eqb a v n)
    there n false = rw (ne_eqb a v n)

pub row_length : (links ducts row : List ℕ) → length (duct_row links ducts row) ≡ 1024
unfolding duct_row
row_length links ducts row = assigned_length (replicate 1024 0) (λ v. v) (λ v. duct_between (table_of links) ducts v (at row v)) 1024 ∙ length-replicate {A = ℕ} 1024 0

module _ (links ducts row : List ℕ) where
  abbrev m : ℕ
  m = size (table_of links)

  -- link i leads from v to its entry
  abbrev leads : ℕ → ℕ → Bool
  leads v i = joins (table_of links) i v (at row v)

  -- the links from i on are taken
  pub record Found (i : ℕ) (found : List ℕ) : Type 0 where
    pub within : i ≤ length links / 2
    pub sized : length found ≡ 1024
    pub each : (v : ℕ) → v < 1024 → at found v ≡ at (take m ducts) (rest (leads v) m i)

  pub found_begin : Found (length links / 2) (replicate 1024 0)
  unfolding size
  found_begin =
      record {
        within = omega arith;
        sized = length-replicate {A = ℕ} 1024 0;
        each = λ v l.
            get_or-replicate {A = ℕ} 1024 v 0 0 l
            ∙ sym (ap (at (take m ducts)) (rest_end (leads v) m m (omega arith)) ∙ get_or-eq_default (take m ducts) 0 {n = m} (omega (arith, length-take m ducts)));
      }

  module _ (j : ℕ) {found : List ℕ} {a b d : ℕ} (h : Found (j + 1) found) (ea : a ≡ former (table_of links) j) (eb : b ≡ latter (table_of links) j) (ed : d ≡ at ducts j) where
    abbrev once : List ℕ
    once = duct_told row a b d found

    abbrev both : List ℕ
    both = duct_told row b a d once

    both_at : (v : ℕ) → v < 1024 → at both v ≡ cond (eqb b v && eqb (at row v) a) d (cond (eqb a v && eqb (at row v) b) d (at found v))
    both_at v l =
        told_at row b a d once v (omega (arith, told_length row a b d found, h.sized))
        ∙ ap (λ (x : ℕ). cond (eqb b v && eqb (at row v) a) d x) (told_at row a b d found v (omega (arith, h.sized)))

    inside : j < m
    unfolding size
    inside = omega (arith, h.within)

    -- the link leads from v to its entry, and its duct stays
    hit : (v : ℕ) → v < 1024 → leads v j ≡ true → at both v ≡ at (take m ducts) (rest (leads v) m j)
    hit v l t =
        both_at v l
        ∙ ⊎_elim
        (λ (p, q). either (eqb b v && eqb (at row v) a) (eqb a v && eqb (at row v) b) (at found v) (true_and _ _ (eq-eqb a v (ea ∙ p)) (eq-eqb (at row v) b (sym (eb ∙ q)))))
        (λ (p, q). ap (λ (x : Bool). cond x d (cond (eqb a v && eqb (at row v) b) d (at found v))) (true_and _ _ (eq-eqb b v (eb ∙ q)) (eq-eqb (at row v) a (sym (ea ∙ p)))))
        (joins_cases (table_of links) j v (at row v) t)
        ∙ ed
        ∙ sym (ap (at (take m ducts)) (rest_hit (leads v) m j inside t) ∙ get_or-take m ducts j 0 inside)
      where
        either : (x y : Bool) (z : ℕ) → y ≡ true → cond x d (cond y d z) ≡ d
        either true y z e = refl
        either false y z e = ap (λ (w : Bool). cond w d z) e

    -- it does not, and what was found stays
    miss : (v : ℕ) → v < 1024 → leads v j ≡ false → at both v ≡ at (take m ducts) (rest (leads v) m j)
    miss v l f =
        both_at v l
        ∙ ap (λ (x : Bool). cond x d (cond (eqb a v && eqb (at row v) b) d (at found v)))
        (⊎_elim
        (λ t. let (p, q) = and_true _ _ t in clash (cases_joins (table_of links) j v (at row v) (inr (sym ea ∙ sym (eqb-true _ _ q), sym eb ∙ eqb-true _ _ p))) f)
        (λ g. g)
        (which (eqb b v && eqb (at row v) a)))
        ∙ ap (λ (x : Bool). cond x d (at found v))
        (⊎_elim
        (λ t. let (p, q) = and_true _ _ t in clash (cases_joins (table_of links) j v (at row v) (inl (sym ea ∙ eqb-true _ _ p, sym eb ∙ sym (eqb-true _ _ q)))) f)
        (λ g. g)
        (which (eqb a v && eqb (at row v) b)))
        ∙ h.each v l
        ∙ sym (ap (at (take m ducts)) (rest_miss (leads v) m j inside f))

    pub found_next : Found j both
    found_next =
        record {
          within = omega (arith, h.within);
          sized = told_length row b a d once ∙ told_length row a b d found ∙ h.sized;
          each = λ v l. ⊎_elim (hit v l) (miss v l) (which (leads v j));
        }

  pub found_end : {found : List ℕ} → Found 0 found → found ≡ duct_row links ducts row
  unfolding duct_row duct_between link_of
  found_end {found} h =
      let f : ℕ → ℕ = λ v. duct_between (table_of links) ducts v (at row v) in
      ext_get_or 0 found _ (h.sized ∙ sym (row_length links ducts row))
      (λ v l.
      let k : v < 1024 = omega (arith, h.sized) in
      h.each v k
      ∙ sym (assigned_each (replicate 1024 0) f 1024 v k (omega (arith, length-replicate {A = ℕ} 1024 0)) ∙ ap (at (take m ducts)) (rest_begin (leads v) m)))

-- the duct of a switch's link
pub duct_at : (links ducts row : List ℕ) (v : ℕ) → v < 1024 → at (duct_row links ducts row) v ≡ duct_between (table_of links) ducts v (at row v)
unfolding duct_row
duct_at links ducts row v l = assigned_each (replicate 1024 0) (λ v. duct_between (table_of links) ducts v (at row v)) 1024 v l (omega (arith, length-replicate {A = ℕ} 1024 0))
