-- Laws of the counts of births, in the code's own terms: none counted, one birth more, and the ear that the search over them finds.
-- A birth past 1,024 is counted nowhere, and no count up to there sees it.
use Rattle.std.proofs.Common.{◌≡◌, sym, ap, ap₂, ◌∙◌, ⊎_elim, ◌≢◌, Bool, cond, List, ℕ, suc, ◌+◌, ◌≤◌, ◌<◌, add-one, arith, eqb, ltb, length, set, replicate, length-set, lt-ltb, le-ltb, eq-eqb, ne_eqb}
use Rattle.std.proofs.Math.ListN.{get_or-eq_default}
use Rattle.std.proofs.lemmas.List.{length-replicate, get_or-replicate}
use Rattle.mondschein.specs.Network.{count, at}
use Rattle.mondschein.proofs.Logic.{less?, same?}
use Rattle.mondschein.proofs.Search.{count_bound, count_hit, count_skip, rest, rest_begin, rest_hit, rest_miss, rest_end}
use Rattle.rows.proofs.Assigned.{at_set}
use Rattle.zones.specs.Cut.{birth_in, born_before, born_in, ear_past}
use Rattle.zones.proofs.Births.{born_next, born_none, born_bound}
use Rattle.cutting.specs.declared.Found.{Found}
use Rattle.cutting.specs.Cutting.{Counted, found_in}

module _ (births : List ℕ) where
  -- the births that are i
  abbrev is : ℕ → ℕ → Bool
  is i v = eqb (birth_in births v) i

  pub counted_begin : {counts : List ℕ} → counts ≡ replicate 1025 0 → Counted births 0 counts
  unfolding count
  counted_begin e =
      record {
        long = ap length e ∙ length-replicate {A = ℕ} 1025 0;
        each = λ i l. ap (λ (c : List ℕ). at c i) e ∙ get_or-replicate 1025 i 0 0 (omega arith);
      }

  -- an entry r at b, within the counts or past them
  pub counted_le : {counts : List ℕ} {v r : ℕ} (b : ℕ) → Counted births v counts → r ≡ at counts b → r ≤ v
  counted_le {counts} {v} b h e =
      ⊎_elim
      (λ (l : b < 1025). omega (arith, e, h.each b (omega arith), count_bound (is b) v))
      (λ (l : 1025 ≤ b). omega (arith, e, get_or-eq_default counts 0 (let z : length counts ≤ b = omega (arith, h.long) in z)))
      (less? b 1025)

  pub counted_more : {counts after : List ℕ} {v b r : ℕ} → Counted births v counts → b ≡ birth_in births v → r ≡ at counts b
      → after ≡ set counts b (r + 1) → Counted births (v + 1) after
  counted_more {counts} {after} {v} {b} {r} h e f g =
      record {
        long = ap length g ∙ length-set counts b (r + 1) ∙ h.long;
        each = λ i l.
            ap (λ (c : List ℕ). at c i) g
            ∙ at_set counts b (r + 1) i (omega (arith, h.long))
            ∙ step i l
            ∙ ap (count (is i)) (sym (add-one v));
      }
    where
      step : (i : ℕ) → i ≤ 1024 → cond (eqb b i) (r + 1) (at counts i) ≡ count (is i) (suc v)
      step i l =
          ⊎_elim
          (λ (s : b ≡ i). rw (eq-eqb b i s) (omega (arith, f, ap (at counts) s, h.each i l, count_hit (is i) v (eq-eqb (birth_in births v) i (sym e ∙ s)))))
          (λ (d : b ≢ i). rw (ne_eqb b i d) (h.each i l ∙ sym (count_skip (is i) v (ne_eqb (birth_in births v) i (λ z. d (e ∙ z))))))
          (same? b i)

-- the search for the first ear after which more than total switches are born
module _ (births : List ℕ) (total : ℕ) where
  abbrev n : ℕ
  n = length births

  -- so many are born before ear i, and it is not yet found
  pub record Seeking (i before : ℕ) : Type 0 where
    pub end : i ≤ length births
    pub born : before ≡ born_before (length births) (birth_in births) i
    pub left : ear_past (length births) (birth_in births) total ≡ rest (λ i. ltb total (born_before (length births) (birth_in births) (suc i))) (length births) i

  pub seeking_begin : Seeking 0 0
  unfolding ear_past
  seeking_begin = record { end = omega arith; born = sym (born_none (birth_in births) n); left = rest_begin _ _ }

  -- all births are counted
  module _ {counts : List ℕ} (h : Counted births (length births) counts) (small : length births ≤ 1024) {i before : ℕ} (s : Seeking i before) where
    new : at counts i ≡ born_in n (birth_in births) i
    unfolding born_in
    new = h.each i (omega (arith, s.end))

    after : before + at counts i ≡ born_before n (birth_in births) (suc i)
    after = ap₂ ◌+◌ s.born new ∙ sym (born_next (birth_in births) n i)

    pub seeking_le : before + at counts i ≤ length births
    seeking_le = omega (arith, after, born_bound (birth_in births) n (suc i))

    pub seeking_more : i < length births → before + at counts i ≤ total → Seeking (i + 1) (before + at counts i)
    seeking_more l m =
        record {
          end = omega arith;
          born = after ∙ ap (born_before n (birth_in births)) (sym (add-one i));
          left = s.left ∙ rest_miss _ n i l (le-ltb total (born_before n (birth_in births) (suc i)) (omega (arith, after)));
        }

    found : ear_past n (birth_in births) total ≡ i → ◌≡◌ {A = Found} (record { ear = i; before = before; new = at counts i }) (found_in births total)
    unfolding found_in
    found p = rw (p, s.born, new)

    pub seeking_hit : i < length births → total < before + at counts i → ◌≡◌ {A = Found} (record { ear = i; before = before; new = at counts i }) (found_in births total)
    seeking_hit l m = found (s.left ∙ rest_hit _ n i l (lt-ltb total (born_before n (birth_in births) (suc i)) (omega (arith, after))))

    pub seeking_end : length births ≤ i → ◌≡◌ {A = Found} (record { ear = i; before = before; new = at counts i }) (found_in births total)
    seeking_end l = found (s.left ∙ rest_end _ n i l)
