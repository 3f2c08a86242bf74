-- Laws of an ear's marks: none at first, and one number more.
-- A number that has no mark is searched for.
use Rattle.std.proofs.Common.{◌≡◌, ◌≢◌, ℕ, suc, ◌+◌, Bool, true, false, ◌||◌, eqb, ltb, List, [], set, replicate, refl, sym, ap, ◌∙◌, ⊎_elim, arith, add-one, length-set, get_or-set_same, get_or-set_other, eq-eqb, ne_eqb}
use Rattle.std.proofs.lemmas.List.{length-replicate, get_or-replicate}
use Rattle.mondschein.specs.Network.{any, at}
use Rattle.mondschein.proofs.Logic.{same?}
use Rattle.mondschein.proofs.Search.{any_suc, true_any, false_any}
use Rattle.rows.specs.Rows.{marked}
use Rattle.shape.specs.Shape.{Unmarked, MarksOf}

-- no marks at all: every number is searched
pub marks_none : (ear : List ℕ) (k : ℕ) → MarksOf ear k []
marks_none ear k v l = absurd (omega arith)

-- marks of nothing
pub unmarked_all : (n : ℕ) → Unmarked (replicate n 0)
unmarked_all n v l = ap (ltb 0) (get_or-replicate n v 0 0 (omega (arith, length-replicate {A = ℕ} n 0, l)))

pub marks_begin : (ear marks : List ℕ) → Unmarked marks → MarksOf ear 0 marks
marks_begin ear marks h v l = h v l ∙ sym (false_any (λ j. eqb (at ear j) v) 0 (λ j m. absurd (omega arith)))

-- one number more
or_none : (b : Bool) → (b || false) ≡ b
or_none true = refl
or_none false = refl

pub marks_more : (ear : List ℕ) (k : ℕ) (marks : List ℕ) {after : List ℕ} → MarksOf ear k marks → after ≡ set marks (at ear k) 1 → MarksOf ear (k + 1) after
marks_more ear k marks h q = rw (q, add-one k) more
  where
    more : MarksOf ear (suc k) (set marks (at ear k) 1)
    more v l =
        ⊎_elim
        (λ (e : v ≡ at ear k).
        ap (λ (x : ℕ). marked (set marks (at ear k) 1) x) e
        ∙ ap (ltb 0) (get_or-set_same marks (at ear k) 1 0 (omega (arith, length-set marks (at ear k) 1, e, l)))
        ∙ sym (true_any (λ j. eqb (at ear j) v) (suc k) k (omega arith) (eq-eqb (at ear k) v (sym e))))
        (λ (d : v ≢ at ear k).
        ap (ltb 0) (get_or-set_other marks (at ear k) v 1 0 d)
        ∙ h v (omega (arith, length-set marks (at ear k) 1, l))
        ∙ sym (any_suc (λ j. eqb (at ear j) v) k ∙ ap (λ (b : Bool). any (λ j. eqb (at ear j) v) k || b) (ne_eqb (at ear k) v (λ e. d (sym e))) ∙ or_none (any (λ j. eqb (at ear j) v) k)))
        (same? v (at ear k))
