-- Laws of `assigned`: its length, what stands at an index that no key, one key or some key names, or that is its own key, and one
-- number more in the code's terms, where the index is `k + 1` for `suc k`. A key past the end of the row changes nothing.
use Rattle.std.proofs.Common.{◌≡◌, refl, sym, ap, ap₂, ◌∙◌, ⊎_elim, ◌≢◌, Bool, true, false, ◌||◌, cond, List, ℕ, zero, suc, ◌+◌, ◌<◌, arith, add-one, eqb, length, set, length-set, get_or-set_same, get_or-set_other, eq-eqb, ne_eqb}
use Rattle.mondschein.specs.Network.{low, any, at}
use Rattle.mondschein.proofs.Logic.{same?}
use Rattle.mondschein.proofs.Search.{any_suc}
use Rattle.rows.specs.Rows.{assigned}

-- one index set
pub at_set : (l : List ℕ) (i a x : ℕ) → x < length l → at (set l i a) x ≡ cond (eqb i x) a (at l x)
at_set l i a x h =
    ⊎_elim
    (λ (e : i ≡ x). rw (eq-eqb i x e, e) (get_or-set_same l x a 0 h))
    (λ d. rw (ne_eqb i x d) (get_or-set_other l i x a 0 (λ e. d (sym e))))
    (same? i x)

module _ (row : List ℕ) (key value : ℕ → ℕ) where
  pub assigned_length : (c : ℕ) → length (assigned row key value c) ≡ length row
  unfolding assigned
  assigned_length zero = refl
  assigned_length (suc c) = length-set (assigned row key value c) (key c) (value c) ∙ assigned_length c

  -- one key more
  assigned_suc : (c x : ℕ) → x < length row → at (assigned row key value (suc c)) x ≡ cond (eqb (key c) x) (value c) (at (assigned row key value c) x)
  unfolding assigned
  assigned_suc c x h = at_set (assigned row key value c) (key c) (value c) x (omega (arith, assigned_length c))

  -- an index that no key names
  pub assigned_other : (c x : ℕ) → ((k : ℕ) → k < c → key k ≢ x) → at (assigned row key value c) x ≡ at row x
  unfolding assigned
  assigned_other zero x h = refl
  assigned_other (suc c) x h =
      get_or-set_other (assigned row key value c) (key c) x (value c) 0 (λ e. h c (omega arith) (sym e))
      ∙ assigned_other c x (λ k l. h k (omega arith))

  -- an index that key k names, and no other key
  pub assigned_at : (c k : ℕ) → k < c → key k < length row → ((j : ℕ) → j < c → key j ≡ key k → j ≡ k) → at (assigned row key value c) (key k) ≡ value k
  assigned_at zero k l h d = absurd (omega arith)
  assigned_at (suc c) k l h d =
      assigned_suc c (key k) h
      ∙ ⊎_elim
      (λ (e : c ≡ k). rw (e, eq-eqb (key k) (key k) refl))
      (λ (n : c ≢ k). rw (ne_eqb (key c) (key k) (λ e. n (d c (omega arith) e))) (assigned_at c k (omega arith) h (λ j m. d j (omega arith))))
      (same? c k)

-- other values that are the same
pub assigned_ext : (row : List ℕ) (key value value' : ℕ → ℕ) → ((k : ℕ) → value k ≡ value' k) → (c : ℕ) → assigned row key value c ≡ assigned row key value' c
unfolding assigned
assigned_ext row key value value' e zero = refl
assigned_ext row key value value' e (suc c) = ap₂ (λ (l : List ℕ) (x : ℕ). set l (key c) x) (assigned_ext row key value value' e c) (e c)

-- the same value for every key
pub assigned_same : (row : List ℕ) (key : ℕ → ℕ) (b c x : ℕ) → x < length row → at (assigned row key (λ k. b) c) x ≡ cond (any (λ k. eqb (key k) x) c) b (at row x)
unfolding assigned any low
assigned_same row key b zero x h = refl
assigned_same row key b (suc c) x h =
    assigned_suc row key (λ k. b) c x h
    ∙ rw (any_suc (λ k. eqb (key k) x) c, assigned_same row key b c x h) (either (any (λ k. eqb (key k) x) c) (eqb (key c) x) b (at row x))
  where
    either : (p q : Bool) (y z : ℕ) → cond q y (cond p y z) ≡ cond (p || q) y z
    either true true y z = refl
    either true false y z = refl
    either false true y z = refl
    either false false y z = refl

-- every index below c is its own key
pub assigned_each : (row : List ℕ) (value : ℕ → ℕ) (c x : ℕ) → x < c → x < length row → at (assigned row (λ k. k) value c) x ≡ value x
assigned_each row value c x l h = assigned_at row (λ k. k) value c x l h (λ j _ e. e)

-- one number more, as the code assigns it
module _ (row : List ℕ) (key value : ℕ → ℕ) (k : ℕ) {before after : List ℕ} (done : before ≡ assigned row key value k) where
  pub assigned_more : {i x : ℕ} → after ≡ set before i x → i ≡ key k → x ≡ value k → after ≡ assigned row key value (k + 1)
  unfolding assigned
  assigned_more {i} {x} q a b =
      q
      ∙ ap (λ (r : List ℕ). set r i x) done
      ∙ ap (λ (j : ℕ). set (assigned row key value k) j x) a
      ∙ ap (λ (y : ℕ). set (assigned row key value k) (key k) y) b
      ∙ sym (ap (assigned row key value) (add-one k))
