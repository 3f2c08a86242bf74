-- Laws of lists of numbers: what stands in them, lists that repeat nothing, and lists turned round.
-- `holds` decides `In`.
use mathlib.Core.Path.{◌≡◌, refl, sym, ap, ◌∙◌, subst}
use mathlib.Core.Logic.{◌⊎◌, inl, inr, ⊎_elim, ◌≢◌}
use mathlib.Core.Bool.{Bool, true, false, ◌&&◌, ◌||◌}
use mathlib.Core.List.{List, [], ◌∷◌, reverse, reverse-cons, reverse-reverse}
use Prim.Native.Nat.{ℕ, zero, suc, ◌-◌, ◌≤◌, ◌<◌}
use native.Mathlib.Omega.{arith}
use lib.Dec.{eqb}
use lib.ListN.{length, get_or-append}
use lib.ListN as L
use lib.Seq.{get_or_at}
use borrow.Author.Tests.{eqb-true, eq-eqb, ne_eqb}
use Rattle.mondschein.specs.Network.{count, at, In, Simple, holds}
use Rattle.mondschein.proofs.Logic.{which, clash, trichotomy, and_true, or_left, true_or, false_or}
use Rattle.mondschein.proofs.Search.{any_true, true_any, pigeon, count_ext, count_shift, count_or, count_none, count_one}

pub holds_in : (l : List ℕ) (x : ℕ) → holds l x ≡ true → (k : ℕ) × (k < length l) × (at l k ≡ x)
unfolding holds
holds_in l x h = let w = any_true (λ k. eqb (at l k) x) (length l) h in (w.0, w.1, eqb-true _ _ w.2)

pub holds_at : (l : List ℕ) (k : ℕ) → k < length l → holds l (at l k) ≡ true
unfolding holds
holds_at l k h = true_any (λ j. eqb (at l j) (at l k)) (length l) k h (eq-eqb (at l k) (at l k) refl)

pub holds_by : (l : List ℕ) (k x : ℕ) → k < length l → at l k ≡ x → holds l x ≡ true
holds_by l k x h e = subst (λ (y : ℕ). holds l y ≡ true) e (holds_at l k h)

pub holds_here : (y : ℕ) (l : List ℕ) → holds (y ∷ l) y ≡ true
holds_here y l = holds_at (y ∷ l) 0 (omega arith)

pub holds_there : (y : ℕ) (l : List ℕ) (x : ℕ) → holds l x ≡ true → holds (y ∷ l) x ≡ true
holds_there y l x h =
    let w = holds_in l x h in
    subst (λ (z : ℕ). holds (y ∷ l) z ≡ true) w.2 (holds_at (y ∷ l) (suc w.0) (omega (arith, w.1)))

pub holds_cons : (y : ℕ) (l : List ℕ) (x : ℕ) → holds (y ∷ l) x ≡ true → (y ≡ x) ⊎ (holds l x ≡ true)
holds_cons y l x h = let w = holds_in (y ∷ l) x h in go w.0 w.1 w.2
  where
    go : (k : ℕ) → k < suc (length l) → at (y ∷ l) k ≡ x → (y ≡ x) ⊎ (holds l x ≡ true)
    go zero m e = inl e
    go (suc k) m e = inr (subst (λ (z : ℕ). holds l z ≡ true) e (holds_at l k (omega arith)))

pub holds_nil : {X : Type 0} (x : ℕ) → holds [] x ≡ true → X
holds_nil x h = let w = holds_in [] x h in absurd (omega (arith, w.1))

pub in_holds : (l : List ℕ) (x : ℕ) → In l x → holds l x ≡ true
in_holds l x (k, h, e) = holds_by l k x h e

pub out_holds : (l : List ℕ) (x : ℕ) → (In l x → ⊥) → holds l x ≡ false
out_holds l x h = ⊎_elim (λ t. absurd (h (holds_in l x t))) (λ f. f) (which (holds l x))

pub absent : (l : List ℕ) (x : ℕ) → holds l x ≡ false → (k : ℕ) → k < length l → at l k ≢ x
absent l x f k h e = clash (subst (λ (y : ℕ). holds l y ≡ true) e (holds_at l k h)) f

pub at_same : (l : List ℕ) (j k : ℕ) → j ≡ k → at l j ≡ at l k
at_same l j k e = ap (at l) e

pub at_reverse : (l : List ℕ) (k : ℕ) → k < length l → at (reverse l) k ≡ at l (length l - suc k)
at_reverse [] k h = absurd (omega arith)
at_reverse (x ∷ l) k h =
    rw reverse-cons
    (⊎_elim
    (λ (m : k < length l).
    get_or-append (reverse l) (x ∷ []) 0 k (omega (arith, L.length-reverse l))
    ∙ at_reverse l k m
    ∙ at_same (x ∷ l) (suc (length l - suc k)) (suc (length l) - suc k) (omega arith))
    (⊎_elim
    (λ m. absurd (omega arith))
    (λ m.
    get_or_at (reverse l) x [] 0 k (L.length-reverse l ∙ sym m)
    ∙ at_same (x ∷ l) 0 (suc (length l) - suc k) (omega arith)))
    (trichotomy k (length l)))

in_reverse : (l : List ℕ) (x : ℕ) → In l x → In (reverse l) x
in_reverse l x (k, h, e) =
    (length l - suc k, omega (arith, L.length-reverse l), at_reverse l (length l - suc k) (omega arith) ∙ at_same l _ k (omega arith) ∙ e)

pub holds_reverse : (l : List ℕ) (x : ℕ) → holds (reverse l) x ≡ holds l x
holds_reverse l x =
    ⊎_elim
    (λ t. in_holds (reverse l) x (in_reverse l x (holds_in l x t)) ∙ sym t)
    (λ f. out_holds (reverse l) x (λ i. clash (in_holds l x (subst (λ (z : List ℕ). In z x) (reverse-reverse l) (in_reverse (reverse l) x i))) f) ∙ sym f)
    (which (holds l x))

-- a list of different numbers below n has at most n
pub simple_length : (n : ℕ) (l : List ℕ) → Simple l → ((x : ℕ) → In l x → x < n) → length l ≤ n
simple_length n l d b = pigeon (length l) n (at l) (λ k h. b (at l k) (k, h, refl)) d

holds_head : (y : ℕ) (l : List ℕ) (x : ℕ) → holds (y ∷ l) x ≡ (eqb y x || holds l x)
holds_head y l x =
    ⊎_elim
    (λ t. t ∙ sym (⊎_elim (λ e. or_left _ _ (eq-eqb y x e)) (λ h. true_or (eqb y x) _ h) (holds_cons y l x t)))
    (λ f.
    f
    ∙ sym
    (false_or _ _
    (ne_eqb y x (λ e. clash (subst (λ (z : ℕ). holds (y ∷ l) z ≡ true) e (holds_here y l)) f))
    (⊎_elim (λ t. clash (holds_there y l x t) f) (λ g. g) (which (holds l x)))))
    (which (holds (y ∷ l) x))

-- counting the numbers of a list that pass a test, by number and by index
pub count_list : (n : ℕ) (l : List ℕ) (q : ℕ → Bool) → Simple l → ((k : ℕ) → k < length l → at l k < n) → count (λ x. holds l x && q x) n ≡ count (λ k. q (at l k)) (length l)
count_list n [] q d b = count_none (λ x. holds [] x && q x) n (λ x m. ap (λ (z : Bool). z && q x) (out_holds [] x (λ (k, l, e). omega arith))) ∙ sym (count_none (λ k. q 0) 0 (λ k m. absurd (omega arith)))
count_list n (y ∷ l) q d b =
    count_ext _ _ n (λ x m. ap (λ (z : Bool). z && q x) (holds_head y l x) ∙ distribute (eqb y x) (holds l x) (q x))
    ∙ count_or (λ x. eqb y x && q x) (λ x. holds l x && q x) n
    (λ x m t. ap (λ (z : Bool). z && q x) (out_holds l x (λ (k, h, e). let z = d 0 (suc k) (omega arith) (omega arith) (eqb-true y x (and_true _ _ t).0 ∙ sym e) in omega arith)))
    ∙ rw (count_one q y n (b 0 (omega arith)), count_list n l q (λ j k h m e. let z = d (suc j) (suc k) (omega arith) (omega arith) e in omega arith) (λ k m. b (suc k) (omega arith)))
    (sym (count_shift (λ k. q (at (y ∷ l) k)) (length l)))
  where
    distribute : (a b c : Bool) → ((a || b) && c) ≡ (a && c || b && c)
    distribute true true true = refl
    distribute true true false = refl
    distribute true false true = refl
    distribute true false false = refl
    distribute false b c = refl
