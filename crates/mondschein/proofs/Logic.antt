-- Case distinctions on Booleans and numbers, and what `&&` and `||` say.
-- Cited by every module here.
use mathlib.Core.Path.{◌≡◌, refl, sym, ◌∙◌}
use mathlib.Core.Logic.{◌⊎◌, inl, inr, ⊎_elim, ◌≢◌}
use mathlib.Core.Bool.{Bool, true, false, not, ◌&&◌, ◌||◌, cond, true≢false}
use Prim.Native.Nat.{ℕ, ◌≤◌, ◌<◌}
use native.Mathlib.Omega.{arith}
use lib.Dec.{eqb, ltb}
use borrow.Author.Tests.{ltb-true, ltb-false, eqb-true, eqb-false}

-- a Boolean is one of two
pub which : (b : Bool) → (b ≡ true) ⊎ (b ≡ false)
which true = inl refl
which false = inr refl

pub clash : {X : Type 0} {b : Bool} → b ≡ true → b ≡ false → X
clash p q = absurd (true≢false (sym p ∙ q))

pub trichotomy : (j k : ℕ) → (j < k) ⊎ ((k < j) ⊎ (j ≡ k))
trichotomy j k =
    ⊎_elim
    (λ t. inl (ltb-true j k t))
    (λ f. ⊎_elim (λ t. inr (inl (ltb-true k j t))) (λ g. inr (inr (omega (arith, ltb-false j k f, ltb-false k j g)))) (which (ltb k j)))
    (which (ltb j k))

pub less? : (j k : ℕ) → (j < k) ⊎ (k ≤ j)
less? j k = ⊎_elim (λ t. inl (ltb-true j k t)) (λ f. inr (ltb-false j k f)) (which (ltb j k))

pub same? : (j k : ℕ) → (j ≡ k) ⊎ (j ≢ k)
same? j k = ⊎_elim (λ t. inl (eqb-true j k t)) (λ f. inr (eqb-false j k f)) (which (eqb j k))

pub and_true : (a b : Bool) → (a && b) ≡ true → (a ≡ true) × (b ≡ true)
and_true true true e = (refl, refl)
and_true true false e = clash e refl
and_true false b e = clash e refl

pub or_true : (a b : Bool) → (a || b) ≡ true → (a ≡ true) ⊎ (b ≡ true)
or_true true b e = inl refl
or_true false b e = inr e

pub true_and : (a b : Bool) → a ≡ true → b ≡ true → (a && b) ≡ true
true_and true b t u = u
true_and false b t u = t

pub or_left : (a b : Bool) → a ≡ true → (a || b) ≡ true
or_left true b e = refl
or_left false b e = clash e refl

pub true_or : (a b : Bool) → b ≡ true → (a || b) ≡ true
true_or true b e = refl
true_or false b e = e

pub or_false : (a b : Bool) → (a || b) ≡ false → (a ≡ false) × (b ≡ false)
or_false true b e = clash refl e
or_false false b e = (refl, e)

pub and_false : (a b : Bool) → (a && b) ≡ false → a ≡ true → b ≡ false
and_false true b e t = e
and_false false b e t = clash t refl

pub false_and : (a b : Bool) → (a ≡ true → b ≡ false) → (a && b) ≡ false
false_and true b h = h refl
false_and false b h = refl

pub false_or : (a b : Bool) → a ≡ false → b ≡ false → (a || b) ≡ false
false_or true b h k = h
false_or false b h k = k

pub or_not : (a b : Bool) → (a || (not a && b)) ≡ (a || b)
or_not true b = refl
or_not false b = refl

pub cond_either : {A : Type 0} (b : Bool) (x y : A) → (cond b x y ≡ x) ⊎ (cond b x y ≡ y)
cond_either true x y = inl refl
cond_either false x y = inr refl
