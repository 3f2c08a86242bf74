-- Laws of births and used links along a list of ears: what is born or used before an ear, where a switch is born, what one more ear
-- does, and that a list is accepted exactly when each of its ears passes.
use mathlib.Core.Path.{◌≡◌, refl, sym, ap, ap₂, ◌∙◌, subst}
use mathlib.Core.Logic.{⊎_elim}
use mathlib.Core.Bool.{Bool, true, false, not, ◌&&◌, ◌||◌, cond}
use mathlib.Core.List.{List, [], ◌∷◌, ◌++◌}
use Prim.Native.Nat.{ℕ, zero, suc, pred, ◌≤◌, ◌<◌}
use native.Mathlib.Omega.{arith}
use native.Mathlib.Numerals.{add-one}
use lib.Dec.{eqb}
use lib.ListN.{length, take, length-take, length-append, get_or-append}
use lib.Seq.{get_or-take, get_or_at, length-take-le, take_all, take-append-le, take_at}
use borrow.Author.Tests.{ne_eqb}
use Rattle.mondschein.specs.Network.{any, count, Network, at, holds, passes, Ears, ear_at, born, birth, trail, used, is_new, long_ears, long_birth}
use Rattle.mondschein.specs.Judge.{given, verdict, judge, Accepted}
use Rattle.mondschein.specs.Mondschein.{Birth}
use Rattle.mondschein.proofs.Logic.{which, clash, less?}
use Rattle.mondschein.proofs.Search.{IsLow, low_is, low_eq, low_none, any_true, any_false, true_any, any_suc, any_ext, count_ext}
use Rattle.mondschein.proofs.Lists.{at_same, holds_in, in_holds}
use Rattle.mondschein.proofs.Passed.{end_new, Passed, given_passed}

pub born_at : (es : Ears) (x : ℕ) → born es x ≡ true → (i : ℕ) × (i < length es) × (holds (ear_at es i) x ≡ true)
unfolding born
born_at es x h = any_true _ (length es) h

pub at_born : (es : Ears) (x i : ℕ) → i < length es → holds (ear_at es i) x ≡ true → born es x ≡ true
unfolding born
at_born es x i l h = true_any _ (length es) i l h

unborn_at : (es : Ears) (x : ℕ) → born es x ≡ false → (i : ℕ) → i < length es → holds (ear_at es i) x ≡ false
unfolding born
unborn_at es x h = any_false _ (length es) h

pub earlier : (es : Ears) (i j : ℕ) → j < i → ear_at (take i es) j ≡ ear_at es j
earlier es i j l = get_or-take i es j [] l

pub born_take : (es : Ears) (i x : ℕ) → born (take i es) x ≡ true → (j : ℕ) × (j < i) × (j < length es) × (holds (ear_at es j) x ≡ true)
born_take es i x h =
    let (j, l, q) = born_at (take i es) x h in
    let m : (j < i) × (j < length es) = omega (arith, length-take i es, l) in
    (j, m.0, m.1, subst (λ (e : List ℕ). holds e x ≡ true) (earlier es i j m.0) q)

pub take_born : (es : Ears) (i x j : ℕ) → j < i → j < length es → holds (ear_at es j) x ≡ true → born (take i es) x ≡ true
take_born es i x j l m h =
    at_born (take i es) x j (omega (arith, length-take i es)) (subst (λ (e : List ℕ). holds e x ≡ true) (sym (earlier es i j l)) h)

-- the birth ear holds the switch, and no earlier ear does
pub birth_is : (es : Ears) (x : ℕ) → IsLow (λ i. holds (ear_at es i) x) (length es) (birth es x)
unfolding birth
birth_is es x = low_is (λ i. holds (ear_at es i) x) (length es)

pub birth_le : (es : Ears) (x i : ℕ) → i < length es → holds (ear_at es i) x ≡ true → birth es x ≤ i
birth_le es x i l h = ⊎_elim (λ m. clash h ((birth_is es x).before i m)) (λ m. m) (less? i (birth es x))

pub birth_lt : (es : Ears) (x : ℕ) → born es x ≡ true → birth es x < length es
birth_lt es x h = let (i, l, q) = born_at es x h in omega (arith, birth_le es x i l q)

pub birth_held : (es : Ears) (x : ℕ) → born es x ≡ true → holds (ear_at es (birth es x)) x ≡ true
birth_held es x h = (birth_is es x).hit (birth_lt es x h)

pub not_before : (es : Ears) (x : ℕ) → born (take (birth es x) es) x ≡ true → ⊥
not_before es x h = let (j, a, b, q) = born_take es (birth es x) x h in clash q ((birth_is es x).before j a)

pub birth_unborn : (es : Ears) (x : ℕ) → born es x ≡ false → birth es x ≡ length es
unfolding birth
birth_unborn es x u = low_none (λ i. holds (ear_at es i) x) (length es) (unborn_at es x u)

-- Definition 3's birth is `birth`
pub birth_birth : (es : Ears) (x : ℕ) → born es x ≡ true → Birth es (birth es x) x
birth_birth es x h =
    let l = birth_lt es x h in
    record {
      below = l;
      on = holds_in (ear_at es (birth es x)) x ((birth_is es x).hit l);
      minimal = λ (j, m, o). clash (in_holds (ear_at es j) x o) ((birth_is es x).before j m);
    }

pub birth_unique : (es : Ears) (i x : ℕ) → Birth es i x → birth es x ≡ i
birth_unique es i x b =
    let le = birth_le es x i b.below (in_holds (ear_at es i) x b.on) in
    let l : birth es x < length es = omega (arith, le, b.below) in
    ⊎_elim
    (λ (m : birth es x < i). absurd (b.minimal (birth es x, m, holds_in (ear_at es (birth es x)) x ((birth_is es x).hit l))))
    (λ (m : i ≤ birth es x). omega arith)
    (less? (birth es x) i)

-- a test of one more ear than a list has
any_snoc : (es : Ears) (e : List ℕ) (p : ℕ → List ℕ → Bool) → any (λ i. p i (ear_at (es ++ (e ∷ [])) i)) (length (es ++ (e ∷ []))) ≡ (any (λ i. p i (ear_at es i)) (length es) || p (length es) e)
any_snoc es e p =
    ap (any (λ i. p i (ear_at (es ++ (e ∷ [])) i))) (length-append es (e ∷ []) ∙ add-one (length es))
    ∙ any_suc (λ i. p i (ear_at (es ++ (e ∷ [])) i)) (length es)
    ∙ ap₂ ◌||◌
    (any_ext _ _ (length es) (λ k l. ap (p k) (get_or-append es (e ∷ []) [] k l)))
    (ap (p (length es)) (get_or_at es e [] [] (length es) refl))

pub born_snoc : (es : Ears) (e : List ℕ) (x : ℕ) → born (es ++ (e ∷ [])) x ≡ (born es x || holds e x)
unfolding born
born_snoc es e x = any_snoc es e (λ i d. holds d x)

pub used_snoc : (net : Network) (es : Ears) (e : List ℕ) (l : ℕ) → used net (es ++ (e ∷ [])) l ≡ (used net es l || passes net (trail (eqb (length es) 0) e) l)
unfolding used
used_snoc net es e l = any_snoc es e (λ i d. passes net (trail (eqb i 0) d) l)

module _ (es : Ears) (e : List ℕ) where
  abbrev more : Ears
  more = es ++ (e ∷ [])

  more_length : length more ≡ suc (length es)
  more_length = length-append es (e ∷ []) ∙ add-one (length es)

  pub old_ear : (i : ℕ) → i < length es → ear_at more i ≡ ear_at es i
  old_ear i l = get_or-append es (e ∷ []) [] i l

  new_ear : ear_at more (length es) ≡ e
  new_ear = get_or_at es e [] [] (length es) refl

  pub birth_old : (x : ℕ) → born es x ≡ true → birth more x ≡ birth es x
  unfolding birth
  birth_old x h =
      let l = birth_lt es x h in
      low_eq (λ i. holds (ear_at more i) x) (length more) (birth es x)
      record {
        le = omega (arith, more_length);
        before = λ j m. ap (λ (d : List ℕ). holds d x) (old_ear j (omega arith)) ∙ (birth_is es x).before j m;
        hit = λ _. ap (λ (d : List ℕ). holds d x) (old_ear (birth es x) l) ∙ (birth_is es x).hit l;
      }

  pub birth_new : (x : ℕ) → born es x ≡ false → holds e x ≡ true → birth more x ≡ length es
  unfolding birth
  birth_new x u h =
      low_eq (λ i. holds (ear_at more i) x) (length more) (length es)
      record {
        le = omega (arith, more_length);
        before = λ j m. ap (λ (d : List ℕ). holds d x) (old_ear j m) ∙ unborn_at es x u j m;
        hit = λ _. ap (λ (d : List ℕ). holds d x) new_ear ∙ h;
      }

  -- long ears, and births by long ear
  pub long_snoc : long_ears more ≡ cond (eqb (length e) 2) (long_ears es) (suc (long_ears es))
  unfolding long_ears count
  long_snoc =
      ap (count (λ i. not (eqb (length (ear_at more i)) 2))) more_length
      ∙ ap₂ (λ (b : Bool) (k : ℕ). cond b (suc k) k)
      (ap (λ (d : List ℕ). not (eqb (length d) 2)) new_ear)
      (count_ext _ _ (length es) (λ i l. ap (λ (d : List ℕ). not (eqb (length d) 2)) (old_ear i l)))
      ∙ turn (eqb (length e) 2)
    where
      turn : (b : Bool) → cond (not b) (suc (long_ears es)) (long_ears es) ≡ cond b (long_ears es) (suc (long_ears es))
      turn true = refl
      turn false = refl

  pub long_birth_snoc : (x : ℕ) → long_birth more x ≡ cond (holds e x && not (born es x)) (long_ears more) (long_birth es x)
  unfolding long_birth
  long_birth_snoc x = rw (born_snoc es e x) (go (born es x) (holds e x) refl refl)
    where
      old : born es x ≡ true → long_ears (take (suc (birth more x)) more) ≡ long_ears (take (suc (birth es x)) es)
      old q = rw (birth_old x q) (ap long_ears (take-append-le (suc (birth es x)) es (e ∷ []) (birth_lt es x q)))

      go : (b h : Bool) → born es x ≡ b → holds e x ≡ h → cond (b || h) (long_ears (take (suc (birth more x)) more)) 0 ≡ cond (h && not b) (long_ears more) (cond b (long_ears (take (suc (birth es x)) es)) 0)
      go true true q r = old q
      go true false q r = old q
      go false true q r = rw (birth_new x q r) (ap long_ears (take_all (suc (length es)) more (omega (arith, more_length))))
      go false false q r = refl

-- each ear of the list passes every check, where those before it are born and used
abbrev pub Passing : Network → Ears → Type 0
Passing net es = (i : ℕ) → i < length es → Passed net (take i es) (eqb i 0) (ear_at es i)

module _ (net : Network) (es : Ears) where
  pub accepted_passing : Accepted net es → Passing net es
  unfolding judge
  accepted_passing a i l =
      let (k, q) = a i l in
      given_passed net (born (take i es)) (used net (take i es)) (eqb i 0) (ear_at es i) (k ∷ [])
      (subst (λ (n : ℕ). verdict net (born (take i es)) (used net (take i es)) (eqb n 0) (ear_at es i) ≡ given (k ∷ [])) (length-take-le i es (omega arith)) q)

  module _ (acc : Passing net es) where
    pub first_passed : 0 < length es → Passed net [] true (ear_at es 0)
    first_passed l = acc 0 l

    pub later_passed : (i : ℕ) → suc i < length es → Passed net (take (suc i) es) false (ear_at es (suc i))
    later_passed i l = subst (λ (b : Bool). Passed net (take (suc i) es) b (ear_at es (suc i))) (ne_eqb (suc i) 0 (omega arith)) (acc (suc i) l)

    -- an ear has at least two numbers
    pub ear_two : (i : ℕ) → i < length es → 2 ≤ length (ear_at es i)
    ear_two i l = two (eqb i 0) (acc i l)
      where
        two : (b : Bool) → Passed net (take i es) b (ear_at es i) → 2 ≤ length (ear_at es i)
        two true p = omega (arith, p.at_least)
        two false p = p.at_least

    -- in its birth ear a switch is new
    pub birth_is_new : (x k : ℕ) → born es x ≡ true → k < length (ear_at es (birth es x)) → at (ear_at es (birth es x)) k ≡ x → is_new (eqb (birth es x) 0) (length (ear_at es (birth es x))) k ≡ true
    unfolding is_new
    birth_is_new x k h l q = go (birth es x) (birth_lt es x h) (not_before es x) l q
      where
        go : (i : ℕ) → i < length es → (born (take i es) x ≡ true → ⊥) → k < length (ear_at es i) → at (ear_at es i) k ≡ x → is_new (eqb i 0) (length (ear_at es i)) k ≡ true
        go zero b u l q = refl
        go (suc i) b u l q =
            let e = ear_at es (suc i) in
            let p = later_passed i b in
            rw (ne_eqb (suc i) 0 (omega arith))
            (⊎_elim
            (λ t. t)
            (λ f. absurd (u (⊎_elim
            (λ (z : k ≡ 0). ap (born (take (suc i) es)) (sym q ∙ at_same e k 0 z) ∙ (p.ends refl).0)
            (λ (z : k ≡ pred (length e)). ap (born (take (suc i) es)) (sym q ∙ at_same e k _ z) ∙ (p.ends refl).1)
            (end_new (length e) k l f))))
            (which (is_new false (length e) k)))

  -- the ear after es passes
  pub next_passed : (e : List ℕ) (ds : Ears) → Passing net (es ++ (e ∷ ds)) → Passed net es (eqb (length es) 0) e
  next_passed e ds acc =
      subst (λ (z : Ears). Passed net z (eqb (length es) 0) e) (take_at es (e ∷ ds) (length es) refl)
      (subst (Passed net (take (length es) (es ++ (e ∷ ds))) (eqb (length es) 0)) (get_or_at es e ds [] (length es) refl)
      (acc (length es) (omega (arith, length-append es (e ∷ ds)))))

  pub later : {e : List ℕ} → 0 < length es → Passed net es (eqb (length es) 0) e → Passed net es false e
  later {e} l p = subst (λ (b : Bool). Passed net es b e) (ne_eqb (length es) 0 (omega arith)) p

  pub accepted_prefix : (ds : Ears) → Accepted net (es ++ ds) → Accepted net es
  accepted_prefix ds a i l =
      let (k, q) = a i (omega (arith, length-append es ds)) in
      (k, rw (take-append-le i es ds (omega arith), get_or-append es ds [] i l) at q)

  pub accepted_snoc : (e : List ℕ) (k : ℕ) → Accepted net es → judge net es e ≡ given (k ∷ []) → Accepted net (es ++ (e ∷ []))
  accepted_snoc e k a q i l =
      ⊎_elim
      (λ (m : i < length es). rw (take-append-le i es (e ∷ []) (omega arith), get_or-append es (e ∷ []) [] i m) (a i m))
      (λ (m : length es ≤ i).
      let z : length es ≡ i = omega (arith, length-append es (e ∷ [])) in
      rw (take_at es (e ∷ []) i z, get_or_at es e [] [] i z) (k, q))
      (less? i (length es))
