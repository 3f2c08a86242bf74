-- Laws of the parts of a line: what is read where a part stands, and what stands where a part was read.
-- A part was read where something is left after it.
use mathlib.Core.Path.{◌≡◌, refl, sym, ap, ◌∙◌}
use mathlib.Core.Logic.{⊎_elim}
use mathlib.Core.Bool.{Bool, true, false, cond}
use mathlib.Core.List.{List, [], ◌∷◌, ◌++◌}
use Prim.Native.Nat.{ℕ, zero, suc, ◌+◌, ◌-◌, ◌*◌, ◌/◌, ◌%◌, ◌≤◌, ◌<◌}
use native.Mathlib.Omega.{arith}
use lib.Dec.{eqb, ltb}
use lib.ListN.{length, length-append}
use lib.Seq.{append_snoc}
use borrow.Author.Tests.{lt-ltb, le-ltb, ltb-false, eq-eqb, ne_eqb, eqb-true, eqb-false}
use Rattle.mondschein.proofs.Logic.{clash, less?}
use Rattle.lines.specs.Writing.{decimal, decimal_in}
use Rattle.lines.specs.Reading.{after, more, ends, Taken, digits, number, spaced_number, named_number}
use Rattle.lines.proofs.Decimals.{decimal_digit, decimal_tenth, decimal_more, decimal_some}

-- a property of either choice
pub cond_elim : {A : Type 0} (P : A → Type 0) (b : Bool) {x y : A} → (b ≡ true → P x) → (b ≡ false → P y) → P (cond b x y)
cond_elim P true t f = t refl
cond_elim P false t f = f refl

pub more_append : (w s : List ℕ) → more s ≡ true → more (w ++ s) ≡ true
more_append [] s m = m
more_append (x ∷ w) s m = refl

pub ends_bytes : (s : List ℕ) → ends s ≡ true → s ≡ 41 ∷ []
ends_bytes [] e = clash e refl
ends_bytes (x ∷ []) e = ap (λ (y : ℕ). y ∷ []) (eqb-true x 41 e)
ends_bytes (x ∷ y ∷ s) e = clash e refl

pub after_bytes : (w s : List ℕ) → more (after w s) ≡ true → s ≡ w ++ after w s
unfolding after
after_bytes [] s m = refl
after_bytes (b ∷ w) [] m = clash m refl
after_bytes (b ∷ w) (x ∷ s) m =
    cond_elim (λ (r : List ℕ). more r ≡ true → x ∷ s ≡ b ∷ (w ++ r)) (eqb x b)
    (λ e m₁. let q : x ≡ b = eqb-true x b e in rw q (ap (λ (l : List ℕ). b ∷ l) (after_bytes w s m₁)))
    (λ e m₁. clash m₁ refl)
    m

after_part : (w s : List ℕ) → after w (w ++ s) ≡ s
unfolding after
after_part [] s = refl
after_part (b ∷ w) s = rw (eq-eqb b b refl, after_part w s)

-- the digits that were read are those of the value
digits_bytes : (v : ℕ) (s : List ℕ) → 1 ≤ v → v ≤ 65535 → more (digits v s).rest ≡ true
    → (decimal v ++ s ≡ decimal (digits v s).value ++ (digits v s).rest) × ((digits v s).value ≤ 65535)
unfolding digits
digits_bytes v [] h g m = clash m refl
digits_bytes v (x ∷ s) h g m =
    cond_elim P (ltb x 48) (λ e m₁. (refl, g)) (λ l.
    cond_elim P (ltb 57 x) (λ e m₁. (refl, g)) (λ u.
    cond_elim P (ltb 65535 (v * 10 + (x - 48))) (λ e m₁. clash m₁ refl) (λ f m₁.
    next (digits_bytes (v * 10 + (x - 48)) s (omega arith) (omega (arith, ltb-false 65535 (v * 10 + (x - 48)) f)) m₁) (ltb-false x 48 l) (ltb-false 57 x u)))) m
  where
    P : Taken → Type 0
    P t = more t.rest ≡ true → (decimal v ++ (x ∷ s) ≡ decimal t.value ++ t.rest) × (t.value ≤ 65535)

    next : {r : List ℕ} {n : ℕ} → (decimal (v * 10 + (x - 48)) ++ s ≡ r) × (n ≤ 65535) → 48 ≤ x → x ≤ 57 → (decimal v ++ (x ∷ s) ≡ r) × (n ≤ 65535)
    next (e, n) l u = (
      let q : 48 + (x - 48) ≡ x = omega arith in
          sym (append_snoc (decimal v) x s) ∙ ap (λ (y : ℕ). (decimal v ++ (y ∷ [])) ++ s) (sym q) ∙ ap (λ (d : List ℕ). d ++ s) (sym (decimal_more v (x - 48) h (omega arith))) ∙ e,
      n,
    )

-- the number that was read stands in its writing
number_bytes : (s : List ℕ) → more (number s).rest ≡ true → (s ≡ decimal (number s).value ++ (number s).rest) × ((number s).value ≤ 65535)
unfolding number decimal decimal_in
number_bytes [] m = clash m refl
number_bytes (x ∷ s) m =
    cond_elim P (ltb x 48) (λ e m₁. clash m₁ refl) (λ l.
    cond_elim P (ltb 57 x) (λ e m₁. clash m₁ refl) (λ u.
    cond_elim P (eqb x 48) (λ e m₁. (ap (λ (y : ℕ). y ∷ s) (eqb-true x 48 e), omega arith)) (λ f m₁.
    first (ltb-false x 48 l) (ltb-false 57 x u) (eqb-false x 48 f) m₁))) m
  where
    P : Taken → Type 0
    P t = more t.rest ≡ true → (x ∷ s ≡ decimal t.value ++ t.rest) × (t.value ≤ 65535)

    first : 48 ≤ x → x ≤ 57 → (x ≡ 48 → ⊥) → P (digits (x - 48) s)
    first l u f m₁ =
        let r = digits_bytes (x - 48) s (omega arith) (omega arith) m₁ in
        let q : 48 + (x - 48) ≡ x = omega arith in
        (ap (λ (y : ℕ). y ∷ s) (sym q) ∙ ap (λ (d : List ℕ). d ++ s) (sym (decimal_digit (x - 48) (omega arith))) ∙ r.0, r.1)

-- a digit that stands here
digits_digit : (v d : ℕ) (s : List ℕ) → d < 10 → v * 10 + d ≤ 65535 → digits v ((48 + d) ∷ s) ≡ digits (v * 10 + d) s
unfolding digits
digits_digit v d s h g =
    let q : 48 + d - 48 ≡ d = omega arith in
    rw (le-ltb (48 + d) 48 (omega arith), le-ltb 57 (48 + d) (omega arith), q, le-ltb 65535 (v * 10 + d) g)

-- a number in its writing, but 0, is read digit by digit
number_digits : (k n : ℕ) (s : List ℕ) → n ≤ k → 1 ≤ n → n ≤ 65535 → number (decimal n ++ s) ≡ digits n s
unfolding number
number_digits zero n s b h g = absurd (omega arith)
number_digits (suc k) n s b h g =
    ⊎_elim
    (λ (l : n < 10).
    let q : 48 + n - 48 ≡ n = omega arith in
    rw (decimal_digit n l, le-ltb (48 + n) 48 (omega arith), le-ltb 57 (48 + n) (omega arith), ne_eqb (48 + n) 48 (λ e. omega arith), q))
    (λ (l : 10 ≤ n).
    let q : n / 10 * 10 + n % 10 ≡ n = omega arith in
    rw (decimal_tenth n l)
    (ap number (append_snoc (decimal (n / 10)) (48 + n % 10) s)
    ∙ number_digits k (n / 10) ((48 + n % 10) ∷ s) (omega arith) (omega arith) (omega arith)
    ∙ digits_digit (n / 10) (n % 10) s (omega arith) (omega arith)
    ∙ ap (λ (v : ℕ). digits v s) q))
    (less? n 10)

-- a number in its writing is read, before any byte below the digits
number_part : (n x : ℕ) (s : List ℕ) → n ≤ 65535 → x < 48 → number (decimal n ++ (x ∷ s)) ≡ record { value = n; rest = x ∷ s }
unfolding number digits decimal decimal_in
number_part zero x s h l = refl
number_part (suc n) x s h l = number_digits (suc n) (suc n) (x ∷ s) (omega arith) (omega arith) h ∙ rw (lt-ltb x 48 l)

-- one space and a number
pub spaced_bytes : (s : List ℕ) → more (spaced_number s).rest ≡ true → (s ≡ 32 ∷ (decimal (spaced_number s).value ++ (spaced_number s).rest)) × ((spaced_number s).value ≤ 65535)
spaced_bytes s m =
    let n = number_bytes (after (32 ∷ []) s) m in
    (after_bytes (32 ∷ []) s (ap more n.0 ∙ more_append (decimal (spaced_number s).value) (spaced_number s).rest m) ∙ ap (λ (l : List ℕ). 32 ∷ l) n.0, n.1)

-- one space and a number take two bytes at least
pub number_shorter : (s : List ℕ) → more (spaced_number s).rest ≡ true → length (spaced_number s).rest + 2 ≤ length s
number_shorter s m =
    omega (arith, simp length-append at (ap length (spaced_bytes s m).0), decimal_some (spaced_number s).value)

pub spaced_part : (n x : ℕ) (s : List ℕ) → n ≤ 65535 → x < 48 → spaced_number (32 ∷ (decimal n ++ (x ∷ s))) ≡ record { value = n; rest = x ∷ s }
spaced_part n x s h l = ap number (after_part (32 ∷ []) (decimal n ++ (x ∷ s))) ∙ number_part n x s h l

-- one space and a word with one number in brackets, before s
abbrev pub named_before : List ℕ → ℕ → List ℕ → List ℕ
named_before word n s = 32 ∷ 40 ∷ (word ++ (32 ∷ (decimal n ++ (41 ∷ s))))

pub named_bytes : (word s : List ℕ) → more (named_number word s).rest ≡ true → (s ≡ named_before word (named_number word s).value (named_number word s).rest) × ((named_number word s).value ≤ 65535)
unfolding named_number
named_bytes word s m =
    let inner = after word (after (32 ∷ 40 ∷ []) s) in
    let n = spaced_number inner in
    let close : n.rest ≡ 41 ∷ after (41 ∷ []) n.rest = after_bytes (41 ∷ []) n.rest m in
    let a = spaced_bytes inner (ap more close) in
    let w : after (32 ∷ 40 ∷ []) s ≡ word ++ inner = after_bytes word (after (32 ∷ 40 ∷ []) s) (ap more a.0) in (
      after_bytes (32 ∷ 40 ∷ []) s (ap more w ∙ more_append word inner (ap more a.0))
          ∙ ap (λ (l : List ℕ). 32 ∷ 40 ∷ l) (w ∙ ap (λ (l : List ℕ). word ++ l) (a.0 ∙ ap (λ (l : List ℕ). 32 ∷ (decimal n.value ++ l)) close)),
      a.1,
    )

pub named_part : (word : List ℕ) (n : ℕ) (s : List ℕ) → n ≤ 65535 → named_number word (named_before word n s) ≡ record { value = n; rest = s }
unfolding named_number
named_part word n s h =
    rw (after_part (32 ∷ 40 ∷ []) (word ++ (32 ∷ (decimal n ++ (41 ∷ s)))), after_part word (32 ∷ (decimal n ++ (41 ∷ s))), spaced_part n 41 s h (omega arith), after_part (41 ∷ []) s)
