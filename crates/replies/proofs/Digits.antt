-- Laws of a number written digit by digit, from the first: after the powers of ten so far stand the digits of the number's front.
-- A number is its front and its last digit.
use Rattle.std.proofs.Common.{◌≡◌, ℕ, zero, suc, ◌+◌, ◌-◌, ◌/◌, ◌%◌, ◌^◌, ◌*◌, ◌<◌, ◌≤◌, List, [], ◌∷◌, ◌++◌, length, get_or, set, refl, sym, ◌∙◌, ⊎_elim, arith, length-append, mod-lt}
use Rattle.std.proofs.Math.Nat.{pow-suc, pow-succ', one-le-pow, div-div-eq-div-mul, div-eq_of_lt}
use Rattle.std.proofs.lemmas.Nat.{le-div, div-mul-add, mod-mul-add}
use Rattle.std.proofs.Math.Arith.{mod-mul}
use Rattle.std.proofs.lemmas.Bool.{cases_lt}
use Rattle.lines.specs.Writing.{decimal}
use Rattle.lines.proofs.Decimals.{decimal_digit, decimal_tenth, decimal_some}
use Rattle.replies.specs.Replies.{Wrote}
use Rattle.replies.proofs.Slices.{wrote_byte}

-- the digits that are written of a number's front: none where it is 0
abbrev pub leading : ℕ → List ℕ
leading zero = []
leading (suc q) = decimal (suc q)

leading_is : (q : ℕ) → 0 < q → leading q ≡ decimal q
leading_is zero h = absurd (omega arith)
leading_is (suc q) h = refl

-- a number: its front, and its last digit
pub leading_last : (n : ℕ) → leading (n / 10) ++ ((48 + n % 10) ∷ []) ≡ decimal n
leading_last n =
    ⊎_elim
    (λ (l : n < 10). let q : n / 10 ≡ 0 = omega arith in let r : n % 10 ≡ n = omega arith in rw (q, r) (sym (decimal_digit n l)))
    (λ (l : 10 ≤ n). rw (leading_is (n / 10) (omega arith)) (sym (decimal_tenth n l)))
    (cases_lt n 10)

-- the front, to one digit more
front : (n k : ℕ) → n / 10 ^ suc k ≡ n / 10 ^ k / 10
front n k = rw pow-suc (sym (div-div-eq-div-mul n (10 ^ k) 10))

shorter : (n : ℕ) → length (leading (n / 10)) + 1 ≡ length (decimal n)
shorter n = rw (← leading_last n) (sym (length-append (leading (n / 10)) ((48 + n % 10) ∷ [])))

front_length : (n k : ℕ) → length (decimal (n / 10 ^ k)) ≤ length (decimal n)
front_length n zero = let e : n / 1 ≡ n = omega arith in rw e (omega arith)
front_length n (suc k) = rw (front n k) (tenth (n / 10 ^ k) (front_length n k))
  where
    tenth : (q : ℕ) → length (decimal q) ≤ length (decimal n) → length (decimal (q / 10)) ≤ length (decimal n)
    tenth q h =
        ⊎_elim
        (λ (l : q < 10). let e : q / 10 ≡ 0 = omega arith in rw (e, decimal_digit 0 (omega arith)) (omega (arith, decimal_some n)))
        (λ (l : 10 ≤ q). rw (← leading_is (q / 10) (omega arith)) (omega (arith, shorter q)))
        (cases_lt q 10)

-- there is room for a digit after those of the front
pub front_room : (n k : ℕ) → length (leading (n / 10 ^ suc k)) + 1 ≤ length (decimal n)
front_room n k = rw (front n k) (omega (arith, shorter (n / 10 ^ k), front_length n k))

-- the next digit after those of the front
pub front_more : (n k : ℕ) → 0 < n / 10 ^ k → leading (n / 10 ^ suc k) ++ ((48 + n / 10 ^ k % 10) ∷ []) ≡ leading (n / 10 ^ k)
front_more n k h = rw (front n k, leading_is (n / 10 ^ k) h) (leading_last (n / 10 ^ k))

-- the powers of ten, from the greatest of five digits
pub power_at : (j : ℕ) → j < 4 → get_or (10000 ∷ 1000 ∷ 100 ∷ 10 ∷ []) j 0 ≡ 10 ^ (4 - j)
power_at zero h = refl
power_at (suc zero) h = refl
power_at (suc (suc zero)) h = refl
power_at (suc (suc (suc zero))) h = refl
power_at (suc (suc (suc (suc j)))) h = absurd (omega arith)

-- what is left of a number after the digits of its front: its next digit and what is left after that
rest_split : (n k : ℕ) → n % 10 ^ suc k ≡ (n / 10 ^ k % 10) * 10 ^ k + n % 10 ^ k
rest_split n k = rw pow-succ' (mod-mul n {m = 10} {c = 10 ^ k} (omega arith) (one-le-pow k 10 (omega arith)))

rest_digit : (n k : ℕ) → n % 10 ^ suc k / 10 ^ k ≡ n / 10 ^ k % 10
rest_digit n k = rw (rest_split n k) (div-mul-add (n / 10 ^ k % 10) (10 ^ k) (n % 10 ^ k) (mod-lt n (one-le-pow k 10 (omega arith))))

rest_next : (n k : ℕ) → n % 10 ^ suc k % 10 ^ k ≡ n % 10 ^ k
rest_next n k = rw (rest_split n k) (mod-mul-add (n / 10 ^ k % 10) (10 ^ k) (n % 10 ^ k) (mod-lt n (one-le-pow k 10 (omega arith))))

-- after so many powers of ten: the digits of the front are written, and what is left of the number is known
pub record Begun (at n : ℕ) (held : List ℕ) (j rest next : ℕ) (out : List ℕ) : Type 0 where
  pub left : rest ≡ n % 10 ^ (5 - j)
  pub wrote : Wrote at (leading (n / 10 ^ (5 - j))) held next out

module _ (at n : ℕ) (held : List ℕ) (j rest next : ℕ) (out : List ℕ) (fits : at + length (decimal n) ≤ length held) (same : length out ≡ length held) (below : j ≤ 4) (first : Begun at n held j rest next out) where
  powers : 5 - j ≡ suc (4 - j)
  powers = omega arith

  begun : Wrote at (leading (n / 10 ^ suc (4 - j))) held next out
  begun = rw powers at first.wrote

  left : rest ≡ n % 10 ^ suc (4 - j)
  left = rw powers at first.left

  pub room : next < length out
  room = let w = begun in omega (arith, w.ended, front_room n (4 - j))

  module _ (power : ℕ) (e : power ≡ 10 ^ (4 - j)) where
    digit : rest / power ≡ n / power % 10
    digit = rw (left, e) (rest_digit n (4 - j))

    -- the digit for a power up to the number
    pub digit_more : power ≤ n → Begun at n held (j + 1) (rest % power) (next + 1) (set out next (48 + rest / power))
    digit_more h =
        let k : 5 - (j + 1) ≡ 4 - j = omega arith in
        let g : 10 ^ (4 - j) ≤ n = omega arith in
        record {
          left = rw (k, left, e) (rest_next n (4 - j));
          wrote = rw (k, digit, e, ← front_more n (4 - j) (le-div 1 n (10 ^ (4 - j)) (one-le-pow (4 - j) 10 (omega arith)) (omega arith))) (wrote_byte at _ held next out (omega arith) begun _ (omega (arith, room)));
        }

    -- none for a greater one
    pub digit_none : n < power → Begun at n held (j + 1) rest next out
    digit_none h =
        let k : 5 - (j + 1) ≡ 4 - j = omega arith in
        let g : n < 10 ^ (4 - j) = omega arith in
        let z : n / 10 ^ (4 - j) ≡ 0 = div-eq_of_lt g in
        record {
          left = rw k (left ∙ rest_split n (4 - j) ∙ rw z (omega arith));
          wrote = rw (k, z) (rw (front n (4 - j), z) at begun);
        }

  -- the last digit
  pub digit_last : j ≡ 4 → Wrote at (decimal n) held (next + 1) (set out next (48 + rest))
  digit_last e =
      let k : 5 - j ≡ 1 = omega arith in
      rw (first.left, k, ← leading_last n) (wrote_byte at _ held next out (omega arith) (rw k at first.wrote) _ (omega (arith, room)))
