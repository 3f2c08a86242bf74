-- Laws of numbers in decimal: one digit, one digit more, and how many there are at most.
-- A number of two digits or more is a tenth of it and a last digit.
use mathlib.Core.Path.{◌≡◌, refl, sym, ◌∙◌}
use mathlib.Core.Logic.{⊎_elim}
use mathlib.Core.List.{[], ◌∷◌, ◌++◌}
use Prim.Native.Nat.{ℕ, zero, suc, ◌+◌, ◌*◌, ◌/◌, ◌%◌, ◌≤◌, ◌<◌}
use native.Mathlib.Omega.{arith}
use lib.ListN.{length, length-append}
use borrow.Author.Tests.{lt-ltb, le-ltb}
use Rattle.mondschein.proofs.Logic.{less?}
use Rattle.lines.specs.Writing.{decimal_in, decimal}

-- one digit, with any count of steps
one_digit : (k n : ℕ) → n < 10 → decimal_in k n ≡ (48 + n) ∷ []
unfolding decimal_in
one_digit zero n h = refl
one_digit (suc k) n h = rw (lt-ltb n 10 h)

-- steps that are not needed change nothing
enough : (j k n : ℕ) → n ≤ j → n ≤ k → decimal_in j n ≡ decimal_in k n
unfolding decimal_in
enough zero k n h g = sym (one_digit k n (omega arith))
enough (suc j) zero n h g = one_digit (suc j) n (omega arith)
enough (suc j) (suc k) n h g =
    ⊎_elim
    (λ (l : n < 10). one_digit (suc j) n l ∙ sym (one_digit (suc k) n l))
    (λ (l : 10 ≤ n). rw (le-ltb n 10 l, enough j k (n / 10) (omega arith) (omega arith)))
    (less? n 10)

pub decimal_digit : (n : ℕ) → n < 10 → decimal n ≡ (48 + n) ∷ []
unfolding decimal
decimal_digit n h = one_digit n n h

pub decimal_tenth : (n : ℕ) → 10 ≤ n → decimal n ≡ decimal (n / 10) ++ ((48 + n % 10) ∷ [])
unfolding decimal decimal_in
decimal_tenth zero h = absurd (omega arith)
decimal_tenth (suc n) h = rw (le-ltb (suc n) 10 h, enough n (suc n / 10) (suc n / 10) (omega arith) (omega arith))

-- one digit more
pub decimal_more : (v d : ℕ) → 1 ≤ v → d < 10 → decimal (v * 10 + d) ≡ decimal v ++ ((48 + d) ∷ [])
decimal_more v d h g =
    let q : (v * 10 + d) / 10 ≡ v = omega arith in
    let r : (v * 10 + d) % 10 ≡ d = omega arith in
    decimal_tenth (v * 10 + d) (omega arith) ∙ rw (q, r)

pub decimal_some : (n : ℕ) → 1 ≤ length (decimal n)
decimal_some n =
    ⊎_elim
    (λ (l : n < 10). rw (decimal_digit n l) (omega arith))
    (λ (l : 10 ≤ n). rw (decimal_tenth n l, length-append (decimal (n / 10)) ((48 + n % 10) ∷ [])) (omega arith))
    (less? n 10)

pub tenth_length : (n : ℕ) → 10 ≤ n → length (decimal n) ≡ length (decimal (n / 10)) + 1
tenth_length n l = rw (decimal_tenth n l, length-append (decimal (n / 10)) ((48 + n % 10) ∷ []))

-- one digit more for ten times as many numbers
more_digits : (m c : ℕ) → ((n : ℕ) → n < m → length (decimal n) ≤ c) → (n : ℕ) → n < m * 10 → length (decimal n) ≤ c + 1
more_digits m c f n h =
    ⊎_elim
    (λ (l : n < 10). rw (decimal_digit n l) (omega arith))
    (λ (l : 10 ≤ n). omega (arith, tenth_length n l, f (n / 10) (omega arith)))
    (less? n 10)

-- a 16-bit number has at most five digits
pub decimal_short : (n : ℕ) → n ≤ 65535 → length (decimal n) ≤ 5
decimal_short n h =
    more_digits 10000 4 (more_digits 1000 3 (more_digits 100 2 (more_digits 10 1 (λ k l. rw (decimal_digit k l) (omega arith))))) n (omega arith)
