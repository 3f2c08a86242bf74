-- Laws of the numbers of an ear: what is read where numbers stand, each after one space, and what stands where they were read.
-- Reading ends at the first place where no number stands.
use mathlib.Core.Path.{◌≡◌, refl, sym, ap, ◌∙◌}
use mathlib.Core.Logic.{⊎_elim}
use mathlib.Core.Bool.{true}
use mathlib.Core.List.{List, [], ◌∷◌, ◌++◌, append_assoc, map}
use Prim.Native.Nat.{ℕ, zero, suc, ◌≤◌}
use native.Mathlib.Omega.{arith}
use lib.ListN.{length, length-append}
use Rattle.mondschein.proofs.Logic.{which}
use Rattle.lines.specs.Writing.{decimal, spaced}
use Rattle.lines.specs.Reading.{after, more, Taken, number, spaced_number, TakenList, numbers_from, numbers_in, ear_numbers, Narrow}
use Rattle.lines.proofs.Parts.{cond_elim, spaced_bytes, spaced_part, number_shorter}

none_after : (k : ℕ) → numbers_in k [] ≡ record { list = []; rest = [] }
unfolding numbers_in after number
none_after zero = refl
none_after (suc k) = refl

-- what stands after the first number matters only where there is one
from_same : (s : List ℕ) (n : Taken) (t u : TakenList) → (more n.rest ≡ true → t ≡ u) → numbers_from s n t ≡ numbers_from s n u
from_same s n t u f = ⊎_elim (λ m. ap (numbers_from s n) (f m)) (λ m. rw m) (which (more n.rest))

no_bytes : (s : List ℕ) → length s ≤ 0 → s ≡ []
no_bytes [] h = refl
no_bytes (x ∷ s) h = absurd (omega arith)

-- steps that are not needed change nothing
enough : (j k : ℕ) (s : List ℕ) → length s ≤ j → length s ≤ k → numbers_in j s ≡ numbers_in k s
unfolding numbers_in
enough zero k s h g = ap (numbers_in zero) (no_bytes s h) ∙ sym (none_after k) ∙ ap (numbers_in k) (sym (no_bytes s h))
enough (suc j) zero s h g = ap (numbers_in (suc j)) (no_bytes s g) ∙ none_after (suc j) ∙ ap (numbers_in zero) (sym (no_bytes s g))
enough (suc j) (suc k) s h g =
    from_same s (spaced_number s) _ _
    (λ m. let l = number_shorter s m in enough j k (spaced_number s).rest (omega arith) (omega arith))

-- the numbers that stand here are the first and those after it
pub numbers_first : (s : List ℕ) → ear_numbers s ≡ numbers_from s (spaced_number s) (ear_numbers (spaced_number s).rest)
unfolding ear_numbers numbers_in after number
numbers_first [] = refl
numbers_first (x ∷ s) =
    from_same (x ∷ s) (spaced_number (x ∷ s)) _ _
    (λ m. let l = number_shorter (x ∷ s) m in enough (length s) (length (spaced_number (x ∷ s)).rest) (spaced_number (x ∷ s)).rest (omega arith) (omega arith))

-- the numbers read stand there in their writing
numbers_in_bytes : (k : ℕ) (s : List ℕ) → (s ≡ spaced (map decimal (numbers_in k s).list) ++ (numbers_in k s).rest) × Narrow (numbers_in k s).list
unfolding numbers_in spaced Narrow
numbers_in_bytes zero s = (refl, tt)
numbers_in_bytes (suc k) s =
    let n = spaced_number s in
    cond_elim (λ (t : TakenList). (s ≡ spaced (map decimal t.list) ++ t.rest) × Narrow t.list) (more n.rest)
    (λ m.
    let a = spaced_bytes s m in
    let r = numbers_in_bytes k n.rest in (
      a.0
          ∙ ap (λ (l : List ℕ). 32 ∷ (decimal n.value ++ l)) r.0
          ∙ ap (λ (l : List ℕ). 32 ∷ l) (sym (append_assoc (decimal n.value) (spaced (map decimal (numbers_in k n.rest).list)) (numbers_in k n.rest).rest)),
      (a.1, r.1),
    ))
    (λ m. (refl, tt))

pub numbers_bytes : (s : List ℕ) → (s ≡ spaced (map decimal (ear_numbers s).list) ++ (ear_numbers s).rest) × Narrow (ear_numbers s).list
unfolding ear_numbers
numbers_bytes s = numbers_in_bytes (length s) s

-- a number before further ones, or before the closing bracket
first_of : (n : ℕ) (ns : List ℕ) → n ≤ 65535
    → spaced_number (32 ∷ (decimal n ++ (spaced (map decimal ns) ++ (41 ∷ [])))) ≡ record { value = n; rest = spaced (map decimal ns) ++ (41 ∷ []) }
unfolding spaced
first_of n [] h = spaced_part n 41 [] h (omega arith)
first_of n (x ∷ ns) h = spaced_part n 32 ((decimal x ++ spaced (map decimal ns)) ++ (41 ∷ [])) h (omega arith)

more_spaced : (ns : List ℕ) → more (spaced (map decimal ns) ++ (41 ∷ [])) ≡ true
unfolding spaced
more_spaced [] = refl
more_spaced (x ∷ ns) = refl

numbers_in_part : (k : ℕ) (ns : List ℕ) → Narrow ns → length ns ≤ k → numbers_in k (spaced (map decimal ns) ++ (41 ∷ [])) ≡ record { list = ns; rest = 41 ∷ [] }
unfolding numbers_in spaced Narrow after number
numbers_in_part zero [] w h = refl
numbers_in_part zero (n ∷ ns) w h = absurd (omega arith)
numbers_in_part (suc k) [] w h = refl
numbers_in_part (suc k) (n ∷ ns) w h =
    rw (append_assoc (decimal n) (spaced (map decimal ns)) (41 ∷ []))
    (ap (λ (t : Taken). numbers_from (32 ∷ (decimal n ++ (spaced (map decimal ns) ++ (41 ∷ [])))) t (numbers_in k t.rest)) (first_of n ns w.0)
    ∙ rw (more_spaced ns, numbers_in_part k ns w.1 (omega arith)))

count_spaced : (ns : List ℕ) → length ns ≤ length (spaced (map decimal ns))
unfolding spaced
count_spaced [] = omega arith
count_spaced (n ∷ ns) = omega (arith, length-append (decimal n) (spaced (map decimal ns)), count_spaced ns)

-- numbers in their writing, before the closing bracket, are read
pub numbers_part : (ns : List ℕ) → Narrow ns → ear_numbers (spaced (map decimal ns) ++ (41 ∷ [])) ≡ record { list = ns; rest = 41 ∷ [] }
unfolding ear_numbers
numbers_part ns w =
    numbers_in_part (length (spaced (map decimal ns) ++ (41 ∷ []))) ns w
    (omega (arith, length-append (spaced (map decimal ns)) (41 ∷ []), count_spaced ns))
