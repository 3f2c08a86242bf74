-- Laws of link records: how many numbers they are, what one more record adds, and what a flat table of them holds.
-- `fitting` is the fitted list by recursion: a store at its end is one number more.
use Rattle.std.proofs.Common.{◌≡◌, refl, sym, ap, ◌∙◌, ⊎_elim, List, [], ◌∷◌, ◌++◌, ℕ, suc, ◌+◌, ◌*◌, ◌≤◌, ◌<◌, arith, add-one, length, take, set, get_or, replicate, length-append, length-take-le, take_all, take-suc, lt-ltb, le-ltb}
use Rattle.std.proofs.Math.ListN.{length-replicate}
use Rattle.mondschein.proofs.Logic.{less?}
use Rattle.records.specs.declared.Link.{Link}
use Rattle.records.specs.Records.{ends_of, ducts_of, fitted, flat_of, numbers_of}

pub ends_length : (ls : List Link) → length (ends_of ls) ≡ 2 * length ls
unfolding ends_of
ends_length [] = refl
ends_length (l ∷ ls) = let h : length (ends_of ls) ≡ 2 * length ls = ends_length ls in omega (arith, h)

pub ducts_length : (ls : List Link) → length (ducts_of ls) ≡ length ls
unfolding ducts_of
ducts_length [] = refl
ducts_length (l ∷ ls) = ap suc (ducts_length ls)

-- the fitted list, by recursion
unfoldable pub fitting : List ℕ → List ℕ → List ℕ
fitting [] row = row
fitting (x ∷ l) [] = []
fitting (x ∷ l) (y ∷ row) = x ∷ fitting l row

pub fitting_fitted : (l row : List ℕ) → fitting l row ≡ fitted l row
unfolding fitting
fitting_fitted [] row = sym (take_all (length row) row (omega arith))
fitting_fitted (x ∷ l) [] = refl
fitting_fitted (x ∷ l) (y ∷ row) = ap (λ (k : List ℕ). x ∷ k) (fitting_fitted l row)

-- a store at the end is one number more
pub fitting_more : (l row : List ℕ) (x : ℕ) → set (fitting l row) (length l) x ≡ fitting (l ++ (x ∷ [])) row
unfolding fitting
fitting_more [] [] x = refl
fitting_more [] (y ∷ row) x = refl
fitting_more (z ∷ l) [] x = refl
fitting_more (z ∷ l) (y ∷ row) x = ap (λ (k : List ℕ). z ∷ k) (fitting_more l row x)

-- one record more, at the end
pub ends_more : (ls : List Link) (l : Link) → ends_of (ls ++ (l ∷ [])) ≡ (ends_of ls ++ (l.a ∷ [])) ++ (l.b ∷ [])
unfolding ends_of
ends_more [] l = refl
ends_more (k ∷ ls) l = ap (λ (r : List ℕ). k.a ∷ k.b ∷ r) (ends_more ls l)

pub ducts_more : (ls : List Link) (l : Link) → ducts_of (ls ++ (l ∷ [])) ≡ ducts_of ls ++ (l.duct ∷ [])
unfolding ducts_of
ducts_more [] l = refl
ducts_more (k ∷ ls) l = ap (λ (r : List ℕ). k.duct ∷ r) (ducts_more ls l)

-- what stands past the end of a list of records
abbrev pub no_link : Link
no_link = record { a = 0; b = 0; duct = 0 }

-- record i, stored after those before it
module _ (ls : List Link) (row : List ℕ) (i : ℕ) (h : i < length ls) where
  abbrev l : Link
  l = get_or ls i no_link

  one_more : take (i + 1) ls ≡ take i ls ++ (l ∷ [])
  one_more = ap (λ (n : ℕ). take n ls) (add-one i) ∙ take-suc ls i no_link h

  first_length : length (take i ls) ≡ i
  first_length = length-take-le i ls (omega arith)

  -- so many numbers are there before its first end, and before its second
  before_a : length (ends_of (take i ls)) ≡ 2 * i
  before_a = ends_length (take i ls) ∙ ap (λ (n : ℕ). 2 * n) first_length

  before_b : length (ends_of (take i ls) ++ (l.a ∷ [])) ≡ 2 * i + 1
  before_b = length-append (ends_of (take i ls)) (l.a ∷ []) ∙ ap (λ (n : ℕ). n + 1) before_a

  pub ends_stored : set (set (fitting (ends_of (take i ls)) row) (2 * i) l.a) (2 * i + 1) l.b ≡ fitting (ends_of (take (i + 1) ls)) row
  ends_stored =
      ap (λ (k : ℕ). set (set (fitting (ends_of (take i ls)) row) k l.a) (2 * i + 1) l.b) (sym before_a)
      ∙ ap (λ (t : List ℕ). set t (2 * i + 1) l.b) (fitting_more (ends_of (take i ls)) row l.a)
      ∙ ap (λ (k : ℕ). set (fitting (ends_of (take i ls) ++ (l.a ∷ [])) row) k l.b) (sym before_b)
      ∙ fitting_more (ends_of (take i ls) ++ (l.a ∷ [])) row l.b
      ∙ ap (λ (t : List ℕ). fitting t row) (sym (ends_more (take i ls) l))
      ∙ ap (λ (k : List Link). fitting (ends_of k) row) (sym one_more)

  pub ducts_stored : set (fitting (ducts_of (take i ls)) row) i l.duct ≡ fitting (ducts_of (take (i + 1) ls)) row
  ducts_stored =
      ap (λ (k : ℕ). set (fitting (ducts_of (take i ls)) row) k l.duct) (sym (ducts_length (take i ls) ∙ first_length))
      ∙ fitting_more (ducts_of (take i ls)) row l.duct
      ∙ ap (λ (t : List ℕ). fitting t row) (sym (ducts_more (take i ls) l))
      ∙ ap (λ (k : List Link). fitting (ducts_of k) row) (sym one_more)

-- where every record is stored, that is the fitted list
pub ends_done : (ls : List Link) (row : List ℕ) (i : ℕ) → length ls ≤ i → fitting (ends_of (take i ls)) row ≡ fitted (ends_of ls) row
ends_done ls row i h = ap (λ (k : List Link). fitting (ends_of k) row) (take_all i ls h) ∙ fitting_fitted (ends_of ls) row

pub ducts_done : (ls : List Link) (row : List ℕ) (i : ℕ) → length ls ≤ i → fitting (ducts_of (take i ls)) row ≡ fitted (ducts_of ls) row
ducts_done ls row i h = ap (λ (k : List Link). fitting (ducts_of k) row) (take_all i ls h) ∙ fitting_fitted (ducts_of ls) row

-- a fitted list is as long as the row
fitting_length : (l row : List ℕ) → length (fitting l row) ≡ length row
unfolding fitting
fitting_length [] row = refl
fitting_length (x ∷ l) [] = refl
fitting_length (x ∷ l) (y ∷ row) = ap suc (fitting_length l row)

pub fitted_length : (l row : List ℕ) → length (fitted l row) ≡ length row
fitted_length l row = ap length (sym (fitting_fitted l row)) ∙ fitting_length l row

-- where there is room for all of it, it stands at the start
pub fitted_first : (l row : List ℕ) → length l ≤ length row → take (length l) (fitted l row) ≡ l
unfolding fitting
fitted_first l row h = ap (λ (k : List ℕ). take (length l) k) (sym (fitting_fitted l row)) ∙ go l row h
  where
    go : (l row : List ℕ) → length l ≤ length row → take (length l) (fitting l row) ≡ l
    go [] row h = refl
    go (x ∷ l) [] h = absurd (omega (arith, h))
    go (x ∷ l) (y ∷ row) h = ap (λ (k : List ℕ). x ∷ k) (go l row (omega (arith, h)))

-- what a caller reads: the rows' lengths, and, of no more records than there is room for, their numbers at the start of the rows
pub flat_ends_length : (ls : List Link) → length (flat_of ls).ends ≡ 8192
unfolding flat_of
flat_ends_length ls = fitted_length (ends_of ls) (replicate 8192 0) ∙ length-replicate {A = ℕ} 8192 0

pub flat_ducts_length : (ls : List Link) → length (flat_of ls).ducts ≡ 4096
unfolding flat_of
flat_ducts_length ls = fitted_length (ducts_of ls) (replicate 4096 0) ∙ length-replicate {A = ℕ} 4096 0

pub flat_ends : (ls : List Link) → length ls ≤ 4096 → take (2 * length ls) (flat_of ls).ends ≡ ends_of ls
unfolding flat_of
flat_ends ls h =
    ap (λ (n : ℕ). take n (fitted (ends_of ls) (replicate 8192 0))) (sym (ends_length ls))
    ∙ fitted_first (ends_of ls) (replicate 8192 0) (omega (arith, ends_length ls, length-replicate {A = ℕ} 8192 0))

pub flat_ducts : (ls : List Link) → length ls ≤ 4096 → take (length ls) (flat_of ls).ducts ≡ ducts_of ls
unfolding flat_of
flat_ducts ls h =
    ap (λ (n : ℕ). take n (fitted (ducts_of ls) (replicate 4096 0))) (sym (ducts_length ls))
    ∙ fitted_first (ducts_of ls) (replicate 4096 0) (omega (arith, ducts_length ls, length-replicate {A = ℕ} 4096 0))

-- so many numbers are the table of the records; where there are too many, none is read
pub numbers_whole : (m : ℕ) → m ≤ 4096 → numbers_of m ≡ 2 * m
unfolding numbers_of
numbers_whole m h = rw (le-ltb 4096 m h)

pub numbers_none : (m : ℕ) → 4096 < m → numbers_of m ≡ 0
unfolding numbers_of
numbers_none m h = rw (lt-ltb 4096 m h)

pub numbers_fit : (m : ℕ) → numbers_of m ≤ 8192
numbers_fit m = ⊎_elim (λ h. omega (arith, numbers_none m h)) (λ h. omega (arith, numbers_whole m h)) (less? 4096 m)

-- what `flatten` cites
pub ruleset stored = (ends_stored, ducts_stored, ends_done, ducts_done)
