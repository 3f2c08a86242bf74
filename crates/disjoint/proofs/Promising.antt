-- The call of document 02, Note 8, on a network keeps its promise: 26, 18 and the answer. On any network it ends as demand 1 says.
-- What is written into a slice with room is the walks one after another, and the rest as it was.
use mathlib.Core.Path.{◌≡◌, refl, sym, ap, ◌∙◌, subst}
use mathlib.Core.Logic.{◌⊎◌, inl, inr, ⊎_elim, ◌≢◌}
use mathlib.Core.Bool.{Bool, true, false, cond}
use mathlib.Core.List.{List, [], ◌∷◌, ◌++◌, append_assoc}
use Prim.Native.Nat.{ℕ, suc, ◌+◌, ◌≤◌, ◌<◌}
use native.Mathlib.Omega.{arith}
use lib.Dec.{eqb, ltb}
use lib.ListN.{length, set, drop, length-append}
use lib.Seq.{sets, sets-eq, drop-set-lt}
use borrow.Author.Tests.{lt-ltb, le-ltb, eq-eqb, ne_eqb, le-leb, lt-leb}
use Rattle.mondschein.specs.Network.{Network, joined, Proper}
use Rattle.mondschein.proofs.Logic.{less?}
use Rattle.disjoint.specs.Paths.{Routes, walks, parted, Right}
use Rattle.disjoint.specs.Matching.{selves, in_cut, Tried, all, short, tries, answer_by, routes_of}
use Rattle.disjoint.specs.Replies.{refusing, written, told_of, wrong_pair, routes_into, Promised, Answered, Promise}
use Rattle.disjoint.specs.Statements.{Ends}
use Rattle.disjoint.proofs.Separating.{lowest_few}
use Rattle.disjoint.proofs.Answering.{excludes, right_answers, at_most_lem}

-- runs of stores, one after another
sets_append : (l : List ℕ) (i : ℕ) (a b : List ℕ) → sets (sets l i a) (i + length a) b ≡ sets l i (a ++ b)
sets_append l i [] b = ap (λ (k : ℕ). sets l k b) (let z : i + 0 ≡ i = omega arith in z)
sets_append l i (x ∷ a) b = ap (λ (k : ℕ). sets (sets (set l i x) (suc i) a) k b) (let z : i + suc (length a) ≡ suc i + length a = omega arith in z) ∙ sets_append (set l i x) (suc i) a b

sets_rest : (l : List ℕ) (i : ℕ) (a : List ℕ) → drop (i + length a) (sets l i a) ≡ drop (i + length a) l
sets_rest l i [] = refl
sets_rest l i (x ∷ a) =
    let z : i + suc (length a) ≡ suc i + length a = omega arith in
    ap (λ (k : ℕ). drop k (sets (set l i x) (suc i) a)) z ∙ sets_rest (set l i x) (suc i) a ∙ ap (λ (k : ℕ). drop k (set l i x)) (sym z) ∙ drop-set-lt (i + suc (length a)) l i x (omega arith)

-- three of them are one
module _ (a b c out : List ℕ) where
  together : length ((a ++ b) ++ c) ≡ length a + length b + length c
  together = length-append (a ++ b) c ∙ ap (λ (k : ℕ). k + length c) (length-append a b)

  written_one : written (walks a b c) out ≡ sets out 0 ((a ++ b) ++ c)
  written_one =
      ap (λ (k : ℕ). sets (sets (sets out 0 a) (length a) b) k c) (let z : length a + length b ≡ 0 + length (a ++ b) = omega (arith, length-append a b) in z)
      ∙ ap (λ (z : List ℕ). sets z (0 + length (a ++ b)) c) (ap (λ (k : ℕ). sets (sets out 0 a) k b) (let z : length a ≡ 0 + length a = omega arith in z) ∙ sets_append out 0 a b)
      ∙ sets_append out 0 (a ++ b) c

  -- on any slice, what is past them is left
  written_rest : drop (length a + length b + length c) (written (walks a b c) out) ≡ drop (length a + length b + length c) out
  written_rest =
      ap (drop (length a + length b + length c)) written_one
      ∙ subst (λ (k : ℕ). drop k (sets out 0 ((a ++ b) ++ c)) ≡ drop k out) (let z : 0 + length ((a ++ b) ++ c) ≡ length a + length b + length c = omega (arith, together) in z) (sets_rest out 0 ((a ++ b) ++ c))

  -- on one with room, they stand one after another
  written_is : length a + length b + length c ≤ length out → written (walks a b c) out ≡ a ++ (b ++ (c ++ drop (length a + length b + length c) out))
  written_is l =
      written_one
      ∙ sets-eq ((a ++ b) ++ c) out 0 (omega (arith, together))
      ∙ ap (λ (k : ℕ). ((a ++ b) ++ c) ++ drop k out) (let z : 0 + length ((a ++ b) ++ c) ≡ length a + length b + length c = omega (arith, together) in z)
      ∙ simp append_assoc

-- the tests of 26, in the code's order
module _ (n s t : ℕ) where
  pub pair_first : n ≤ s → wrong_pair n s t ≡ true
  unfolding wrong_pair
  pair_first l = rw (le-leb n s l)

  pub pair_second : s < n → n ≤ t → wrong_pair n s t ≡ true
  unfolding wrong_pair
  pair_second k l = rw (lt-leb n s k, le-leb n t l)

  pub pair_same : s < n → t < n → wrong_pair n s t ≡ eqb s t
  unfolding wrong_pair
  pair_same k l = rw (lt-leb n s k, lt-leb n t l)

module _ (net : Network) (s t : ℕ) (out : List ℕ) where
  pub told_26 : wrong_pair net.n s t ≡ true → routes_into net s t out ≡ refusing 26 out
  unfolding routes_into
  told_26 p = ap (λ (x : Bool). cond x (refusing 26 out) (cond (ltb (length out) (net.n + 4)) (refusing 18 out) (told_of (routes_of net s t) out))) p

  pub told_18 : wrong_pair net.n s t ≡ false → length out < net.n + 4 → routes_into net s t out ≡ refusing 18 out
  unfolding routes_into
  told_18 p l = rw (p, lt-ltb (length out) (net.n + 4) l)

  pub told_answer : wrong_pair net.n s t ≡ false → net.n + 4 ≤ length out → routes_into net s t out ≡ told_of (routes_of net s t) out
  unfolding routes_into
  told_answer p l = rw (p, le-ltb (length out) (net.n + 4) l)

  -- on any network
  abbrev Few : Routes → Type 0
  Few (walks a b c) = Unit {0}
  Few (parted xs) = length xs ≤ 2

  answer_few : (j : Bool) (r : Tried) → Few (answer_by net s t j r)
  unfolding answer_by
  answer_few true (all next) = tt
  answer_few true (short next mark) = omega (arith, lowest_few net.n 1 (in_cut next mark))
  answer_few false (all next) = tt
  answer_few false (short next mark) = lowest_few net.n 2 (in_cut next mark)

  told_ends : (r : Routes) → Few r → Ends out (told_of r out)
  told_ends (walks a b c) f = inl (length a, length b, length c, refl, written_rest a b c out)
  told_ends (parted xs) f = inr (inl (xs, f, refl))

  pub into_ends : Ends out (routes_into net s t out)
  unfolding routes_into routes_of
  into_ends = go (wrong_pair net.n s t) (ltb (length out) (net.n + 4))
    where
      go : (x y : Bool) → Ends out (cond x (refusing 26 out) (cond y (refusing 18 out) (told_of (routes_of net s t) out)))
      go true y = inr (inr (26, (2, omega arith, refl), refl))
      go false true = inr (inr (18, (0, omega arith, refl), refl))
      go false false = told_ends (routes_of net s t) (answer_few (joined net s t) (tries net s t (cond (joined net s t) 2 3) net.n selves))

-- on a proper one
module _ (net : Network) (proper : Proper net) (s t : ℕ) (out : List ℕ) where
  pair : s ≢ t → s < net.n → t < net.n → wrong_pair net.n s t ≡ false
  pair d ls lt = pair_same net.n s t ls lt ∙ ne_eqb s t d

  no_pair_lem : (s ≡ t) ⊎ ((net.n ≤ s) ⊎ (net.n ≤ t)) → wrong_pair net.n s t ≡ true
  no_pair_lem h =
      ⊎_elim
      (λ (l : s < net.n). ⊎_elim
      (λ (m : t < net.n). pair_same net.n s t l m ∙ ⊎_elim (λ e. eq-eqb s t e) (⊎_elim (λ k. absurd (omega arith)) (λ k. absurd (omega arith))) h)
      (λ m. pair_second net.n s t l m)
      (less? t net.n))
      (λ l. pair_first net.n s t l)
      (less? s net.n)

  answer : (r : Routes) → s ≢ t → net.n + 4 ≤ length out → Right net s t r → Answered net s t out (told_of r out)
  answer (walks w₁ w₂ w₃) d l h = inl (w₁, w₂, w₃, h, refl, written_is w₁ w₂ w₃ out (omega (arith, at_most_lem net proper s t d w₁ w₂ w₃ h)))
  answer (parted xs) d l h = inr (excludes net s t xs h, (xs, h, refl, refl))

  promised : Promised net s t out (routes_into net s t out)
  promised =
      record {
        no_pair = λ h. told_26 net s t out (no_pair_lem h);
        too_short = λ d ls lt l. told_18 net s t out (pair d ls lt) l;
        answered = λ d ls lt l.
            subst (Answered net s t out) (sym (told_answer net s t out (pair d ls lt) l)) (answer (routes_of net s t) d l (right_answers net proper s t ls lt d).0);
      }

pub promise : Promise routes_into
promise net proper s t out = promised net proper s t out
