-- Laws of births counted by switch number: those born before the next ear, and the first ear after which more than c switches are born.
-- Along an order that holds every switch once the same switches are counted.
use mathlib.Core.Path.{◌≡◌, refl, sym, ap, ◌∙◌}
use mathlib.Core.Logic.{⊎_elim}
use mathlib.Core.Bool.{Bool, true, ◌&&◌}
use mathlib.Core.List.{List, [], ◌∷◌}
use Prim.Native.Nat.{ℕ, zero, suc, ◌+◌, ◌≤◌, ◌<◌}
use native.Mathlib.Omega.{arith}
use lib.Dec.{eqb, ltb}
use lib.ListN.{length, get_or-eq_default}
use borrow.Author.Tests.{ltb-true, ltb-false, lt-ltb, le-ltb, eq-eqb, ne_eqb}
use Rattle.mondschein.specs.Network.{count, at, holds, Simple}
use Rattle.mondschein.proofs.Logic.{less?, trichotomy}
use Rattle.mondschein.proofs.Search.{IsLow, low_is, count_ext, count_none, count_all, count_bound}
use Rattle.mondschein.proofs.Lists.{count_list}
use Rattle.zones.specs.Cut.{birth_in, born_before, born_in, ear_past, older, in_ear}

-- a number that a list of births holds, and one that it does not
pub birth_in_lem : (births : List ℕ) (v : ℕ) → v < length births → birth_in births v ≡ at births v
unfolding birth_in
birth_in_lem [] v l = absurd (omega arith)
birth_in_lem (b ∷ births) zero l = refl
birth_in_lem (b ∷ births) (suc v) l = birth_in_lem births v (omega arith)

pub birth_past : (births : List ℕ) (v : ℕ) → length births ≤ v → birth_in births v ≡ 65536
unfolding birth_in
birth_past births v l = get_or-eq_default births 65536 l

module _ (b : ℕ → ℕ) where
  -- born before the next ear are those born before an ear, and in it
  pub born_next : (n i : ℕ) → born_before n b (suc i) ≡ born_before n b i + born_in n b i
  unfolding born_before born_in count
  born_next zero i = refl
  born_next (suc n) i =
      ⊎_elim
      (λ h. rw (lt-ltb (b n) i h, lt-ltb (b n) (suc i) (omega arith), ne_eqb (b n) i (λ e. omega arith)) (omega (arith, born_next n i)))
      (⊎_elim
      (λ h. rw (le-ltb (b n) i (omega arith), le-ltb (b n) (suc i) (omega arith), ne_eqb (b n) i (λ e. omega arith)) (born_next n i))
      (λ h. rw (le-ltb (b n) i (omega arith), lt-ltb (b n) (suc i) (omega arith), eq-eqb (b n) i h) (omega (arith, born_next n i))))
      (trichotomy (b n) i)

  pub born_none : (n : ℕ) → born_before n b 0 ≡ 0
  unfolding born_before
  born_none n = count_none (λ v. ltb (b v) 0) n (λ v l. le-ltb (b v) 0 (omega arith))

  pub born_bound : (n i : ℕ) → born_before n b i ≤ n
  unfolding born_before
  born_bound n i = count_bound (λ v. ltb (b v) i) n

  -- the first ear after which more than c switches are born: where all of more than c switches are born up to ear e
  module _ (n c e : ℕ) (top : e ≤ n) (most : (v : ℕ) → v < n → b v ≤ e) (more : c < n) where
    past_is : IsLow (λ i. ltb c (born_before n b (suc i))) n (ear_past n b c)
    unfolding ear_past
    past_is = low_is (λ i. ltb c (born_before n b (suc i))) n

    all_born : (i : ℕ) → e < i → born_before n b i ≡ n
    unfolding born_before
    all_born i h = count_all (λ v. ltb (b v) i) n (λ v l. lt-ltb (b v) i (omega (arith, most v l)))

    pub past_le : ear_past n b c ≤ e
    past_le =
        ⊎_elim
        (λ (h : e < ear_past n b c). absurd (omega (arith, ltb-false c (born_before n b (suc e)) (past_is.before e h), all_born (suc e) (omega arith))))
        (λ (h : ear_past n b c ≤ e). h)
        (less? e (ear_past n b c))

    -- after it more than c are born, before it no more
    pub past_many : c < born_before n b (suc (ear_past n b c))
    past_many =
        ⊎_elim
        (λ (h : ear_past n b c < n). ltb-true c (born_before n b (suc (ear_past n b c))) (past_is.hit h))
        (λ (h : n ≤ ear_past n b c). omega (arith, all_born (suc (ear_past n b c)) (omega (arith, past_is.le))))
        (less? (ear_past n b c) n)

    pub past_few : born_before n b (ear_past n b c) ≤ c
    past_few = go (ear_past n b c) refl
      where
        go : (i : ℕ) → ear_past n b c ≡ i → born_before n b i ≤ c
        go zero q = omega (arith, born_none n)
        go (suc i) q = ltb-false c (born_before n b (suc i)) (past_is.before i (omega arith))

-- an order that holds each of n switches once, and nothing else
module _ (n : ℕ) (o : List ℕ) (simple : Simple o) (below : (k : ℕ) → k < length o → at o k < n) (held : (x : ℕ) → x < n → holds o x ≡ true) where
  pub along : (p : ℕ → Bool) → count p n ≡ count (λ k. p (at o k)) (length o)
  along p = count_ext p (λ x. holds o x && p x) n (λ x l. sym (ap (λ (t : Bool). t && p x) (held x l))) ∙ count_list n o p simple below

  pub long : length o ≡ n
  long = sym (count_all (λ k. true) (length o) (λ k l. refl)) ∙ sym (along (λ x. true)) ∙ count_all (λ x. true) n (λ x l. refl)

  pub before_along : (b : ℕ → ℕ) (i : ℕ) → born_before n b i ≡ older o b i (length o)
  unfolding born_before older
  before_along b i = along (λ v. ltb (b v) i)

  pub in_along : (b : ℕ → ℕ) (i : ℕ) → born_in n b i ≡ in_ear o b i (length o)
  unfolding born_in in_ear
  in_along b i = along (λ v. eqb (b v) i)
