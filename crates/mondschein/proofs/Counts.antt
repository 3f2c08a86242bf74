-- The number of new switches: what an accepted ear gives is the number of switches that it holds and no earlier ear holds.
-- `judged` says so of the judge's answer.
use mathlib.Core.Path.{◌≡◌, refl, sym, ap, ◌∙◌, subst}
use mathlib.Core.Logic.{⊎_elim}
use mathlib.Core.Bool.{Bool, true, false, not}
use mathlib.Core.List.{List, [], ◌∷◌}
use Prim.Native.Nat.{ℕ, zero, suc, pred, ◌≤◌, ◌<◌}
use native.Mathlib.Omega.{arith}
use lib.Dec.{eqb, ltb}
use lib.ListN.{length, take}
use lib.Seq.{length-take-le}
use borrow.Author.Tests.{lt-ltb, le-ltb, eqb-true}
use Rattle.mondschein.specs.Network.{count, Network, at, Ears, ear_at, born, is_new, new_count, new_switches, used}
use Rattle.mondschein.specs.Judge.{given, judge, Accepted}
use Rattle.mondschein.proofs.Logic.{which, true_and, false_and}
use Rattle.mondschein.proofs.Search.{count_ext, count_shift, count_skip, count_all}
use Rattle.mondschein.proofs.Lists.{at_same, count_list}
use Rattle.mondschein.proofs.Passed.{Passed, given_passed, passed_given}
use Rattle.mondschein.proofs.Births.{Passing, born_at}
use Rattle.mondschein.proofs.Inner.{where?}

-- the new indices of a later ear of c numbers
count_new : (c : ℕ) → 2 ≤ c → count (is_new false c) c ≡ pred (pred c)
unfolding is_new
count_new zero l = absurd (omega arith)
count_new (suc zero) l = absurd (omega arith)
count_new (suc (suc c)) l =
    count_skip (is_new false (suc (suc c))) (suc c) (false_and (ltb 0 (suc c)) _ (λ _. le-ltb (suc (suc c)) (suc (suc c)) (omega arith)))
    ∙ count_shift (is_new false (suc (suc c))) c
    ∙ omega (arith, count_all (λ k. is_new false (suc (suc c)) (suc k)) c (λ k m. true_and _ _ (lt-ltb 0 (suc k) (omega arith)) (lt-ltb (suc (suc k)) (suc (suc c)) (omega arith))))

module _ (net : Network) (es : Ears) (e : List ℕ) where
  by_index : (b : Bool) → Passed net es b e → new_switches net es e ≡ count (λ k. not (born es (at e k))) (length e)
  unfolding new_switches
  by_index b p = count_list net.n e (λ x. not (born es x)) p.simple p.below

  first_count : length es ≡ 0 → Passed net es true e → new_switches net es e ≡ length e
  first_count z p =
      by_index true p
      ∙ count_all (λ k. not (born es (at e k))) (length e)
      (λ k l. ap not (⊎_elim (λ t. let (i, m, _) = born_at es (at e k) t in absurd (omega arith)) (λ f. f) (which (born es (at e k)))))

  later_count : Passed net es false e → new_switches net es e ≡ pred (pred (length e))
  unfolding is_new
  later_count p = by_index false p ∙ count_ext _ (is_new false (length e)) (length e) same ∙ count_new (length e) p.at_least
    where
      same : (k : ℕ) → k < length e → not (born es (at e k)) ≡ is_new false (length e) k
      same k l =
          ⊎_elim
          (λ (z : k ≡ 0). rw (at_same e k 0 z, (p.ends refl).0, le-ltb 0 k (omega arith)))
          (⊎_elim
          (λ (z : k ≡ pred (length e)).
          rw (at_same e k (pred (length e)) z, (p.ends refl).1)
          (sym (false_and (ltb 0 k) _ (λ _. le-ltb (suc k) (length e) (omega arith)))))
          (λ (a, b). rw (p.inner refl k a b) (sym (true_and _ _ (lt-ltb 0 k a) (lt-ltb (suc k) (length e) b)))))
          (where? (length e) k l)

  -- the count of an ear that passes
  passed_count : Passed net es (eqb (length es) 0) e → new_count (eqb (length es) 0) (length e) ≡ new_switches net es e
  unfolding new_count
  passed_count p = go (eqb (length es) 0) refl p
    where
      go : (b : Bool) → eqb (length es) 0 ≡ b → Passed net es b e → new_count b (length e) ≡ new_switches net es e
      go true z p = sym (first_count (eqb-true (length es) 0 z) p)
      go false z p = sym (later_count p)

  pub judged : Passed net es (eqb (length es) 0) e → judge net es e ≡ given (new_switches net es e ∷ [])
  unfolding judge
  judged p = passed_given net (born es) (used net es) (eqb (length es) 0) e p ∙ ap (λ (k : ℕ). given (k ∷ [])) (passed_count p)

  pub judge_passed : (vs : List ℕ) → judge net es e ≡ given vs → Passed net es (eqb (length es) 0) e
  unfolding judge
  judge_passed vs q = given_passed net (born es) (used net es) (eqb (length es) 0) e vs q

  -- every accepted ear gives it
  pub judge_count : (vs : List ℕ) → judge net es e ≡ given vs → vs ≡ new_switches net es e ∷ []
  judge_count vs q = let r = judged (judge_passed vs q) in cc

-- a list each of whose ears passes is accepted
pub passing_accepted : (net : Network) (es : Ears) → Passing net es → Accepted net es
passing_accepted net es acc i l =
    (_, judged net (take i es) (ear_at es i) (subst (λ (n : ℕ). Passed net (take i es) (eqb n 0) (ear_at es i)) (sym (length-take-le i es (omega arith))) (acc i l)))
