-- Laws of ears offered one after another: a list is always granted; the ears that its count tells lead to the session that it leaves;
-- two ways of offering that answer alike give alike lists; and it is the single offers. The ears of a slice, by place and read back.
use mathlib.Core.Path.{◌≡◌, refl, sym, ap, ◌∙◌, subst}
use mathlib.Core.Bool.{Bool, true, false, cond}
use mathlib.Core.List.{List, [], ◌∷◌, ◌++◌, foldl, append-nil, append_assoc}
use Prim.Native.Nat.{ℕ, zero, suc, ◌-◌, ◌≤◌, ◌<◌}
use native.Mathlib.Omega.{arith}
use lib.Dec.{eqb, ltb}
use lib.ListN.{length, take, drop, length-append}
use lib.Seq.{take_at, drop_at}
use borrow.Author.Tests.{le-leb, lt-leb, lt-ltb}
use Rattle.mondschein.specs.Network.{Network, at, Ears}
use Rattle.mondschein.specs.Judge.{Answer, given, refused, checked, numbered, ear_checks, wrong_length, verdict_by, judge}
use Rattle.mondschein.specs.Outcome.{Outcome}
use Rattle.mondschein.specs.WholeList.{next_refused, by_answer, offering_from, offering, offered, ears_from, ears_in, flat, ReadsEars}
use Rattle.mondschein.proofs.Logic.{or_left}
use Rattle.mondschein.proofs.Checks.{check_fail}

-- an answer is a grant or a refusal
pub by_answer_lem : {A : Type 0} (Q : A → Type 0) (a : Answer) {x : A} {f : ℕ → ℕ → A} → ((vs : List ℕ) → a ≡ given vs → Q x)
    → ((num place : ℕ) → a ≡ refused num place → Q (f num place)) → Q (by_answer a x f)
by_answer_lem Q (given vs) x f = x vs refl
by_answer_lem Q (refused num place) x f = f num place refl

-- by what it is
module _ {A : Type 0} {a : Answer} (x : A) (f : ℕ → ℕ → A) where
  by_given : {vs : List ℕ} → a ≡ given vs → by_answer a x f ≡ x
  by_given q = ap (λ (a : Answer). by_answer a x f) q

  by_refused : {num place : ℕ} → a ≡ refused num place → by_answer a x f ≡ f num place
  by_refused q = ap (λ (a : Answer). by_answer a x f) q

-- the values of a grant
pub given_values : {vs ws : List ℕ} → given vs ≡ given ws → vs ≡ ws
given_values q = ap values q
  where
    values : Answer → List ℕ
    values (given vs) = vs
    values (refused num place) = []

module _ {S : Type 0} (offer : S → List ℕ → Outcome S) where
  -- the next ear is accepted, or refused
  pub offering_next : (k : ℕ) (s : S) (e : List ℕ) (es : Ears) {vs : List ℕ} {s' : S} → offer s e ≡ record { answer = given vs; after = s' }
      → offering_from offer k s (e ∷ es) ≡ offering_from offer (suc k) s' es
  unfolding offering_from
  offering_next k s e es q = by_given _ _ (ap (λ (o : Outcome S). o.answer) q) ∙ ap (λ (o : Outcome S). offering_from offer (suc k) o.after es) q

  pub offering_ends : (k : ℕ) (s : S) (e : List ℕ) (es : Ears) {num place : ℕ} {s' : S} → offer s e ≡ record { answer = refused num place; after = s' }
      → offering_from offer k s (e ∷ es) ≡ record { answer = next_refused k num place; after = s' }
  unfolding offering_from
  offering_ends k s e es {num} {place} q =
      by_refused _ _ (ap (λ (o : Outcome S). o.answer) q) ∙ ap (λ (o : Outcome S). record { answer = next_refused k num place; after = o.after }) q

  -- a list is always granted
  pub offering_given : (k : ℕ) (s : S) (es : Ears) → (vs : List ℕ) × ((offering_from offer k s es).answer ≡ given vs)
  unfolding offering_from
  offering_given k s [] = (k ∷ [], refl)
  offering_given k s (e ∷ es) =
      by_answer_lem (λ (o : Outcome S). (vs : List ℕ) × (o.answer ≡ given vs)) (offer s e).answer (λ vs q. offering_given (suc k) (offer s e).after es) (λ num place q. (_, refl))

  -- what the accepted ears lead to, where a refused ear leaves the session
  module _ (accept : S → List ℕ → S) (grants : (s : S) (e vs : List ℕ) → (offer s e).answer ≡ given vs → (offer s e).after ≡ accept s e)
      (refuses : (s : S) (e : List ℕ) (num place : ℕ) → (offer s e).answer ≡ refused num place → (offer s e).after ≡ s) where
    from : (k : ℕ) (s : S) (es : Ears) (vs : List ℕ) → (offering_from offer k s es).answer ≡ given vs
        → (k ≤ at vs 0) × (foldl accept s (take (at vs 0 - k) es) ≡ (offering_from offer k s es).after)
    unfolding offering_from
    from k s [] vs q = rw (← (given_values q)) (omega arith, ap (foldl accept s) (nothing (k - k)))
      where
        nothing : (n : ℕ) → take {A = List ℕ} n [] ≡ []
        nothing zero = refl
        nothing (suc n) = refl
    from k s (e ∷ es) vs q =
        by_answer_lem (λ (o : Outcome S). o.answer ≡ given vs → (k ≤ at vs 0) × (foldl accept s (take (at vs 0 - k) (e ∷ es)) ≡ o.after)) (offer s e).answer
        (λ ws g r.
        let (l, a) = from (suc k) (offer s e).after es vs r in
        let n : at vs 0 - k ≡ suc (at vs 0 - suc k) = omega arith in
        (omega arith, ap (λ (n : ℕ). foldl accept s (take n (e ∷ es))) n ∙ ap (λ (z : S). foldl accept z (take (at vs 0 - suc k) es)) (sym (grants s e ws g)) ∙ a))
        (λ num place g r.
        let n : at vs 0 ≡ k = ap (λ (l : List ℕ). at l 0) (sym (given_values r)) in
        (omega arith, ap (λ (n : ℕ). foldl accept s (take n (e ∷ es))) (let z : at vs 0 - k ≡ 0 = omega arith in z) ∙ sym (refuses s e num place g)))
        q

    pub offering_accepts : (s : S) (es : Ears) (vs : List ℕ) → (offering offer s es).answer ≡ given vs → foldl accept s (take (at vs 0) es) ≡ (offering offer s es).after
    offering_accepts s es vs q = ap (λ (n : ℕ). foldl accept s (take n es)) (let z : at vs 0 ≡ at vs 0 - 0 = omega arith in z) ∙ (from 0 s es vs q).1

  -- the session that it leaves is that of the single offers
  pub offering_single : (k : ℕ) (s : S) (es : Ears) → (offering_from offer k s es).after ≡ foldl (λ s e. (offer s e).after) s (offered offer s es)
  unfolding offering_from offered
  offering_single k s [] = refl
  offering_single k s (e ∷ es) = go (offer s e).answer (offering_single (suc k) (offer s e).after es)
    where
      go : (a : Answer) → (offering_from offer (suc k) (offer s e).after es).after ≡ foldl (λ s e. (offer s e).after) (offer s e).after (offered offer (offer s e).after es)
          → (by_answer a (offering_from offer (suc k) (offer s e).after es) (λ num place. record { answer = next_refused k num place; after = (offer s e).after })).after
          ≡ foldl (λ s e. (offer s e).after) s (by_answer a (e ∷ offered offer (offer s e).after es) (λ num place. e ∷ []))
      go (given vs) x = x
      go (refused num place) x = refl

-- what holds along single offers holds after a list, and what is answered alike is so for a list
module _ {S S' : Type 0} (offer : S → List ℕ → Outcome S) (offer' : S' → List ℕ → Outcome S') (R : S → S' → Type 0)
    (one : (s : S) (s' : S') (e : List ℕ) → R s s' → R (offer s e).after (offer' s' e).after × ((offer s e).answer ≡ (offer' s' e).answer)) where
  pub offering_alike : (k : ℕ) (s : S) (s' : S') (es : Ears) → R s s'
      → R (offering_from offer k s es).after (offering_from offer' k s' es).after × ((offering_from offer k s es).answer ≡ (offering_from offer' k s' es).answer)
  unfolding offering_from
  offering_alike k s s' [] r = (r, refl)
  offering_alike k s s' (e ∷ es) r =
      let (after, q) = one s s' e r in
      subst (λ (a : Answer). R (o (offer s e).answer).after (o' a).after × ((o (offer s e).answer).answer ≡ (o' a).answer)) q
      (go (offer s e).answer after (offering_alike (suc k) (offer s e).after (offer' s' e).after es after))
    where
      o : Answer → Outcome S
      o a = by_answer a (offering_from offer (suc k) (offer s e).after es) (λ num place. record { answer = next_refused k num place; after = (offer s e).after })

      o' : Answer → Outcome S'
      o' a = by_answer a (offering_from offer' (suc k) (offer' s' e).after es) (λ num place. record { answer = next_refused k num place; after = (offer' s' e).after })

      go : (a : Answer) → R (offer s e).after (offer' s' e).after
          → R (offering_from offer (suc k) (offer s e).after es).after (offering_from offer' (suc k) (offer' s' e).after es).after
          × ((offering_from offer (suc k) (offer s e).after es).answer ≡ (offering_from offer' (suc k) (offer' s' e).after es).answer)
          → R (o a).after (o' a).after × ((o a).answer ≡ (o' a).answer)
      go (given vs) x y = y
      go (refused num place) x y = (x, refl)

-- past k numbers
pub ears_past : (k : ℕ) (l : List ℕ) → ears_from k l ≡ ears_in (drop k l)
unfolding ears_from
ears_past zero l = refl
ears_past (suc k) [] = refl
ears_past (suc k) (x ∷ l) = ears_past k l

-- by a test
module _ {A : Type 0} {b : Bool} (x y : A) where
  cond_true : b ≡ true → cond b x y ≡ x
  cond_true q = ap (λ (b : Bool). cond b x y) q

  cond_false : b ≡ false → cond b x y ≡ y
  cond_false q = ap (λ (b : Bool). cond b x y) q

-- the first ear of a slice: its numbers come after their count; or the count is past the end
module _ (c : ℕ) (l : List ℕ) where
  pub ears_whole : c ≤ length l → ears_in (c ∷ l) ≡ take c l ∷ ears_in (drop c l)
  unfolding ears_from
  ears_whole h = cond_true _ _ (le-leb c (length l) h) ∙ ap (λ (es : Ears). take c l ∷ es) (ears_past c l)

  pub ears_past_end : length l < c → ears_in (c ∷ l) ≡ (c ∷ []) ∷ []
  unfolding ears_from
  ears_past_end h = cond_false _ _ (lt-leb c (length l) h)

-- after whole ears
reads_on : (es : Ears) (t : List ℕ) → ears_in (flat es ++ t) ≡ es ++ ears_in t
unfolding flat
reads_on [] t = refl
reads_on (e ∷ es) t =
    let rest = flat es ++ t in
    ap (λ (l : List ℕ). ears_in (length e ∷ l)) (append_assoc e (flat es) t)
    ∙ ears_whole (length e) (e ++ rest) (omega (arith, length-append e rest))
    ∙ rw (take_at e rest (length e) refl, drop_at e rest (length e) refl) (ap (λ (r : Ears). e ∷ r) (reads_on es t))

pub reads_ears : ReadsEars
unfolding ears_from
reads_ears =
    record {
      whole = λ es. ap ears_in (sym (append-nil (flat es))) ∙ reads_on es [] ∙ append-nil es;
      past = λ es c l h. reads_on es (c ∷ l) ∙ ap (λ (r : Ears). es ++ r) (ears_past_end c l h);
    }

-- one number is 7 for the judge, so a count past the end is; and so is none
module _ (net : Network) (es : Ears) (e : List ℕ) where
  too_few : length e < 2 → judge net es e ≡ refused 7 0
  unfolding judge verdict_by checked numbered ear_checks wrong_length
  too_few l = check_fail 7 _ _ (or_left _ _ (go (eqb (length es) 0)))
    where
      go : (b : Bool) → ltb (length e) (cond b 3 2) ≡ true
      go true = lt-ltb (length e) 3 (omega arith)
      go false = lt-ltb (length e) 2 l

module _ (net : Network) (es : Ears) where
  pub one_number_lem : (x : ℕ) → judge net es (x ∷ []) ≡ refused 7 0
  one_number_lem x = too_few net es (x ∷ []) (omega arith)

  pub no_number : judge net es [] ≡ refused 7 0
  no_number = too_few net es [] (omega arith)
