-- An ear passes the checks exactly when a record of facts holds of its switches and links, one fact or two for each check.
-- The order in which they are asked does not matter.
use mathlib.Core.Path.{◌≡◌, refl, sym, ap, ◌∙◌}
use mathlib.Core.Logic.{◌⊎◌, inl, inr, ⊎_elim, ◌≢◌}
use mathlib.Core.Bool.{Bool, true, false, not, ◌&&◌, ◌||◌, cond}
use mathlib.Core.List.{List, [], ◌∷◌}
use Prim.Native.Nat.{ℕ, suc, pred, ◌≤◌, ◌<◌}
use native.Mathlib.Omega.{arith}
use lib.Dec.{eqb, ltb}
use lib.ListN.{length}
use borrow.Author.Tests.{ltb-true, ltb-false, lt-ltb, le-ltb, leb-false, lt-leb, eqb-true, eqb-false, eq-eqb, ne_eqb, not-true, not-false}
use Rattle.mondschein.specs.Network.{low, any, Network, at, Simple, holds, joined, link_of, Ears, born, used, is_new, new_count}
use Rattle.mondschein.specs.Judge.{given, numbered, check_order, ear_checks, wrong_length, too_large, repeated, not_joined, used_already, wrong_cycle, unborn_end, born_between, other_new, other_unborn, root_end, last_misplaced, none_unborn, verdict_by, verdict}
use Rattle.mondschein.proofs.Logic.{clash, less?, same?, trichotomy, and_true, true_and, or_false, and_false, false_and, false_or}
use Rattle.mondschein.proofs.Search.{any_true, any_false, true_any, false_any}
use Rattle.mondschein.proofs.Checks.{Clear, Passes, passes_none, passes_more, checked_given, checked_pass}

-- what the checks say of an ear that passes them all, one fact or two for each
pub record PassedBy (net : Network) (is_born is_used : ℕ → Bool) (b : Bool) (e : List ℕ) : Type 0 where
  pub at_least : cond b 3 2 ≤ length e
  pub fits : length e ≤ net.n
  pub below : (k : ℕ) → k < length e → at e k < net.n
  pub simple : Simple e
  pub linked : (k : ℕ) → suc k < length e → joined net (at e k) (at e (suc k)) ≡ true
  pub unused : (k : ℕ) → suc k < length e → is_used (link_of net (at e k) (at e (suc k))) ≡ false
  pub cycle : b ≡ true → (at e 0 ≡ net.root) × (at e (pred (length e)) ≡ net.first)
  pub ends : b ≡ false → (is_born (at e 0) ≡ true) × (is_born (at e (pred (length e))) ≡ true)
  pub inner : b ≡ false → (k : ℕ) → 0 < k → suc k < length e → is_born (at e k) ≡ false
  pub alone : (k : ℕ) → k < length e → is_new b (length e) k ≡ true → at e k ≡ net.last
      → ((j : ℕ) → j < length e → is_new b (length e) j ≡ true → j ≡ k)
      × ((x : ℕ) → x < net.n → x ≢ net.last → (is_born x || holds e x) ≡ true)
      × (at e 0 ≢ net.root) × (at e (pred (length e)) ≢ net.root)
  pub neighbour : (k : ℕ) → k < length e → is_new b (length e) k ≡ true → at e k ≢ net.last
      → (x : ℕ) × (x < net.n) × (joined net (at e k) x ≡ true) × (is_born x ≡ false) × (holds e x ≡ false)

-- of an ear offered after the ears es
abbrev pub Passed : Network → Ears → Bool → List ℕ → Type 0
Passed net es b e = PassedBy net (born es) (used net es) b e

-- the new indices of a later ear are those between its ends
pub new_between : (c k : ℕ) → is_new false c k ≡ true → (0 < k) × (suc k < c)
unfolding is_new
new_between c k h = let (a, b) = and_true (ltb 0 k) _ h in (ltb-true _ _ a, ltb-true _ _ b)

pub between_new : (c k : ℕ) → 0 < k → suc k < c → is_new false c k ≡ true
unfolding is_new
between_new c k l m = true_and _ _ (lt-ltb 0 k l) (lt-ltb (suc k) c m)

pub end_new : (c k : ℕ) → k < c → is_new false c k ≡ false → (k ≡ 0) ⊎ (k ≡ pred c)
end_new c k l f =
    ⊎_elim
    (λ (m : 0 < k). ⊎_elim (λ m'. clash (between_new c k m m') f) (λ (m' : c ≤ suc k). inr (omega arith)) (less? (suc k) c))
    (λ m. inl (omega arith))
    (less? 0 k)

pub new_end : (c k : ℕ) → (k ≡ 0) ⊎ (k ≡ pred c) → is_new false c k ≡ false
unfolding is_new
new_end c k (inl z) = false_and (ltb 0 k) _ (λ t. absurd (omega (arith, ltb-true 0 k t)))
new_end c k (inr z) = false_and (ltb 0 k) _ (λ t. le-ltb (suc k) c (omega arith))

module _ (net : Network) (is_born is_used : ℕ → Bool) (b : Bool) (e : List ℕ) where
  -- what 8 and 10 say where they pass
  pub all_below : Passes (ear_checks net is_born is_used b e) 8 → (k : ℕ) → k < length e → at e k < net.n
  unfolding numbered ear_checks too_large
  all_below c k l = leb-false net.n (at e k) (c k l)

  pub all_joined : Passes (ear_checks net is_born is_used b e) 10 → (k : ℕ) → suc k < length e → joined net (at e k) (at e (suc k)) ≡ true
  unfolding numbered ear_checks not_joined
  all_joined c k l = not-false _ (c k (let h : k < pred (length e) = omega arith in h))

  -- 16 does not ask last
  last_exempt : (k : ℕ) → at e k ≡ net.last → none_unborn net is_born b e k ≡ false
  unfolding none_unborn
  last_exempt k q = false_and (is_new b (length e) k) _ (λ _. false_and (not (eqb (at e k) net.last)) _ (λ d. clash (eq-eqb (at e k) net.last q) (not-true _ d)))

  pub given_passed : (vs : List ℕ) → verdict net is_born is_used b e ≡ given vs → PassedBy net is_born is_used b e
  unfolding verdict_by numbered ear_checks holds any low wrong_length too_large repeated not_joined used_already wrong_cycle unborn_end born_between last_misplaced other_new other_unborn root_end none_unborn
  given_passed vs q =
      let (c, _) = checked_given (ear_checks net is_born is_used b e) check_order _ vs q in
      let one : 0 < 1 = omega arith in
      let pair : (k : ℕ) → suc k < length e → k < pred (length e) = λ k l. omega arith in
      let (len, fit) = or_false (ltb (length e) (cond b 3 2)) _ (c 7 refl 0 one) in
      let at_least : cond b 3 2 ≤ length e = ltb-false _ _ len in
      let two : 2 ≤ length e = enough b at_least in
      record {
        at_least = at_least;
        fits = ltb-false _ _ fit;
        below = all_below (c 8 refl);
        simple = λ j k l m h.
            ⊎_elim
            (λ w. absurd (eqb-false (at e j) (at e k) (any_false _ k (c 9 refl k m) j w) h))
            (⊎_elim (λ w. absurd (eqb-false (at e k) (at e j) (any_false _ j (c 9 refl j l) k w) (sym h))) (λ w. w))
            (trichotomy j k);
        linked = all_joined (c 10 refl);
        unused = λ k l. c 11 refl k (pair k l);
        cycle = λ z. let (x, y) = and_true _ _ (not-false _ (and_false b _ (c 12 refl 0 one) z)) in (eqb-true _ _ x, eqb-true _ _ y);
        ends = λ z. (old (c 13 refl) z 0 (omega arith) (inl refl), old (c 13 refl) z (pred (length e)) (omega arith) (inr refl));
        inner = λ z k l m. and_false _ _ (and_false (not b) _ (c 14 refl k (let h : k < length e = omega arith in h)) (ap not z)) (ap (λ (f : Bool). is_new f (length e) k) z ∙ between_new (length e) k l m);
        alone = λ k l f h.
            let early = and_false _ _ (and_false _ _ (c 15 refl k l) f) (eq-eqb (at e k) net.last h) in
            let (c1, c') = or_false (other_new b (length e) k) (other_unborn net.n net.last is_born e || root_end net.root e) early in
            let (c2, c'') = or_false (other_unborn net.n net.last is_born e) (root_end net.root e) c' in
            let (c3, c4) = or_false _ _ c'' in (
              λ j m g. eqb-true j k (not-false _ (and_false _ _ (any_false (λ i. is_new b (length e) i && not (eqb i k)) (length e) c1 j m) g)),
              λ x m d. not-false _ (and_false _ _ (any_false (λ y. not (eqb y net.last) && not (is_born y || holds e y)) net.n c2 x m) (ap not (ne_eqb x net.last d))),
              eqb-false _ _ c3,
              eqb-false _ _ c4,
            );
        neighbour = λ k l f d.
            let kept = and_false _ _ (and_false _ _ (c 16 refl k l) f) (ap not (ne_eqb (at e k) net.last d)) in
            let (x, m, t) = any_true _ net.n (not-false _ kept) in
            let (j, u) = and_true _ _ t in
            let (g, h) = or_false _ _ (not-true _ u) in
            (x, m, j, g, h);
      }
    where
      enough : (b : Bool) → cond b 3 2 ≤ length e → 2 ≤ length e
      enough true l = omega arith
      enough false l = l

      old : Clear (length e) (unborn_end is_born b e) → b ≡ false → (k : ℕ) → k < length e → (k ≡ 0) ⊎ (k ≡ pred (length e)) → is_born (at e k) ≡ true
      old c z k l w =
          not-false _
          (and_false _ _ (and_false (not b) _ (c k l) (ap not z)) (ap not (ap (λ (f : Bool). is_new f (length e) k) z ∙ new_end (length e) k w)))

  passed_each : PassedBy net is_born is_used b e → (num : ℕ) → Passes (ear_checks net is_born is_used b e) num
  unfolding ear_checks wrong_length too_large repeated not_joined used_already wrong_cycle unborn_end born_between last_misplaced other_new other_unborn root_end none_unborn
  passed_each p =
      passes_more _ _ (λ k l. false_or _ _ (le-ltb _ _ p.at_least) (le-ltb _ _ p.fits))
      (passes_more _ _ (λ k l. lt-leb _ _ (p.below k l))
      (passes_more _ _ (λ k l. false_any (λ j. eqb (at e j) (at e k)) k (λ j m. ne_eqb _ _ (λ q. let z = p.simple j k (omega arith) l q in omega arith)))
      (passes_more _ _ (λ k l. ap not (p.linked k (omega arith)))
      (passes_more _ _ (λ k l. p.unused k (omega arith))
      (passes_more _ _ (λ k l. false_and b _ (λ z. ap not (true_and _ _ (eq-eqb _ _ (p.cycle z).0) (eq-eqb _ _ (p.cycle z).1))))
      (passes_more _ _ (λ k l. false_and (not b) _ (λ z. false_and (not (is_new b (length e) k)) _ (λ f. ap not (old (not-true b z) k l (not-true _ f)))))
      (passes_more _ _ (λ k l. false_and (not b) _ (λ z. false_and (is_new b (length e) k) _ (λ t. young (not-true b z) k t)))
      (passes_more _ _ (λ k l. false_and (is_new b (length e) k) _ (λ f. false_and (eqb (at e k) net.last) _ (λ q. last_free k l f (eqb-true _ _ q))))
      (passes_more _ _ (λ k l. ⊎_elim (last_exempt k) (λ d. false_and (is_new b (length e) k) _ (λ f. false_and (not (eqb (at e k) net.last)) _ (λ _. ap not (found k l f d)))) (same? (at e k) net.last))
      (passes_none))))))))))
    where
      old : b ≡ false → (k : ℕ) → k < length e → is_new b (length e) k ≡ false → is_born (at e k) ≡ true
      old z k l f =
          ⊎_elim
          (λ (w : k ≡ 0). ap (λ (j : ℕ). is_born (at e j)) w ∙ (p.ends z).0)
          (λ (w : k ≡ pred (length e)). ap (λ (j : ℕ). is_born (at e j)) w ∙ (p.ends z).1)
          (end_new (length e) k l (ap (λ (c : Bool). is_new c (length e) k) (sym z) ∙ f))

      young : b ≡ false → (k : ℕ) → is_new b (length e) k ≡ true → is_born (at e k) ≡ false
      young z k t = let (l, m) = new_between (length e) k (ap (λ (c : Bool). is_new c (length e) k) (sym z) ∙ t) in p.inner z k l m

      last_free : (k : ℕ) → k < length e → is_new b (length e) k ≡ true → at e k ≡ net.last
          → (other_new b (length e) k || (other_unborn net.n net.last is_born e || root_end net.root e)) ≡ false
      last_free k l f q =
          let (only, all, r, r') = p.alone k l f q in
          false_or _ _
          (false_any (λ j. is_new b (length e) j && not (eqb j k)) (length e) (λ j m. false_and (is_new b (length e) j) _ (λ g. ap not (eq-eqb j k (only j m g)))))
          (false_or _ _
          (false_any (λ x. not (eqb x net.last) && not (is_born x || holds e x)) net.n (λ x m. false_and (not (eqb x net.last)) _ (λ d. ap not (all x m (eqb-false _ _ (not-true _ d))))))
          (false_or _ _ (ne_eqb _ _ r) (ne_eqb _ _ r')))

      found : (k : ℕ) → k < length e → is_new b (length e) k ≡ true → at e k ≢ net.last → any (λ x. joined net (at e k) x && not (is_born x || holds e x)) net.n ≡ true
      found k l f d =
          let (x, m, j, u, v) = p.neighbour k l f d in
          true_any (λ x. joined net (at e k) x && not (is_born x || holds e x)) net.n x m (true_and _ _ j (ap not (false_or _ _ u v)))

  pub passed_given : PassedBy net is_born is_used b e → verdict net is_born is_used b e ≡ given (new_count b (length e) ∷ [])
  unfolding verdict_by
  passed_given p = checked_pass (ear_checks net is_born is_used b e) check_order _ (λ num _. passed_each p num)
