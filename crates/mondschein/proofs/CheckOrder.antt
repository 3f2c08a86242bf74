-- Note 3 of document 02: which answers the order of checks changes, of any marks (`only_moved`) and after accepted ears (`answers_changed`).
-- A used link has two born switches, and of a long ear one of them stands between the ends.
use mathlib.Core.Path.{◌≡◌, refl, sym, ap, ◌∙◌}
use mathlib.Core.Logic.{◌⊎◌, inl, inr, ⊎_elim}
use mathlib.Core.Bool.{Bool, true, false, not, cond}
use mathlib.Core.List.{List, [], ◌∷◌}
use Prim.Native.Nat.{ℕ, zero, suc, pred, ◌≤◌, ◌<◌}
use native.Mathlib.Omega.{arith}
use lib.Dec.{eqb}
use lib.ListN.{length, drop}
use borrow.Author.Tests.{ltb-false, ne_eqb, eq-eqb, not-true}
use Rattle.mondschein.specs.Network.{low, any, Network, at, holds, joins, passes, link_of, Ears, ear_at, born, trail, used, new_count}
use Rattle.mondschein.specs.Judge.{Answer, given, Check, refused, numbered, checked, ear_checks, check_order, wrong_length, used_already, wrong_cycle, unborn_end, born_between, verdict_by, verdict}
use Rattle.mondschein.specs.EmptyEar.{is_empty, entering, answer_to}
use Rattle.mondschein.specs.CheckOrder.{old_check_order, OnlyMoved, old_answer_to, LaterPast10, UsedLink, UnbornEnd, BornBetween, UsedLinkCase, UnbornEndCase, first_used, first_unborn, first_born, ChangedAnswers, AnswersChanged}
use Rattle.mondschein.proofs.Logic.{which, clash, less?, and_true, true_and, or_false}
use Rattle.mondschein.proofs.Search.{any_true, any_false}
use Rattle.mondschein.proofs.Links.{passes_held, trail_held, link_found}
use Rattle.mondschein.proofs.Checks.{never, before, without, Passes, AllPass, all_none, all_more, checked_append, checked_either, checked_given, checked_pass, checked_refused, checked_found, checked_without, append_refused}
use Rattle.mondschein.proofs.Passed.{all_joined, new_between, between_new, end_new, new_end}
use Rattle.mondschein.proofs.Births.{Passing, accepted_passing, ear_two, at_born}
use Rattle.mondschein.proofs.EmptyEar.{some_not_empty}

-- whatever is born and used
module _ (net : Network) (is_born is_used : ℕ → Bool) (is_first : Bool) (e : List ℕ) where
  pub only_moved : OnlyMoved net is_born is_used is_first e
  unfolding verdict_by numbered ear_checks holds any low without
  only_moved =
      record {
        none_between = none_between;
        accepts = λ vs. (λ q. sym (none_between (passes check_order refl q)) ∙ q, λ q. none_between (passes old_check_order refl q) ∙ q);
      }
    where
      none_between : ((k : ℕ) → k < length e → born_between is_born is_first e k ≡ false) → verdict net is_born is_used is_first e ≡ verdict_by old_check_order net is_born is_used is_first e
      none_between c =
          checked_without (ear_checks net is_born is_used is_first e) check_order _ 14 c
          ∙ sym (checked_without (ear_checks net is_born is_used is_first e) old_check_order _ 14 c)

      passes : (nums : List ℕ) {vs : List ℕ} → holds nums 14 ≡ true → verdict_by nums net is_born is_used is_first e ≡ given vs → (k : ℕ) → k < length e → born_between is_born is_first e k ≡ false
      passes nums h q = (checked_given (ear_checks net is_born is_used is_first e) nums _ _ q).0 14 h

-- the switches of a used link are born
used_born : (net : Network) (es : Ears) → Passing net es → (l x y : ℕ) → used net es l ≡ true → joins net l x y ≡ true → (born es x ≡ true) × (born es y ≡ true)
unfolding used
used_born net es acc l x y u j =
    let (i, b, t) = any_true (λ i. passes net (trail (eqb i 0) (ear_at es i)) l) (length es) u in
    let (h, h') = passes_held net _ l x y t j in
    let some : 0 < length (ear_at es i) = omega (arith, ear_two net es acc i b) in
    (at_born es x i b (trail_held (eqb i 0) (ear_at es i) x some h), at_born es y i b (trail_held (eqb i 0) (ear_at es i) y some h'))

-- a later ear
module _ (net : Network) (es : Ears) (acc : Passing net es) (e : List ℕ) where
  abbrev cs : List Check
  cs = ear_checks net (born es) (used net es) false e

  abbrev To10 : Type 0
  To10 = AllPass cs (7 ∷ 8 ∷ 9 ∷ 10 ∷ [])

  -- what 7 to 10 refuse is refused in either order
  refused_alike : (num place : ℕ) → verdict_by (7 ∷ 8 ∷ 9 ∷ 10 ∷ []) net (born es) (used net es) false e ≡ refused num place
      → verdict net (born es) (used net es) false e ≡ verdict_by old_check_order net (born es) (used net es) false e
  unfolding verdict_by
  refused_alike num place q =
      append_refused cs (7 ∷ 8 ∷ 9 ∷ 10 ∷ []) (drop 4 check_order) _ _ num place q ∙ sym (append_refused cs (7 ∷ 8 ∷ 9 ∷ 10 ∷ []) (drop 4 old_check_order) _ _ num place q)

  past10 : LaterPast10 net es e → To10
  unfolding verdict_by
  past10 (_, q) = (checked_given cs (7 ∷ 8 ∷ 9 ∷ 10 ∷ []) _ _ q).0

  -- a long one over a used link runs through a born switch
  born_between_lem : Passes cs 10 → 3 ≤ length e → UsedLink net es e → BornBetween net es e
  born_between_lem c three (zero, l, u) = (1, omega arith, omega arith, (used_born net es acc _ _ _ u (link_found net _ _ (all_joined net (born es) (used net es) false e c 0 l)).1).1)
  born_between_lem c three (suc k, l, u) = (suc k, omega arith, l, (used_born net es acc _ _ _ u (link_found net _ _ (all_joined net (born es) (used net es) false e c (suc k) l)).1).0)

  -- what the tests of 11, 13 and 14 find
  between_found : BornBetween net es e → (k : ℕ) × (k < length e) × (born_between (born es) false e k ≡ true)
  unfolding born_between
  between_found (k, l, m, t) = (k, omega arith, true_and _ _ (between_new (length e) k l m) t)

  found_between : (k : ℕ) → k < length e → born_between (born es) false e k ≡ true → BornBetween net es e
  unfolding born_between
  found_between k l t = let (f, h) = and_true _ _ t in let (m, m') = new_between (length e) k f in (k, m, m', h)

  end_found : UnbornEnd net es e → 2 ≤ length e → (k : ℕ) × (k < length e) × (unborn_end (born es) false e k ≡ true)
  unfolding unborn_end
  end_found (inl f) two = (0, omega arith, true_and _ _ (ap not (new_end (length e) 0 (inl refl))) (ap not f))
  end_found (inr f) two = (pred (length e), omega arith, true_and _ _ (ap not (new_end (length e) _ (inr refl))) (ap not f))

  found_end : (k : ℕ) → k < length e → unborn_end (born es) false e k ≡ true → UnbornEnd net es e
  unfolding unborn_end
  found_end k l t =
      let (f, h) = and_true _ _ t in
      ⊎_elim
      (λ (q : k ≡ 0). inl (ap (λ (j : ℕ). born es (at e j)) (sym q) ∙ not-true _ h))
      (λ (q : k ≡ pred (length e)). inr (ap (λ (j : ℕ). born es (at e j)) (sym q) ∙ not-true _ h))
      (end_new (length e) k l (not-true _ f))

  -- the new answer, and the two old ones
  new14 : To10 → BornBetween net es e → verdict_by check_order net (born es) (used net es) false e ≡ refused 14 (first_born net es e)
  unfolding verdict_by numbered ear_checks holds any low before
  new14 c w = let (k, l, t) = between_found w in checked_found cs check_order _ 14 refl c k l t

  old11 : To10 → UsedLink net es e → verdict_by old_check_order net (born es) (used net es) false e ≡ refused 11 (first_used net es e)
  unfolding verdict_by numbered ear_checks holds any low before used_already used
  old11 c (k, l, t) = checked_found cs old_check_order _ 11 refl c k (let h : k < pred (length e) = omega arith in h) t

  -- where no link is used, what 11, 12 and 13 say
  module _ (c : To10) (free : UsedLink net es e → ⊥) where
    unused : Passes cs 11
    unfolding numbered ear_checks used_already
    unused k l = ⊎_elim (λ t. absurd (free (k, inside k l, t))) (λ f. f) (which (used net es (link_of net (at e k) (at e (suc k)))))
      where
        inside : (k : ℕ) → k < pred (length e) → suc k < length e
        inside k m = omega arith

    no_cycle : Passes cs 12
    unfolding numbered ear_checks wrong_cycle
    no_cycle k l = refl

    from11 : (nums : List ℕ) (after : Answer) → checked cs (7 ∷ 8 ∷ 9 ∷ 10 ∷ nums) after ≡ checked cs nums after
    from11 nums after = checked_append cs (7 ∷ 8 ∷ 9 ∷ 10 ∷ []) nums after ∙ checked_pass cs (7 ∷ 8 ∷ 9 ∷ 10 ∷ []) _ c

    old13 : UnbornEnd net es e → 2 ≤ length e → verdict_by old_check_order net (born es) (used net es) false e ≡ refused 13 (first_unborn net es e)
    unfolding verdict_by numbered ear_checks holds any low before
    old13 w two =
        let (k, l, t) = end_found w two in
        from11 (drop 4 old_check_order) _
        ∙ checked_found cs (drop 4 old_check_order) _ 13 refl (all_more cs 11 (12 ∷ []) unused (all_more cs 12 [] no_cycle (all_none cs))) k l t

    old14 : (UnbornEnd net es e → ⊥) → BornBetween net es e → verdict_by old_check_order net (born es) (used net es) false e ≡ refused 14 (first_born net es e)
    unfolding verdict_by numbered ear_checks holds any low before
    old14 ends w =
        let (k, l, t) = between_found w in
        from11 (drop 4 old_check_order) _
        ∙ checked_found cs (drop 4 old_check_order) _ 14 refl
        (all_more cs 11 (12 ∷ 13 ∷ []) unused (all_more cs 12 (13 ∷ []) no_cycle (all_more cs 13 [] (λ j m. ⊎_elim (λ h. absurd (ends (found_end j m h))) (λ f. f) (which (unborn_end (born es) false e j))) (all_none cs)))) k l t

  -- an ear that passes neither, or 7 to 10
  to10 : (verdict_by (7 ∷ 8 ∷ 9 ∷ 10 ∷ []) net (born es) (used net es) false e ≡ given (new_count false (length e) ∷ []))
      ⊎ ((num place : ℕ) × (verdict_by (7 ∷ 8 ∷ 9 ∷ 10 ∷ []) net (born es) (used net es) false e ≡ refused num place))
  unfolding verdict_by
  to10 =
      checked_either cs (λ a. (a ≡ given (new_count false (length e) ∷ [])) ⊎ ((num place : ℕ) × (a ≡ refused num place))) (7 ∷ 8 ∷ 9 ∷ 10 ∷ []) _
      (λ num k _. inr (_, k, refl))
      (inl refl)

  past10_same : LaterPast10 net es e → BornBetween net es e → (UsedLinkCase net es e → ⊥) → (UnbornEndCase net es e → ⊥)
      → verdict net (born es) (used net es) false e ≡ verdict_by old_check_order net (born es) (used net es) false e
  past10_same past w long unborn = new14 c w ∙ sym (old14 c free (λ ends. unborn (past, ends, w, free)) w)
    where
      c : To10
      c = past10 past

      free : UsedLink net es e → ⊥
      free u = let (k, l, m, _) = w in long (past, (let h : 3 ≤ length e = omega arith in h), u)

  same : 0 < length es → (UsedLinkCase net es e → ⊥) → (UnbornEndCase net es e → ⊥)
      → verdict net (born es) (used net es) false e ≡ verdict_by old_check_order net (born es) (used net es) false e
  unfolding verdict_by
  same some long unborn =
      ⊎_elim
      (λ t.
      let (k, l, h) = any_true (born_between (born es) false e) (length e) t in
      ⊎_elim
      (λ q. past10_same (some, q) (found_between k l h) long unborn)
      (λ (num, place, q). refused_alike num place q)
      to10)
      (λ f. (only_moved net (born es) (used net es) false e).none_between (any_false (born_between (born es) false e) (length e) f))
      (which (any (born_between (born es) false e) (length e)))

  -- 11 is given for two numbers only
  two_numbers : (place : ℕ) → verdict net (born es) (used net es) false e ≡ refused 11 place → length e ≡ 2
  unfolding verdict_by numbered ear_checks holds any low before wrong_length used_already
  two_numbers place q =
      let f = checked_refused cs check_order _ 11 place q in
      let one : 0 < 1 = omega arith in
      let two : 2 ≤ length e = ltb-false _ _ (or_false _ _ (f.earlier 7 refl 0 one)).0 in
      let inside : (k : ℕ) → k < pred (length e) → suc k < length e = λ k l. omega arith in
      ⊎_elim
      (λ (three : 2 < length e). let (k, l, t) = between_found (born_between_lem (f.earlier 10 refl) three (place, inside place f.below, f.bad)) in clash t (f.earlier 14 refl k l))
      (λ (h : length e ≤ 2). omega arith)
      (less? 2 (length e))

-- a first ear: nothing is born, and nothing used
module _ (net : Network) (es : Ears) (none : length es ≡ 0) (e : List ℕ) where
  same_first : verdict net (born es) (used net es) true e ≡ verdict_by old_check_order net (born es) (used net es) true e
  unfolding born_between
  same_first = (only_moved net (born es) (used net es) true e).none_between (λ k l. refl)

  never_11 : {X : Type 0} (place : ℕ) → verdict net (born es) (used net es) true e ≡ refused 11 place → X
  unfolding verdict_by numbered ear_checks used_already used
  never_11 place q =
      let (i, l, _) = any_true (λ i. passes net (trail (eqb i 0) (ear_at es i)) (link_of net (at e place) (at e (suc place)))) (length es) (checked_refused (ear_checks net (born es) (used net es) true e) check_order _ 11 place q).bad in
      absurd (omega arith)

-- what an offered ear is answered in an order, the first or a later one
module _ (net : Network) (es : Ears) (e : List ℕ) where
  answer_by : List ℕ → Bool → Answer
  answer_by nums b = cond (is_empty b e) (given (0 ∷ [])) (verdict_by nums net (born es) (used net es) b e)

  judged_by : (nums : List ℕ) → 0 < length e → answer_by nums false ≡ verdict_by nums net (born es) (used net es) false e
  unfolding answer_by
  judged_by nums l = ap (λ (c : Bool). cond c (given (0 ∷ [])) (verdict_by nums net (born es) (used net es) false e)) (some_not_empty false e l)

  alike : (b : Bool) → verdict net (born es) (used net es) b e ≡ verdict_by old_check_order net (born es) (used net es) b e → answer_by check_order b ≡ answer_by old_check_order b
  unfolding answer_by
  alike b q = ap (cond (is_empty b e) (given (0 ∷ []))) q

  by_verdict : (b : Bool) (num place : ℕ) → answer_by check_order b ≡ refused num place → verdict net (born es) (used net es) b e ≡ refused num place
  unfolding answer_by
  by_verdict b num place = go (is_empty b e)
    where
      go : (c : Bool) → cond c (given (0 ∷ [])) (verdict net (born es) (used net es) b e) ≡ refused num place → verdict net (born es) (used net es) b e ≡ refused num place
      go true q = never (sym q)
      go false q = q

module _ (net : Network) (es : Ears) (e : List ℕ) (acc : Passing net es) (some : 0 < length es) where
  not_first : eqb (length es) 0 ≡ false
  not_first = ne_eqb (length es) 0 (λ z. omega arith)

  as_later : (nums : List ℕ) → 0 < length e → answer_by net es e nums (eqb (length es) 0) ≡ verdict_by nums net (born es) (used net es) false e
  as_later nums l = ap (answer_by net es e nums) not_first ∙ judged_by net es e nums l

  changed_later : ChangedAnswers net es e (answer_to net es e)
  unfolding answer_to entering old_answer_to answer_by holds any low
  changed_later =
      record {
        from11 = λ (past, three, u).
            let c = past10 net es acc e past in
            let l : 0 < length e = omega arith in
            (as_later old_check_order l ∙ old11 net es acc e c u, as_later check_order l ∙ new14 net es acc e c (born_between_lem net es acc e (c 10 refl) three u));
        from13 = λ (past, ends, w, free).
            let c = past10 net es acc e past in
            let (_, k, m, _) = w in
            let l : 0 < length e = omega arith in
            let two : 2 ≤ length e = omega arith in
            (as_later old_check_order l ∙ old13 net es acc e c free ends two, as_later check_order l ∙ new14 net es acc e c w);
        others = λ long unborn.
            ap (answer_by net es e check_order) not_first ∙ alike net es e false (same net es acc e some long unborn) ∙ sym (ap (answer_by net es e old_check_order) not_first);
        only11 = λ place q. two_numbers net es acc e place (by_verdict net es e false 11 place (sym (ap (answer_by net es e check_order) not_first) ∙ q));
      }

module _ (net : Network) (es : Ears) (e : List ℕ) (none : length es ≡ 0) where
  is_first_lem : eqb (length es) 0 ≡ true
  is_first_lem = eq-eqb (length es) 0 none

  changed_first : ChangedAnswers net es e (answer_to net es e)
  unfolding answer_to entering old_answer_to answer_by
  changed_first =
      record {
        from11 = λ h. absurd (let l = h.0.0 in omega arith);
        from13 = λ h. absurd (let l = h.0.0 in omega arith);
        others = λ _ _.
            ap (answer_by net es e check_order) is_first_lem ∙ alike net es e true (same_first net es none e) ∙ sym (ap (answer_by net es e old_check_order) is_first_lem);
        only11 = λ place q. never_11 net es none e place (by_verdict net es e true 11 place (sym (ap (answer_by net es e check_order) is_first_lem) ∙ q));
      }

pub answers_changed : AnswersChanged
answers_changed net es e accepted = ⊎_elim (changed_later net es e (accepted_passing net es accepted)) (λ h. changed_first net es e (omega arith)) (less? 0 (length es))
