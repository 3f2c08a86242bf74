-- Laws of the empty ear: what an offered ear is answered and adds, by whether it is empty; that its short ears are accepted one after
-- another, take the leftover links and no other, and change nothing else; and that equivalent lists take the same.
use mathlib.Core.Path.{◌≡◌, refl, sym, ap, ap₂, ◌∙◌, subst}
use mathlib.Core.Logic.{◌⊎◌, inl, inr, ⊎_elim}
use mathlib.Core.Bool.{Bool, true, false, not, ◌&&◌, ◌||◌, cond}
use mathlib.Core.List.{List, [], ◌∷◌, ◌++◌, append_assoc, append-nil}
use Prim.Native.Nat.{ℕ, zero, suc, ◌≤◌, ◌<◌}
use native.Mathlib.Omega.{arith}
use lib.Dec.{eqb, ltb}
use lib.ListN.{length, take, length-append, get_or-append}
use lib.Seq.{get_or_at, take-append-le, take_at}
use borrow.Author.Tests.{lt-ltb, le-ltb, eq-eqb, ne_eqb, not-true}
use Rattle.mondschein.specs.Network.{low, any, Network, at, holds, size, former, latter, joins, passes, link_of, Proper, Ears, ear_at, born, trail, used, new_switches, long_ears, long_birth}
use Rattle.mondschein.specs.Judge.{given, refused, verdict, judge, Accepted}
use Rattle.mondschein.specs.EmptyEar.{left_over, short_ears, is_empty, entering, answer_to, written_out, entered, Unchanged, TakesLeftOver, LeftOver}
use Rattle.mondschein.proofs.Logic.{less?, trichotomy, and_true, false_and, or_not}
use Rattle.mondschein.proofs.Search.{any_suc, count_none}
use Rattle.mondschein.proofs.Lists.{out_holds}
use Rattle.mondschein.proofs.Links.{adjacent_joined, link_unique, link_is}
use Rattle.mondschein.proofs.Passed.{Passed}
use Rattle.mondschein.proofs.Short.{short_given}
use Rattle.mondschein.proofs.WholeList.{no_number, one_number_lem}
use Rattle.mondschein.proofs.Births.{born_snoc, used_snoc, long_snoc, long_birth_snoc, accepted_snoc}
use Rattle.mondschein.proofs.Counts.{judge_passed, judge_count}
use Rattle.mondschein.proofs.SameTables.{SameTables}
use Rattle.mondschein.proofs.Closing.{used_closing}
use Rattle.mondschein.proofs.Rules.{short_ear}

-- the first ear is not empty, nor is one with a number
first_not_empty : (e : List ℕ) → is_empty true e ≡ false
unfolding is_empty
first_not_empty e = refl

pub some_not_empty : (b : Bool) (e : List ℕ) → 0 < length e → is_empty b e ≡ false
unfolding is_empty
some_not_empty b e l = false_and (not b) _ (λ _. ne_eqb (length e) 0 (λ z. omega arith))

module _ (net : Network) (es : Ears) where
  -- an empty ear is granted; any other is judged, and added as it is
  module _ (e : List ℕ) where
    pub answer_granted : is_empty (eqb (length es) 0) e ≡ true → answer_to net es e ≡ given (0 ∷ [])
    unfolding answer_to entering
    answer_granted t = rw t

    pub answer_judge : is_empty (eqb (length es) 0) e ≡ false → answer_to net es e ≡ judge net es e
    unfolding answer_to entering judge
    answer_judge f = rw f

    pub entered_itself : is_empty (eqb (length es) 0) e ≡ false → entered net es e ≡ es ++ (e ∷ [])
    unfolding written_out
    entered_itself f = rw f

  answer_some : (e : List ℕ) → 0 < length e → answer_to net es e ≡ judge net es e
  answer_some e l = answer_judge e (some_not_empty (eqb (length es) 0) e l)

  -- so is one that the judge accepts
  module _ (e vs : List ℕ) (q : judge net es e ≡ given vs) where
    accepted_some : 0 < length e
    accepted_some = go (eqb (length es) 0) (judge_passed net es e vs q)
      where
        go : (b : Bool) → Passed net es b e → 0 < length e
        go true p = omega (arith, p.at_least)
        go false p = omega (arith, p.at_least)

    pub judged_not_empty : is_empty (eqb (length es) 0) e ≡ false
    judged_not_empty = some_not_empty (eqb (length es) 0) e accepted_some

    pub answer_judged : answer_to net es e ≡ given vs
    answer_judged = answer_judge e judged_not_empty ∙ q

    pub entered_judged : entered net es e ≡ es ++ (e ∷ [])
    entered_judged = entered_itself e judged_not_empty

  -- one number alone is 7
  pub answer_one : (x : ℕ) → answer_to net es (x ∷ []) ≡ refused 7 0
  answer_one x = answer_some (x ∷ []) (omega arith) ∙ one_number_lem net es x

  -- one with no number is the first, and 7; or it is empty
  answer_first : length es ≡ 0 → answer_to net es [] ≡ judge net es []
  answer_first z = answer_judge [] (ap (λ (b : Bool). is_empty b []) (eq-eqb (length es) 0 z) ∙ first_not_empty [])

  pub answer_none : length es ≡ 0 → answer_to net es [] ≡ refused 7 0
  answer_none z = answer_first z ∙ no_number net es

  module _ (some : 0 < length es) where
    pub none_empty : is_empty (eqb (length es) 0) [] ≡ true
    unfolding is_empty
    none_empty = rw (ne_eqb (length es) 0 (λ z. omega arith))

    pub answer_empty : answer_to net es [] ≡ given (0 ∷ [])
    answer_empty = answer_granted [] none_empty

    pub written_empty : written_out net es [] ≡ short_ears net (born es) (used net es) (size net)
    unfolding written_out
    written_empty = rw none_empty

  -- an accepted ear was accepted by the judge, or is empty
  pub answer_cases : (e vs : List ℕ) → answer_to net es e ≡ given vs → (judge net es e ≡ given vs) ⊎ ((e ≡ []) × (0 < length es) × (vs ≡ 0 ∷ []))
  answer_cases [] vs q = ⊎_elim (λ l. inr (refl, l, let z = answer_empty l in cc)) (λ (l : length es ≤ 0). inl (sym (answer_first (omega arith)) ∙ q)) (less? 0 (length es))
  answer_cases (x ∷ e) vs q = inl (sym (answer_some (x ∷ e) (omega arith)) ∙ q)

  -- it gives the number of switches that it holds and no earlier ear holds
  pub answer_count : (e vs : List ℕ) → answer_to net es e ≡ given vs → vs ≡ new_switches net es e ∷ []
  unfolding new_switches
  answer_count e vs q = ⊎_elim (judge_count net es e vs) (λ (z, l, v). v ∙ ap (λ (k : ℕ). k ∷ []) (sym (ap (new_switches net es) z ∙ none))) (answer_cases e vs q)
    where
      none : new_switches net es [] ≡ 0
      none = count_none (λ x. holds [] x && not (born es x)) net.n (λ x m. ap (λ (b : Bool). b && not (born es x)) (out_holds [] x (λ (k, l, e). omega arith)))

-- a list with what is unchanged in another, and in the next
unchanged_on : (net : Network) (es ds cs : Ears) → Unchanged net es ds → Unchanged net ds cs → Unchanged net es cs
unchanged_on net es ds cs u w =
    record {
      borns = λ v. w.borns v ∙ u.borns v;
      births = λ v b. w.births v (u.borns v ∙ b) ∙ u.births v b;
      longs = w.longs ∙ u.longs;
      long_births = λ v. w.long_births v ∙ u.long_births v;
      orders = w.orders ∙ u.orders;
      firsts = λ v b. w.firsts v (u.borns v ∙ b) ∙ u.firsts v b;
      seconds = λ v b. w.seconds v (u.borns v ∙ b) ∙ u.seconds v b;
    }

-- what is unchanged has the same tables
pub same_unchanged : (net : Network) (es ds : Ears) → Unchanged net es ds → SameTables net es ds
same_unchanged net es ds u =
    record {
      borns = λ v. sym (u.borns v);
      orders = sym u.orders;
      firsts = λ v b. sym (u.firsts v b);
      seconds = λ v b. sym (u.seconds v b);
    }

pub unchanged_same : (net : Network) (es ds : Ears) → Unchanged net es ds → SameTables net ds es
unchanged_same net es ds u =
    record {
      borns = u.borns;
      orders = u.orders;
      firsts = λ v b. u.firsts v (sym (u.borns v) ∙ b);
      seconds = λ v b. u.seconds v (sym (u.borns v) ∙ b);
    }

unchanged_itself : (net : Network) (es : Ears) → Unchanged net es es
unchanged_itself net es =
    record {
      borns = λ v. refl;
      births = λ v b. refl;
      longs = refl;
      long_births = λ v. refl;
      orders = refl;
      firsts = λ v b. refl;
      seconds = λ v b. refl;
    }

-- what a leftover link is
left_is : (net : Network) (is_born is_used : ℕ → Bool) (l : ℕ) → left_over net is_born is_used l ≡ true
    → (is_used l ≡ false) × (is_born (former net l) ≡ true) × (is_born (latter net l) ≡ true)
unfolding left_over
left_is net is_born is_used l h = let (u, ends) = and_true (not (is_used l)) _ h in let (a, b) = and_true (is_born (former net l)) _ ends in (not-true _ u, a, b)

-- one more short ear
pub unchanged_short : (net : Network) (es : Ears) (e : List ℕ) → 0 < length es → Accepted net (es ++ (e ∷ [])) → length e ≡ 2 → Unchanged net es (es ++ (e ∷ []))
unchanged_short net es e some a two =
    let (o, b, t) = short_ear net es e some a two in
    let longs : long_ears (es ++ (e ∷ [])) ≡ long_ears es = long_snoc es e ∙ ap (λ (b : Bool). cond b (long_ears es) (suc (long_ears es))) (eq-eqb (length e) 2 two) in
    record {
      borns = b;
      births = λ v h. (t v h).0;
      longs = longs;
      long_births = λ v. long_birth_snoc es e v ∙ ap (λ (b : Bool). cond b (long_ears (es ++ (e ∷ []))) (long_birth es v)) (old (born es v) (holds e v) (sym (born_snoc es e v) ∙ b v));
      orders = o;
      firsts = λ v h. (t v h).1;
      seconds = λ v h. (t v h).2;
    }
  where
    old : (b h : Bool) → (b || h) ≡ b → (h && not b) ≡ false
    old true true q = refl
    old true false q = refl
    old false h q = ap (λ (h : Bool). h && true) q

-- the marks of the links below l, and of l
marks_more : (u t : Bool) (k l : ℕ) → (k ≡ l → t ≡ true) → ((u || ltb k l && t) || eqb l k) ≡ (u || ltb k (suc l) && t)
marks_more u t k l h =
    ⊎_elim
    (λ (m : k < l). rw (lt-ltb k l m, lt-ltb k (suc l) (omega arith), ne_eqb l k (λ z. omega arith)) (below u t))
    (⊎_elim
    (λ (m : l < k). rw (le-ltb k l (omega arith), le-ltb k (suc l) (omega arith), ne_eqb l k (λ z. omega arith)) (above u))
    (λ (m : k ≡ l). rw (h m, le-ltb k l (omega arith), lt-ltb k (suc l) (omega arith), eq-eqb l k (sym m)) (here u)))
    (trichotomy k l)
  where
    below : (u t : Bool) → ((u || t) || false) ≡ (u || t)
    below true t = refl
    below false true = refl
    below false false = refl

    above : (u : Bool) → ((u || false) || false) ≡ (u || false)
    above true = refl
    above false = refl

    here : (u : Bool) → ((u || false) || true) ≡ (u || true)
    here true = refl
    here false = refl

marks_same : (u t : Bool) (k l : ℕ) → (k ≡ l → t ≡ false) → (u || ltb k l && t) ≡ (u || ltb k (suc l) && t)
marks_same u t k l h =
    ⊎_elim
    (λ (m : k < l). rw (lt-ltb k l m, lt-ltb k (suc l) (omega arith)))
    (⊎_elim
    (λ (m : l < k). rw (le-ltb k l (omega arith), le-ltb k (suc l) (omega arith)))
    (λ (m : k ≡ l). rw (h m, le-ltb k l (omega arith), lt-ltb k (suc l) (omega arith))))
    (trichotomy k l)

-- the short ears of an accepted list that has its first ear
module _ (net : Network) (proper : Proper net) (es : Ears) (some : 0 < length es) (acc : Accepted net es) where
  abbrev left : ℕ → Bool
  left = left_over net (born es) (used net es)

  abbrev short : ℕ → Ears
  short = short_ears net (born es) (used net es)

  -- each is accepted in its turn
  abbrev InTurn : Ears → Type 0
  InTurn ds = (i : ℕ) → i < length ds → judge net (es ++ take i ds) (ear_at ds i) ≡ given (0 ∷ [])

  turn_snoc : (ds : Ears) (e : List ℕ) → InTurn ds → judge net (es ++ ds) e ≡ given (0 ∷ []) → InTurn (ds ++ (e ∷ []))
  turn_snoc ds e t q i l =
      ⊎_elim
      (λ (m : i < length ds). rw (take-append-le i ds (e ∷ []) (omega arith), get_or-append ds (e ∷ []) [] i m) (t i m))
      (λ (m : length ds ≤ i).
      let z : length ds ≡ i = omega (arith, length-append ds (e ∷ [])) in
      rw (take_at ds (e ∷ []) i z, get_or_at ds e [] [] i z) q)
      (less? i (length ds))

  -- after the short ears of the links below c
  record Taken (c : ℕ) (ds : Ears) : Type 0 where
    in_turn : InTurn ds
    accepted : Accepted net (es ++ ds)
    marks : (l : ℕ) → l < size net → used net (es ++ ds) l ≡ (used net es l || ltb l c && left l)
    stays : Unchanged net es (es ++ ds)

  -- one more leftover link
  module _ (c : ℕ) (ds : Ears) (t : Taken c ds) (below : c < size net) (free : left c ≡ true) where
    abbrev now : Ears
    now = es ++ ds

    abbrev a : ℕ
    a = former net c

    abbrev b : ℕ
    b = latter net c

    abbrev e : List ℕ
    e = a ∷ b ∷ []

    not_first : eqb (length now) 0 ≡ false
    not_first = ne_eqb (length now) 0 (λ z. omega (arith, length-append es ds))

    own : joins net c a b ≡ true
    unfolding joins
    own = rw (eq-eqb a a refl, eq-eqb b b refl)

    linked : link_of net a b ≡ c
    linked = link_unique net proper c a b below own

    unused : used net now c ≡ false
    unused = t.marks c below ∙ rw ((left_is net (born es) (used net es) c free).0, le-ltb c c (omega arith))

    next_judged : judge net now e ≡ given (0 ∷ [])
    unfolding judge
    next_judged =
        let (_, a-born, b-born) = left_is net (born es) (used net es) c free in
        ap (λ (b : Bool). verdict net (born now) (used net now) b e) not_first
        ∙ short_given net (born now) (used net now) a b (proper.inside c below).0 (proper.inside c below).1 (proper.different c below)
        (t.stays.borns a ∙ a-born) (t.stays.borns b ∙ b-born) (adjacent_joined net a b (c, below, inl (refl, refl))) (ap (used net now) linked ∙ unused)

    passes_own : (l : ℕ) → l < size net → passes net (trail (eqb (length now) 0) e) l ≡ eqb c l
    unfolding trail passes any low
    passes_own l m =
        ap (λ (b : Bool). passes net (trail b e) l) not_first
        ∙ any_suc (λ k. joins net l (at e k) (at e (suc k))) 0
        ∙ sym (link_is net proper l a b m (adjacent_joined net a b (c, below, inl (refl, refl))))
        ∙ ap (λ (k : ℕ). eqb k l) linked

    next_accepted : Accepted net (now ++ (e ∷ []))
    next_accepted = accepted_snoc net now e 0 t.accepted next_judged

    taken_more : Taken (suc c) (ds ++ (e ∷ []))
    taken_more =
        let assoc = append_assoc es ds (e ∷ []) in
        record {
          in_turn = turn_snoc ds e t.in_turn next_judged;
          accepted = subst (Accepted net) assoc next_accepted;
          marks = λ l m.
              ap (λ (z : Ears). used net z l) (sym assoc)
              ∙ used_snoc net now e l
              ∙ ap₂ ◌||◌ (t.marks l m) (passes_own l m)
              ∙ marks_more (used net es l) (left l) l c (λ z. ap left z ∙ free);
          stays = subst (Unchanged net es) assoc (unchanged_on net es now (now ++ (e ∷ [])) t.stays (unchanged_short net now e (omega (arith, length-append es ds)) next_accepted refl));
        }

  -- a link that is not left over
  taken_same : (c : ℕ) (ds : Ears) → Taken c ds → left c ≡ false → Taken (suc c) ds
  taken_same c ds t f =
      record {
        in_turn = t.in_turn;
        accepted = t.accepted;
        marks = λ l m. t.marks l m ∙ marks_same (used net es l) (left l) l c (λ z. ap left z ∙ f);
        stays = t.stays;
      }

  taken : (c : ℕ) → c ≤ size net → Taken c (short c)
  unfolding short_ears
  taken zero l =
      let nil = sym (append-nil es) in
      record {
        in_turn = λ i m. absurd (omega arith);
        accepted = subst (Accepted net) nil acc;
        marks = λ l m. ap (λ (z : Ears). used net z l) (append-nil es) ∙ none (used net es l) l (left l);
        stays = subst (Unchanged net es) nil (unchanged_itself net es);
      }
    where
      none : (u : Bool) (l : ℕ) (t : Bool) → u ≡ (u || ltb l 0 && t)
      none true l t = refl
      none false l t = ap (λ (x : Bool). x && t) (sym (le-ltb l 0 (omega arith)))
  taken (suc c) l = go (left c) refl (taken c (omega arith))
    where
      go : (x : Bool) → left c ≡ x → Taken c (short c) → Taken (suc c) (short c ++ cond x ((former net c ∷ latter net c ∷ []) ∷ []) [])
      go true q t = taken_more c (short c) t l q
      go false q t = subst (Taken (suc c)) (sym (append-nil (short c))) (taken_same c (short c) t q)

  all_taken : Taken (size net) (written_out net es [])
  all_taken = subst (Taken (size net)) (sym (written_empty net es some)) (taken (size net) (omega arith))

  pub takes_left_over : TakesLeftOver net es
  unfolding left_over
  takes_left_over =
      let t = all_taken in
      let takes : (l : ℕ) → l < size net → used net (entered net es []) l ≡ (used net es l || (born es (former net l) && born es (latter net l))) =
      λ l m. t.marks l m ∙ rw (lt-ltb l (size net) m) (or_not (used net es l) (born es (former net l) && born es (latter net l))) in
      record {
        in_turn = t.in_turn;
        takes = takes;
        stays = t.stays;
        closes = λ h. used_closing net (entered net es [])
            (λ l m.
            takes l m ∙ rw (h (former net l) (proper.inside l m).0, h (latter net l) (proper.inside l m).1) (always (used net es l)));
      }
    where
      always : (u : Bool) → (u || true) ≡ true
      always true = refl
      always false = refl

  -- the list with an empty ear is accepted
  pub empty_accepted : Accepted net (entered net es [])
  empty_accepted = all_taken.accepted

pub left_over_lem : LeftOver
left_over_lem net es proper some acc = takes_left_over net proper es some acc

-- with an offered ear that is accepted the list stays accepted
pub entered_accepted : (net : Network) (es : Ears) (e vs : List ℕ) → Proper net → Accepted net es → answer_to net es e ≡ given vs → Accepted net (entered net es e)
entered_accepted net es e vs proper acc q =
    ⊎_elim
    (λ j.
    subst (Accepted net) (sym (entered_judged net es e vs j))
    (accepted_snoc net es e (new_switches net es e) acc (j ∙ ap given (judge_count net es e vs j))))
    (λ (z, some, _). subst (λ (e : List ℕ). Accepted net (entered net es e)) (sym z) (empty_accepted net proper es some acc))
    (answer_cases net es e vs q)
