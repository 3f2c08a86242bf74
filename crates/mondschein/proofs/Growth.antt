-- The order along an accepted list: after each ear it holds what is born, once, from root to first, and every ear so far stands
-- in it from A to B; and what one more ear does to the order and to trees 1 and 2.
use mathlib.Core.Path.{◌≡◌, refl, sym, ap, ap₂, ◌∙◌, subst}
use mathlib.Core.Logic.{inl, ⊎_elim, ◌≢◌}
use mathlib.Core.Bool.{Bool, true, false, cond}
use mathlib.Core.List.{List, [], ◌∷◌, ◌++◌, foldl, foldl-append}
use Prim.Native.Nat.{ℕ, zero, suc, pred, ◌≤◌, ◌<◌}
use native.Mathlib.Omega.{arith}
use lib.Dec.{eqb}
use lib.ListN.{length, take}
use lib.Seq.{take-length, take-suc, take-append-le, take_at, get_or_at}
use borrow.Author.Tests.{eq-eqb, ne_eqb}
use Rattle.mondschein.specs.Network.{Network, at, Simple, holds, Ears, ear_at, born, birth}
use Rattle.mondschein.specs.Order.{position, from_a, extend, order, course, parent1, parent2}
use Rattle.mondschein.proofs.Logic.{which, clash, less?}
use Rattle.mondschein.proofs.Lists.{holds_at, holds_by, holds_nil}
use Rattle.mondschein.proofs.Passed.{Passed}
use Rattle.mondschein.proofs.Births.{Passing, first_passed, later_passed, born_at, at_born, born_take, take_born, birth_lt, birth_old, birth_new, old_ear}
use Rattle.mondschein.proofs.Order.{position_is, position_at, Fits, Turned, from_a_turned, turned_back, extend_old, extend_root, extend_last, extend_course, extend_sound, extend_keeps, extend_brings, extend_simple}

pub order_suc : (es : Ears) (i : ℕ) → i < length es → order (take (suc i) es) ≡ extend (order (take i es)) (ear_at es i)
unfolding order
order_suc es i l = ap (foldl extend []) (take-suc es i [] l) ∙ foldl-append extend [] (take i es) (ear_at es i ∷ [])

module _ (net : Network) (es : Ears) (acc : Passing net es) where
  pub record Grown (i : ℕ) : Type 0 where
    pub sound : (x : ℕ) → holds (order (take i es)) x ≡ true → born (take i es) x ≡ true
    pub full : (x : ℕ) → born (take i es) x ≡ true → holds (order (take i es)) x ≡ true
    pub rising : (j : ℕ) → j < i → (k : ℕ) → suc k < length (course es j) → position (order (take i es)) (at (course es j) k) < position (order (take i es)) (at (course es j) (suc k))
    pub rooted : 0 < i → position (order (take i es)) net.root ≡ 0
    pub ended : 0 < i → at (order (take i es)) (pred (length (order (take i es)))) ≡ net.first
    pub simple : Simple (order (take i es))

  pub later_fits : (i : ℕ) → suc i < length es → Grown (suc i) → Fits (order (take (suc i) es)) (ear_at es (suc i))
  later_fits i l o =
      let p = later_passed net es acc i l in
      record {
        two = p.at_least;
        simple = p.simple;
        start = o.full _ (p.ends refl).0;
        end = o.full _ (p.ends refl).1;
        inner = λ k a b. ⊎_elim (λ t. clash (o.sound _ t) (p.inner refl k a b)) (λ f. f) (which (holds (order (take (suc i) es)) (at (ear_at es (suc i)) k)));
      }

  pub course_turned : (j : ℕ) → Turned (ear_at es j) (course es j)
  unfolding course
  course_turned zero = record { long = refl; ways = inl (λ k l. refl) }
  course_turned (suc j) = from_a_turned (order (take (suc j) es)) (ear_at es (suc j))

  pub order_one : 0 < length es → order (take 1 es) ≡ ear_at es 0
  unfolding order extend
  order_one l = order_suc es 0 l

  course_held : (i : ℕ) → Grown i → i ≤ length es → (j : ℕ) → j < i → (k : ℕ) → k < length (course es j) → holds (order (take i es)) (at (course es j) k) ≡ true
  course_held i o b j l k m =
      o.full _ (take_born es i _ j l (omega arith) (turned_back (ear_at es j) (course es j) (course_turned j) _ (holds_at (course es j) k m)))

  grown_zero : Grown 0
  unfolding order
  grown_zero =
      record {
        sound = λ x h. holds_nil x h;
        full = λ x h. let (i, l, q) = born_at [] x h in absurd (omega (arith, l));
        rising = λ j l. absurd (omega arith);
        rooted = λ l. absurd (omega arith);
        ended = λ l. absurd (omega arith);
        simple = λ j k l. absurd (omega arith);
      }

  first_at : (l : 0 < length es) (k : ℕ) → k < length (ear_at es 0) → position (order (take 1 es)) (at (ear_at es 0) k) ≡ k
  first_at l k m =
      rw (order_one l)
      (position_is (ear_at es 0) _ k m refl (λ j h q. let d = (first_passed net es acc l).simple j k (omega arith) m q in omega arith))

  pub root_held : 0 < length es → holds (ear_at es 0) net.root ≡ true
  root_held l = holds_by (ear_at es 0) 0 _ (omega (arith, (first_passed net es acc l).at_least)) ((first_passed net es acc l).cycle refl).0

  grown_one : 0 < length es → Grown 1
  unfolding course
  grown_one l =
      record {
        sound = λ x h. take_born es 1 x 0 (omega arith) l (rw (order_one l) at h);
        full = λ x h.
            let (j, a, b, q) = born_take es 1 x h in
            rw (order_one l) (subst (λ (i : ℕ). holds (ear_at es i) x ≡ true) (let z : j ≡ 0 = omega (arith, a) in z) q);
        rising = up;
        rooted = λ _.
            ap (position (order (take 1 es))) (sym ((first_passed net es acc l).cycle refl).0)
            ∙ first_at l 0 (omega (arith, (first_passed net es acc l).at_least));
        ended = λ _. rw (order_one l) ((first_passed net es acc l).cycle refl).1;
        simple = rw (order_one l) (first_passed net es acc l).simple;
      }
    where
      up : (j : ℕ) → j < 1 → (k : ℕ) → suc k < length (course es j) → position (order (take 1 es)) (at (course es j) k) < position (order (take 1 es)) (at (course es j) (suc k))
      up zero a k m = omega (arith, first_at l k (omega arith), first_at l (suc k) m)
      up (suc j) a k m = absurd (omega arith)

  grown_suc : (i : ℕ) → suc i < length es → Grown (suc i) → Grown (suc (suc i))
  unfolding course
  grown_suc i l o =
      record {
        sound = λ x h.
            ⊎_elim
            (λ t. let (j, a, b, q) = born_take es (suc i) x (o.sound x t) in take_born es (suc (suc i)) x j (omega (arith, a)) b q)
            (λ t. take_born es (suc (suc i)) x (suc i) (omega arith) l t)
            (extend_sound ord e f x (rw (order_suc es (suc i) l) at h));
        full = λ x h.
            let (j, a, b, q) = born_take es (suc (suc i)) x h in
            rw (order_suc es (suc i) l)
            (⊎_elim
            (λ m. extend_keeps ord e f x (o.full x (take_born es (suc i) x j m b q)))
            (λ m. extend_brings ord e f x (subst (λ (z : ℕ). holds (ear_at es z) x ≡ true) (let w : j ≡ suc i = omega (arith, a, m) in w) q))
            (less? j (suc i)));
        rising = λ j a k m.
            rw (order_suc es (suc i) l)
            (⊎_elim
            (λ (b : j < suc i).
            extend_old ord e f _ _ (course_held (suc i) o (omega arith) j b k (omega arith)) (course_held (suc i) o (omega arith) j b (suc k) m) (o.rising j b k m))
            (λ (b : suc i ≤ j).
            let q : suc i ≡ j = omega arith in
            subst
            (λ (z : ℕ). suc k < length (course es z) → position (extend ord e) (at (course es z) k) < position (extend ord e) (at (course es z) (suc k)))
            q (extend_course ord e f k) m)
            (less? j (suc i)));
        rooted = λ _. rw (order_suc es (suc i) l) (extend_root ord e f net.root (o.full _ (take_born es (suc i) _ 0 (omega arith) (omega arith) (root_held (omega arith)))) (o.rooted (omega arith)));
        ended = λ _. rw (order_suc es (suc i) l) (extend_last ord e f ∙ o.ended (omega arith));
        simple = rw (order_suc es (suc i) l) (extend_simple ord e f o.simple);
      }
    where
      ord : List ℕ
      ord = order (take (suc i) es)

      e : List ℕ
      e = ear_at es (suc i)

      f : Fits (order (take (suc i) es)) (ear_at es (suc i))
      f = later_fits i l o

  pub grown : (i : ℕ) → i ≤ length es → Grown i
  grown zero l = grown_zero
  grown (suc zero) l = grown_one l
  grown (suc (suc i)) l = grown_suc i l (grown (suc i) (omega arith))

  -- the order of the whole list
  pub whole_grown : Grown (length es)
  whole_grown = grown (length es) (omega arith)

  pub order_full : (x : ℕ) → born es x ≡ true → holds (order es) x ≡ true
  order_full x h = subst (λ (z : Ears). born z x ≡ true → holds (order z) x ≡ true) (take-length es) (whole_grown.full x) h

  pub order_sound : (x : ℕ) → holds (order es) x ≡ true → born es x ≡ true
  order_sound x h = subst (λ (z : Ears). holds (order z) x ≡ true → born z x ≡ true) (take-length es) (whole_grown.sound x) h

  pub order_simple : Simple (order es)
  order_simple = subst (λ (z : Ears). Simple (order z)) (take-length es) whole_grown.simple

  pub order_some : 0 < length es → 0 < length (order es)
  order_some l = omega (arith, (position_at (order es) net.root (order_full net.root (at_born es net.root 0 l (root_held l)))).0)

  -- the next ear has its ends in the order, and nothing else
  pub next_fits : (e : List ℕ) → Passed net es false e → Fits (order es) e
  next_fits e p =
      record {
        two = p.at_least;
        simple = p.simple;
        start = order_full _ (p.ends refl).0;
        end = order_full _ (p.ends refl).1;
        inner = λ k a b. ⊎_elim (λ t. clash (order_sound _ t) (p.inner refl k a b)) (λ f. f) (which (holds (order es) (at e k)));
      }

-- root's entries, and first's in tree 2
pub parent1_root : (net : Network) (es : Ears) (v : ℕ) → v ≡ net.root → parent1 net es v ≡ v
unfolding parent1
parent1_root net es v e = rw (eq-eqb v net.root e)

pub parent2_root : (net : Network) (es : Ears) (v : ℕ) → v ≡ net.root → parent2 net es v ≡ v
unfolding parent2
parent2_root net es v e = rw (eq-eqb v net.root e)

pub parent2_first : (net : Network) (es : Ears) (v : ℕ) → v ≢ net.root → v ≡ net.first → parent2 net es v ≡ net.root
unfolding parent2
parent2_first net es v d e = rw (ne_eqb v net.root d, eq-eqb v net.first e)

-- one more ear
pub order_snoc : (es : Ears) (e : List ℕ) → order (es ++ (e ∷ [])) ≡ extend (order es) e
unfolding order
order_snoc es e = foldl-append extend [] es (e ∷ [])

module _ (es : Ears) (e : List ℕ) where
  abbrev more : Ears
  more = es ++ (e ∷ [])

  pub course_old : (i : ℕ) → i < length es → course more i ≡ course es i
  unfolding course
  course_old zero l = old_ear es e zero l
  course_old (suc i) l = ap₂ (λ (o : Ears) (d : List ℕ). from_a (order o) d) (take-append-le (suc i) es (e ∷ []) (omega arith)) (old_ear es e (suc i) l)

  pub course_new : course more (length es) ≡ cond (eqb (length es) 0) e (from_a (order es) e)
  unfolding course
  course_new = go (length es) refl
    where
      go : (i : ℕ) → length es ≡ i → course (es ++ (e ∷ [])) i ≡ cond (eqb i 0) e (from_a (order es) e)
      go zero z = get_or_at es e [] [] 0 z
      go (suc i) z = rw (ne_eqb (suc i) 0 (λ q. omega arith), take_at es (e ∷ []) (suc i) z, get_or_at es e [] [] (suc i) z)

  -- the tables keep their old entries
  pub parent1_old : (net : Network) (x : ℕ) → born es x ≡ true → parent1 net more x ≡ parent1 net es x
  unfolding parent1
  parent1_old net x h = simp (birth_old es e x h, course_old (birth es x) (birth_lt es x h))

  pub parent2_old : (net : Network) (x : ℕ) → born es x ≡ true → parent2 net more x ≡ parent2 net es x
  unfolding parent2
  parent2_old net x h = simp (birth_old es e x h, course_old (birth es x) (birth_lt es x h))

module _ (net : Network) (es : Ears) (e : List ℕ) (x : ℕ) (d : x ≢ net.root) (u : born es x ≡ false) (h : holds e x ≡ true) where
  abbrev c : List ℕ
  c = cond (eqb (length es) 0) e (from_a (order es) e)

  pub parent1_new : parent1 net (es ++ (e ∷ [])) x ≡ at c (pred (position c x))
  unfolding parent1
  parent1_new =
      ap (λ (b : Bool). cond b x (at (course more (birth more x)) (pred (position (course more (birth more x)) x)))) (ne_eqb x net.root d)
      ∙ ap (λ (i : ℕ). at (course more i) (pred (position (course more i) x))) (birth_new es e x u h)
      ∙ ap (λ (l : List ℕ). at l (pred (position l x))) (course_new es e)
    where
      more : Ears
      more = es ++ (e ∷ [])

  pub parent2_new : x ≢ net.first → parent2 net (es ++ (e ∷ [])) x ≡ at c (suc (position c x))
  unfolding parent2
  parent2_new f = simp (ne_eqb x net.root d, ne_eqb x net.first f, birth_new es e x u h, course_new es e)
