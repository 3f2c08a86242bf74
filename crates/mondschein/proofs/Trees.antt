-- The tables of a closed list: every switch stands in its birth ear between its parents in trees 1 and 2, has a later-born neighbour,
-- and so has three routes to the root, whichever later-born neighbours are taken as tree 3.
use mathlib.Core.Path.{◌≡◌, refl, sym, ap, ◌∙◌, subst}
use mathlib.Core.Logic.{◌⊎◌, inl, inr, ⊎_elim, ◌≢◌}
use mathlib.Core.Bool.{Bool, true, false, ◌&&◌}
use mathlib.Core.List.{List}
use Prim.Native.Nat.{ℕ, zero, suc, pred, ◌+◌, ◌-◌, ◌≤◌, ◌<◌}
use native.Mathlib.Omega.{arith}
use lib.Dec.{eqb, ltb}
use lib.ListN.{length, take}
use lib.Seq.{take-length}
use borrow.Author.Tests.{ltb-true, ltb-false, lt-ltb, eq-eqb, ne_eqb}
use Rattle.mondschein.specs.Network.{low, Network, at, holds, size, Adjacent, joins, joined, passes, Proper, Ears, ear_at, born, birth, trail, used, is_new}
use Rattle.mondschein.specs.Order.{position, order, course, parent1, parent2, lowest, taken, parent3_of, walk_by}
use Rattle.mondschein.specs.Routes.{LaterBorn, Third, ThreeRoutes}
use Rattle.mondschein.proofs.Logic.{which, clash, same?, less?, trichotomy, and_true, true_and, or_true, and_false}
use Rattle.mondschein.proofs.Search.{low_is, low_found, any_true}
use Rattle.mondschein.proofs.Lists.{at_same, holds_in, holds_at, holds_by}
use Rattle.mondschein.proofs.Links.{joined_adjacent, adjacent_joined, joined_sym, passes_held, trail_held}
use Rattle.mondschein.proofs.Births.{Passing, first_passed, ear_two, at_born, born_take, take_born, birth_le, birth_lt, birth_held, not_before, birth_is_new, birth_birth, birth_unique}
use Rattle.mondschein.proofs.Order.{position_at, turned_fits, turned_on, turned_back}
use Rattle.mondschein.proofs.Growth.{grown, course_turned, later_fits, root_held, parent1_root, parent2_root, parent2_first}
use Rattle.mondschein.proofs.Routes.{by_tree, Numbered, three_routes}

module _ (net : Network) (proper : Proper net) (es : Ears) (acc : Passing net es) (done : (l : ℕ) → l < size net → used net es l ≡ true) where
  -- the ear that uses a link
  pub user : (l : ℕ) → l < size net → (i : ℕ) × (i < length es) × (passes net (trail (eqb i 0) (ear_at es i)) l ≡ true)
  unfolding used
  user l m = any_true (λ i. passes net (trail (eqb i 0) (ear_at es i)) l) (length es) (done l m)

  pub some_ear : 0 < length es
  some_ear = let (i, l, q) = user 0 (omega (arith, proper.table.0)) in omega (arith, l)

  pub last_born : born es net.last ≡ true
  unfolding joined
  last_born =
      let (l, m, q) = any_true (λ i. joins net i net.root net.last) (size net) (adjacent_joined net _ _ proper.root_last) in
      let (i, h, t) = user l m in
      at_born es net.last i h (trail_held (eqb i 0) (ear_at es i) net.last (omega (arith, ear_two net es acc i h)) (passes_held net _ l net.root net.last t q).1)

  pub all_born : (x : ℕ) → x < net.n → born es x ≡ true
  all_born x m =
      let i = birth es net.last in
      let b = birth_lt es net.last last_born in
      let (k, l, q) = holds_in (ear_at es i) net.last (birth_held es net.last last_born) in
      let a = (acc i b).alone k l (birth_is_new net es acc net.last k last_born l q) q in
      ⊎_elim
      (λ e. subst (λ (y : ℕ). born es y ≡ true) (sym e) last_born)
      (λ d.
      ⊎_elim
      (λ t. let (j, u, v, w) = born_take es i x t in at_born es x j v w)
      (λ t. at_born es x i b t)
      (or_true (born (take i es) x) _ (a.1 x m d)))
      (same? x net.last)

  pub rise : (i : ℕ) → i < length es → (k : ℕ) → suc k < length (course es i) → position (order es) (at (course es i) k) < position (order es) (at (course es i) (suc k))
  rise i l k m =
      subst (λ (z : Ears). position (order z) (at (course es i) k) < position (order z) (at (course es i) (suc k))) (take-length es)
      ((grown net es acc (length es) (omega arith)).rising i l k m)

  course_held : (i k : ℕ) → k < length (course es i) → holds (ear_at es i) (at (course es i) k) ≡ true
  course_held i k l = turned_back (ear_at es i) (course es i) (course_turned net es acc i) _ (holds_at (course es i) k l)

  course_below : (i k : ℕ) → i < length es → k < length (course es i) → at (course es i) k < net.n
  course_below i k b l =
      let (j, m, q) = holds_in (ear_at es i) _ (course_held i k l) in
      subst (λ (z : ℕ). z < net.n) q ((acc i b).below j m)

  course_link : (i k : ℕ) → i < length es → suc k < length (course es i) → joined net (at (course es i) k) (at (course es i) (suc k)) ≡ true
  course_link i k b l =
      let e = ear_at es i in
      let t = course_turned net es acc i in
      let m : suc k < length e = omega (arith, t.long) in
      ⊎_elim
      (λ w. rw (w k (omega arith), w (suc k) m) ((acc i b).linked k m))
      (λ w.
      rw (w k (omega arith), w (suc k) m)
      (joined_sym net _ _
      (subst (λ (z : ℕ). joined net (at e (length e - suc (suc k))) (at e z) ≡ true) (let q : suc (length e - suc (suc k)) ≡ length e - suc k = omega arith in q)
      ((acc i b).linked (length e - suc (suc k)) (omega arith)))))
      t.ways

  -- a course begins at the root or at a switch born before, and ends at first or at one born before
  course_ends : (i : ℕ) → i < length es
      → ((at (course es i) 0 ≡ net.root) ⊎ (born (take i es) (at (course es i) 0) ≡ true))
      × ((at (course es i) (pred (length (course es i))) ≡ net.first) ⊎ (born (take i es) (at (course es i) (pred (length (course es i)))) ≡ true))
  unfolding course
  course_ends zero b = let (x, y) = (first_passed net es acc b).cycle refl in (inl x, inl y)
  course_ends (suc i) b =
      let o = grown net es acc (suc i) (omega arith) in
      let g = turned_fits _ _ _ (later_fits net es acc i b o) (course_turned net es acc (suc i)) in
      (inr (o.sound _ g.start), inr (o.sound _ g.end))

  -- where a switch stands in the course of its birth ear
  abbrev birth_course : ℕ → List ℕ
  birth_course x = course es (birth es x)

  abbrev birth_index : ℕ → ℕ
  birth_index x = position (birth_course x) x

  record Stands (x : ℕ) : Type 0 where
    bounds : birth es x < length es
    here : at (birth_course x) (birth_index x) ≡ x
    inside : birth_index x < length (birth_course x)
    after : 0 < birth_index x
    before : (x ≡ net.first) ⊎ (suc (birth_index x) < length (birth_course x))

  stands : (x : ℕ) → x < net.n → x ≢ net.root → Stands x
  stands x m d = record { bounds = b; here = h.1; inside = h.0; after = lower; before = upper }
    where
      b : birth es x < length es
      b = birth_lt es x (all_born x m)

      h : (birth_index x < length (birth_course x)) × (at (birth_course x) (birth_index x) ≡ x)
      h = position_at (birth_course x) x (turned_on (ear_at es (birth es x)) (birth_course x) (course_turned net es acc (birth es x)) x (birth_held es x (all_born x m)))

      old : (k : ℕ) → birth_index x ≡ k → born (take (birth es x) es) (at (birth_course x) k) ≡ true → ⊥
      old k q t = not_before es x (ap (born (take (birth es x) es)) (sym h.1 ∙ at_same (birth_course x) _ _ q) ∙ t)

      lower : 0 < birth_index x
      lower =
          ⊎_elim
          (λ l. l)
          (λ (l : birth_index x ≤ 0).
          let q : birth_index x ≡ 0 = omega arith in
          absurd (⊎_elim (λ e. d (sym h.1 ∙ at_same (birth_course x) _ _ q ∙ e)) (old 0 q) (course_ends (birth es x) b).0))
          (less? 0 (birth_index x))

      upper : (x ≡ net.first) ⊎ (suc (birth_index x) < length (birth_course x))
      upper =
          ⊎_elim
          inr
          (λ (l : length (birth_course x) ≤ suc (birth_index x)).
          let q : birth_index x ≡ pred (length (birth_course x)) = omega (arith, h.0) in
          inl (⊎_elim (λ e. sym h.1 ∙ at_same (birth_course x) _ _ q ∙ e) (λ t. absurd (old _ q t)) (course_ends (birth es x) b).1))
          (less? (suc (birth_index x)) (length (birth_course x)))

  abbrev s : ℕ → ℕ
  s = position (order es)

  -- two neighbours in a course
  pub record Next (i a z : ℕ) : Type 0 where
    pub below_z : z < net.n
    pub link_az : joined net a z ≡ true
    pub up_az : s a < s z
    pub old_a : birth es a ≤ i
    pub old_z : birth es z ≤ i

  next : (i k : ℕ) → i < length es → suc k < length (course es i) → Next i (at (course es i) k) (at (course es i) (suc k))
  next i k b l =
      record {
        below_z = course_below i (suc k) b l;
        link_az = course_link i k b l;
        up_az = rise i b k l;
        old_a = birth_le es _ i b (course_held i k (omega arith));
        old_z = birth_le es _ i b (course_held i (suc k) l);
      }

  -- the entries in trees 1 and 2 stand beside the switch
  pub down : (x : ℕ) → x < net.n → x ≢ net.root → Next (birth es x) (parent1 net es x) x
  unfolding parent1
  down x m d =
      let st = stands x m d in
      let q : suc (pred (birth_index x)) ≡ birth_index x = omega (arith, st.after) in
      rw (ne_eqb x net.root d)
      (subst (λ (z : ℕ). Next (birth es x) (at (birth_course x) (pred (birth_index x))) z) (at_same (birth_course x) _ _ q ∙ st.here)
      (next (birth es x) (pred (birth_index x)) st.bounds (omega (arith, st.inside, st.after))))

  pub upward : (x : ℕ) → x < net.n → x ≢ net.root → x ≢ net.first → Next (birth es x) x (parent2 net es x)
  unfolding parent2
  upward x m d f =
      let st = stands x m d in
      rw (ne_eqb x net.root d, ne_eqb x net.first f)
      (subst (λ (a : ℕ). Next (birth es x) a (at (birth_course x) (suc (birth_index x)))) st.here
      (next (birth es x) (birth_index x) st.bounds (⊎_elim (λ e. absurd (f e)) (λ l. l) st.before)))

  later_neighbour : (x : ℕ) → x < net.n → x ≢ net.last → (y : ℕ) × (y < net.n) × (joined net x y ≡ true) × (birth es x < birth es y)
  later_neighbour x m f =
      let i = birth es x in
      let b = birth_lt es x (all_born x m) in
      let (k, l, q) = holds_in (ear_at es i) x (birth_held es x (all_born x m)) in
      let (y, a, j, u, v) = (acc i b).neighbour k l (birth_is_new net es acc x k (all_born x m) l q) (λ z. f (sym q ∙ z)) in (
        y,
        a,
        subst (λ (z : ℕ). joined net z y ≡ true) q j,
        ⊎_elim
            (λ (h : birth es x < birth es y). h)
            (⊎_elim
            (λ (h : birth es y < birth es x). clash (take_born es i y (birth es y) h (omega arith) (birth_held es y (all_born y a))) u)
            (λ (h : birth es x ≡ birth es y). clash (subst (λ (z : ℕ). holds (ear_at es z) y ≡ true) (sym h) (birth_held es y (all_born y a))) v))
            (trichotomy (birth es x) (birth es y)),
      )

  -- document 01's tree 3 is a choice of later-born neighbours, and none is lower
  pub later_born : (x y : ℕ) → x < net.n → y < net.n → Adjacent net x y → birth es x < birth es y → LaterBorn net es x y
  later_born x y m m' j h =
      record {
        below = m';
        adjacent = j;
        later = (birth es x, birth es y, birth_birth es x (all_born x m), birth_birth es y (all_born y m'), omega (arith, h));
      }

  pub born_later : (x y : ℕ) → LaterBorn net es x y → birth es x < birth es y
  born_later x y h = let (i, j, b, c, l) = h.later in omega (arith, birth_unique es i x b, birth_unique es j y c)

  pub lowest_third : Third net es (parent3_of net (birth es) lowest)
  unfolding parent3_of taken
  lowest_third =
      record {
        root = rw (eq-eqb net.root net.root refl);
        last = rw (ne_eqb net.last net.root (λ z. proper.distinct.1 (sym z)), eq-eqb net.last net.last refl);
        other = λ x m d f.
            let (y, a, j, h) = later_neighbour x m f in
            let (l, t) = low_found (λ z. joined net x z && ltb (birth es x) (birth es z)) net.n y a (true_and _ _ j (lt-ltb _ _ h)) in
            let (u, v) = and_true (joined net x _) _ t in
            rw (ne_eqb x net.root d, ne_eqb x net.last f) (later_born x _ m l (joined_adjacent net x _ u) (ltb-true _ _ v));
      }

  pub third_lowest : (x : ℕ) → x ≢ net.root → x ≢ net.last → (y : ℕ) → LaterBorn net es x y → parent3_of net (birth es) lowest x ≤ y
  unfolding parent3_of taken
  third_lowest x d f y h =
      rw (ne_eqb x net.root d, ne_eqb x net.last f)
      (⊎_elim
      (λ l. clash
      (true_and _ _ (adjacent_joined net x y h.adjacent) (lt-ltb _ _ (born_later x y h)))
      ((low_is (λ z. joined net x z && ltb (birth es x) (birth es z)) net.n).before y l))
      (λ l. l)
      (less? y (low (λ z. joined net x z && ltb (birth es x) (birth es z)) net.n)))

  pub root_birth : birth es net.root ≡ 0
  root_birth = omega (arith, birth_le es net.root 0 some_ear (root_held net es acc some_ear))

  pub first_birth : birth es net.first ≡ 0
  first_birth =
      let p = first_passed net es acc some_ear in
      omega (arith, birth_le es net.first 0 some_ear (holds_by (ear_at es 0) _ _ (let l : pred (length (ear_at es 0)) < length (ear_at es 0) = omega (arith, p.at_least) in l) (p.cycle refl).1))

  pub root_place : s net.root ≡ 0
  root_place = subst (λ (z : Ears). position (order z) net.root ≡ 0) (take-length es) ((grown net es acc (length es) (omega arith)).rooted some_ear)

  second : (x : ℕ) → x < net.n → x ≢ net.root → (parent2 net es x < net.n) × (joined net x (parent2 net es x) ≡ true) × (birth es (parent2 net es x) ≤ birth es x)
  second x m d =
      ⊎_elim
      (λ (f : x ≡ net.first).
      rw (parent2_first net es x d f)
      (proper.named.0, subst (λ (z : ℕ). joined net z net.root ≡ true) (sym f) (joined_sym net _ _ (adjacent_joined net _ _ proper.root_first)), omega (arith, root_birth)))
      (λ f. let u = upward x m d f in (u.below_z, u.link_az, u.old_z))
      (same? x net.first)

  -- the root is not next to first in the first ear, and not in last's ear
  first_inner : (i : ℕ) → i ≡ 0 → (k : ℕ) → suc k < length (course es i) → at (course es i) k ≡ net.root → at (course es i) (suc k) ≡ net.first → ⊥
  unfolding course
  first_inner (suc i) z k l q r = omega arith
  first_inner zero z k l q r =
      let p = first_passed net es acc some_ear in
      let (x, y) = p.cycle refl in
      let n = p.at_least in
      let a = p.simple k 0 (omega arith) (omega arith) (q ∙ sym x) in
      let b = p.simple (suc k) (pred (length (ear_at es 0))) l (omega arith) (r ∙ sym y) in
      omega arith

  stale : (b : Bool) (c j : ℕ) → j < c → is_new b c j ≡ false → (j ≡ 0) ⊎ (j ≡ pred c)
  unfolding is_new
  stale true c j l f = clash refl f
  stale false c j l f = ⊎_elim (λ (m : 0 < j). inr (let h = ltb-false (suc j) c (and_false (ltb 0 j) _ f (lt-ltb 0 j m)) in omega arith)) (λ m. inl (omega arith)) (less? 0 j)

  pub last_apart : holds (ear_at es (birth es net.last)) net.root ≡ true → ⊥
  last_apart h =
      let i = birth es net.last in
      let e = ear_at es i in
      let b = birth_lt es net.last last_born in
      let (k, l, q) = holds_in e net.last (birth_held es net.last last_born) in
      let (only, rest, u, v) = (acc i b).alone k l (birth_is_new net es acc net.last k last_born l q) q in
      let (j, m, r) = holds_in e net.root h in
      ⊎_elim
      (λ t. proper.distinct.1 (sym r ∙ at_same e j k (only j m t) ∙ q))
      (λ t. ⊎_elim (λ z. u (at_same e 0 j (sym z) ∙ r)) (λ z. v (at_same e _ j (sym z) ∙ r)) (stale (eqb i 0) (length e) j m t))
      (which (is_new (eqb i 0) (length e) j))

  -- the entry in tree 1 stands just before the switch
  pub before : (x : ℕ) → x < net.n → x ≢ net.root → (k : ℕ) × (suc k < length (birth_course x)) × (at (birth_course x) k ≡ parent1 net es x) × (at (birth_course x) (suc k) ≡ x)
  unfolding parent1
  before x m d =
      let st = stands x m d in
      let q : suc (pred (birth_index x)) ≡ birth_index x = omega (arith, st.after) in
      (pred (birth_index x), omega (arith, st.inside, st.after), rw (ne_eqb x net.root d), at_same (birth_course x) _ _ q ∙ st.here)

  -- and the entry in tree 2 just after it
  pub after : (x : ℕ) → x < net.n → x ≢ net.root → x ≢ net.first → (k : ℕ) × (suc k < length (birth_course x)) × (at (birth_course x) k ≡ x) × (at (birth_course x) (suc k) ≡ parent2 net es x)
  unfolding parent2
  after x m d f =
      let st = stands x m d in
      (birth_index x, ⊎_elim (λ e. absurd (f e)) (λ l. l) st.before, st.here, rw (ne_eqb x net.root d, ne_eqb x net.first f))

  module _ (p : ℕ → ℕ → ℕ) (e₁ : (v : ℕ) → v < net.n → p 1 v ≡ parent1 net es v) (e₂ : (v : ℕ) → v < net.n → p 2 v ≡ parent2 net es v) (e₃ : Third net es (p 3)) where
    third_cases : (x : ℕ) → x < net.n → x ≢ net.root → ((x ≡ net.last) × (p 3 x ≡ net.root)) ⊎ LaterBorn net es x (p 3 x)
    third_cases x m d = ⊎_elim (λ f. inl (f, ap (p 3) f ∙ e₃.last)) (λ f. inr (e₃.other x m d f)) (same? x net.last)

    numbered : Numbered net (birth es) s p
    unfolding position
    numbered =
        record {
          proper = proper;
          fixed =
              by_tree (λ t. p t net.root ≡ net.root)
              (rw (e₁ net.root proper.named.0) (parent1_root net es net.root refl)) (rw (e₂ net.root proper.named.0) (parent2_root net es net.root refl)) e₃.root;
          linked =
              by_tree (λ t. (x : ℕ) → x < net.n → x ≢ net.root → Adjacent net x (p t x))
              (λ x m d. rw (e₁ x m) (joined_adjacent net x _ (joined_sym net _ x (down x m d).link_az)))
              (λ x m d. rw (e₂ x m) (joined_adjacent net x _ (second x m d).1))
              (λ x m d. ⊎_elim
              (λ (f, z). rw z (subst (λ (y : ℕ). Adjacent net y net.root) (sym f) (joined_adjacent net _ _ (joined_sym net _ _ (adjacent_joined net _ _ proper.root_last)))))
              (λ h. h.adjacent)
              (third_cases x m d));
          back = λ x m d. rw (e₁ x m) (down x m d).up_az;
          onward = λ x m d. rw (e₂ x m) (⊎_elim (λ f. inl (f, parent2_first net es x d f)) (λ f. inr (upward x m d f).up_az) (same? x net.first));
          older₁ = λ x m d. rw (e₁ x m) (down x m d).old_a;
          older₂ = λ x m d. rw (e₂ x m) (second x m d).2;
          later = λ x m d. ⊎_elim inl (λ h. inr (born_later x _ h)) (third_cases x m d);
          s_root = root_place;
          b_root = root_birth;
          limit = length (order es) + length es;
          s_limit = λ x m. omega (arith, (low_is (λ k. eqb (at (order es) k) x) (length (order es))).le);
          b_limit = λ x m. omega (arith, birth_lt es x (all_born x m));
          first_inner = λ z.
              let (k, l, q, r) = before net.first proper.named.1 (λ h. proper.distinct.0 (sym h)) in
              first_inner (birth es net.first) first_birth k l (q ∙ (sym (e₁ _ proper.named.1) ∙ z)) r;
          last_inner = λ z.
              let (k, l, q, r) = before net.last proper.named.2 (λ h. proper.distinct.1 (sym h)) in
              last_apart (subst (λ (y : ℕ). holds (ear_at es (birth es net.last)) y ≡ true) (q ∙ (sym (e₁ _ proper.named.2) ∙ z)) (course_held (birth es net.last) k (omega arith)));
        }

    pub closed_routes : ThreeRoutes net p (λ t v. walk_by net.root (p t) (pred net.n) v)
    closed_routes = three_routes net (birth es) s p numbered
