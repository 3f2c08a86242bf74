-- Laws of closed lists, whose links are all used: from every switch the entries of trees 1, 2 and 3 lead back in the order, on in it and to
-- a later birth; first comes last in the order, last is born last and alone, and tree 1 leaves an ear at its first new switch.
use mathlib.Core.Path.{◌≡◌, sym, ap, ◌∙◌, subst}
use mathlib.Core.Logic.{⊎_elim, ◌≢◌}
use mathlib.Core.Bool.{true, ◌||◌}
use Prim.Native.Nat.{ℕ, zero, suc, pred, ◌≤◌, ◌<◌}
use native.Mathlib.Omega.{arith}
use lib.Dec.{eqb}
use lib.ListN.{length, take}
use lib.Seq.{take-length}
use Rattle.mondschein.specs.Network.{Network, at, holds, size, Adjacent, Proper, Ears, ear_at, born, birth, used, is_new}
use Rattle.mondschein.specs.Order.{position, order, course, parent1, parent2, lowest, parent3_of}
use Rattle.mondschein.proofs.Logic.{clash, less?, same?, or_true}
use Rattle.mondschein.proofs.Lists.{at_same, holds_in}
use Rattle.mondschein.proofs.Links.{joined_adjacent, joined_sym, adjacent_below}
use Rattle.mondschein.proofs.Births.{Passing, born_take, take_born, birth_is, birth_le, birth_lt, birth_held, birth_is_new}
use Rattle.mondschein.proofs.Order.{position_at, turned_fits}
use Rattle.mondschein.proofs.Growth.{whole_grown, order_full, order_simple, course_turned, grown, later_fits}
use Rattle.mondschein.proofs.Trees.{some_ear, last_born, all_born, rise, down, upward, born_later, lowest_third, root_birth, before}

module _ (net : Network) (proper : Proper net) (es : Ears) (acc : Passing net es) (done : (l : ℕ) → l < size net → used net es l ≡ true) where
  abbrev s : ℕ → ℕ
  s = position (order es)

  -- every switch stands in the order
  pub in_order : (x : ℕ) → x < net.n → (s x < length (order es)) × (at (order es) (s x) ≡ x)
  in_order x m = position_at (order es) x (order_full net es acc x (all_born net proper es acc done x m))

  -- tree 1 leads back in the order, tree 2 on in it, tree 3 to a later birth
  pub back : (x : ℕ) → x < net.n → x ≢ net.root
      → (parent1 net es x < net.n) × Adjacent net x (parent1 net es x) × (s (parent1 net es x) < s x) × (birth es (parent1 net es x) ≤ birth es x)
  back x m d =
      let h = down net proper es acc done x m d in
      let j = joined_adjacent net x _ (joined_sym net _ x h.link_az) in
      ((adjacent_below net proper x _ j).1, j, h.up_az, h.old_a)

  pub onward : (x : ℕ) → x < net.n → x ≢ net.root → x ≢ net.first
      → (parent2 net es x < net.n) × Adjacent net x (parent2 net es x) × (s x < s (parent2 net es x)) × (birth es (parent2 net es x) ≤ birth es x)
  onward x m d f = let h = upward net proper es acc done x m d f in (h.below_z, joined_adjacent net x _ h.link_az, h.up_az, h.old_z)

  pub out : (x : ℕ) → x < net.n → x ≢ net.root → x ≢ net.last
      → (parent3_of net (birth es) lowest x < net.n) × Adjacent net x (parent3_of net (birth es) lowest x) × (birth es x < birth es (parent3_of net (birth es) lowest x))
  out x m d f = let h = (lowest_third net proper es acc done).other x m d f in (h.below, h.adjacent, born_later net proper es acc done x _ h)

  -- first comes last in the order
  pub first_highest : (x : ℕ) → x < net.n → s x ≤ s net.first
  first_highest x m =
      let (l, e) = in_order net.first proper.named.1 in
      let end : at (order es) (pred (length (order es))) ≡ net.first =
      subst (λ (z : Ears). at (order z) (pred (length (order z))) ≡ net.first) (take-length es) ((whole_grown net es acc).ended (some_ear net proper es acc done)) in
      omega (arith, (in_order x m).0, order_simple net es acc (s net.first) (pred (length (order es))) l (omega arith) (e ∙ sym end))

  -- last is born last, and alone in its ear
  last_passed : (k : ℕ) → k < length (ear_at es (birth es net.last)) → at (ear_at es (birth es net.last)) k ≡ net.last
      → ((j : ℕ) → j < length (ear_at es (birth es net.last)) → is_new (eqb (birth es net.last) 0) (length (ear_at es (birth es net.last))) j ≡ true → j ≡ k)
      × ((x : ℕ) → x < net.n → x ≢ net.last → (born (take (birth es net.last) es) x || holds (ear_at es (birth es net.last)) x) ≡ true)
  last_passed k l q =
      let h = last_born net proper es acc done in
      let a = (acc (birth es net.last) (birth_lt es net.last h)).alone k l (birth_is_new net es acc net.last k h l q) q in
      (a.0, a.1)

  pub last_latest : (x : ℕ) → x < net.n → birth es x ≤ birth es net.last
  last_latest x m =
      let i = birth es net.last in
      let h = last_born net proper es acc done in
      let (k, l, q) = holds_in (ear_at es i) net.last (birth_held es net.last h) in
      ⊎_elim
      (λ (e : x ≡ net.last). omega (arith, ap (birth es) e))
      (λ d.
      ⊎_elim
      (λ t. let (j, a, b, o) = born_take es i x t in omega (arith, birth_le es x j b o))
      (λ t. birth_le es x i (birth_lt es net.last h) t)
      (or_true (born (take i es) x) _ ((last_passed k l q).1 x m d)))
      (same? x net.last)

  pub last_alone : (x : ℕ) → x < net.n → birth es x ≡ birth es net.last → x ≡ net.last
  last_alone x m e =
      let w = ear_at es (birth es net.last) in
      let (k, l, q) = holds_in w net.last (birth_held es net.last (last_born net proper es acc done)) in
      let h = all_born net proper es acc done x m in
      let (j, l', q') = holds_in (ear_at es (birth es x)) x (birth_held es x h) in
      let f = birth_is_new net es acc x j h l' q' in
      let g : j ≡ k = subst (λ (z : ℕ). j < length (ear_at es z) → is_new (eqb z 0) (length (ear_at es z)) j ≡ true → j ≡ k) (sym e) ((last_passed k l q).0 j) l' f in
      sym q' ∙ ap (λ (z : ℕ). at (ear_at es z) j) e ∙ at_same w j k g ∙ q

  -- inside the course of a later ear nothing is born before
  course_inner : (i k : ℕ) → i < length es → 0 < i → 0 < k → suc k < length (course es i) → born (take i es) (at (course es i) k) ≡ true → ⊥
  course_inner zero k b c l m t = omega arith
  course_inner (suc i) k b c l m t =
      let o = grown net es acc (suc i) (omega arith) in
      let g = turned_fits _ _ _ (later_fits net es acc i b o) (course_turned net es acc (suc i)) in
      clash (o.full _ t) (g.inner k l m)

  -- a course rises in the order
  rises : (i : ℕ) → i < length es → (j k : ℕ) → j ≤ k → k < length (course es i) → s (at (course es i) j) ≤ s (at (course es i) k)
  rises i b j zero l m = subst (λ (z : ℕ). s (at (course es i) z) ≤ s (at (course es i) 0)) (let q : 0 ≡ j = omega arith in q) (omega arith)
  rises i b j (suc k) l m =
      ⊎_elim
      (λ (h : j < suc k). omega (arith, rises i b j k (omega arith) (omega arith), rise net proper es acc done i b k m))
      (λ (h : suc k ≤ j). subst (λ (z : ℕ). s (at (course es i) z) ≤ s (at (course es i) (suc k))) (let q : suc k ≡ j = omega arith in q) (omega arith))
      (less? j (suc k))

  -- tree 1 leaves an ear only at its first new switch in the order
  pub ear_opens : (x y : ℕ) → x < net.n → y < net.n → x ≢ net.root → birth es (parent1 net es x) < birth es x → birth es y ≡ birth es x → s x ≤ s y
  ear_opens x y l m d h e =
      let i = birth es x in
      let w = course es i in
      let b = birth_lt es x (all_born net proper es acc done x l) in
      let (k, c, p, q) = before net proper es acc done x l d in
      let n : y ≢ net.root = λ z. omega (arith, ap (birth es) z, root_birth net proper es acc done) in
      let (j, g, _, f) = subst (λ (z : ℕ). (j : ℕ) × (suc j < length (course es z)) × (at (course es z) j ≡ parent1 net es y) × (at (course es z) (suc j) ≡ y)) e (before net proper es acc done y m n) in
      ⊎_elim
      (λ (z : 0 < k).
      absurd
      (course_inner i k b (omega arith) z c
      (take_born es i _ (birth es (at w k)) (omega (arith, ap (birth es) p)) (omega (arith, ap (birth es) p)) ((birth_is es (at w k)).hit (omega (arith, ap (birth es) p))))))
      (λ (z : k ≤ 0).
      subst (λ (v : ℕ). s v ≤ s y) q (subst (λ (v : ℕ). s (at w (suc k)) ≤ s v) f (rises i b (suc k) (suc j) (omega arith) g)))
      (less? 0 k)
