-- Soundness: a list that is accepted ear by ear, and uses every link, is a Mondschein sequence.
-- `sound` puts the facts of the checks together to Definition 9.
use mathlib.Core.Path.{◌≡◌, refl, sym, ap, ◌∙◌, subst}
use mathlib.Core.Logic.{inl, inr, ⊎_elim, ◌≢◌, ◌↔◌}
use mathlib.Core.Bool.{Bool, true, false}
use mathlib.Core.List.{List, []}
use Prim.Native.Nat.{ℕ, zero, suc, pred, ◌≤◌, ◌<◌}
use native.Mathlib.Omega.{arith}
use lib.Dec.{eqb}
use lib.ListN.{length, take, length-take}
use borrow.Author.Tests.{ne_eqb}
use Rattle.mondschein.specs.Network.{Network, at, In, holds, size, Joins, Along, joined, passes, Proper, Ears, ear_at, born, birth, trail, used, is_new}
use Rattle.mondschein.specs.Mondschein.{On, Before, End, Inner, Long, Contains, NonSeparating, Mondschein}
use Rattle.mondschein.proofs.Logic.{clash, same?, less?, trichotomy, or_true}
use Rattle.mondschein.proofs.Search.{true_any}
use Rattle.mondschein.proofs.Lists.{at_same, holds_in, in_holds}
use Rattle.mondschein.proofs.Links.{cases_joins, joined_adjacent, adjacent_joined, joined_sym, passes_along, along_passes, passes_held, trail_held, link_unique}
use Rattle.mondschein.proofs.Passed.{Passed}
use Rattle.mondschein.proofs.Births.{Passing, first_passed, later_passed, ear_two, earlier, born_at, born_take, take_born, birth_is, birth_lt, birth_is_new, birth_birth}
use Rattle.mondschein.proofs.Trees.{user, some_ear, last_born, all_born, last_apart}
use Rattle.mondschein.proofs.Inner.{where?, NewAt, inner_new, new_long, inner_birth}

module _ (net : Network) (proper : Proper net) (P : Ears) (acc : Passing net P) (done : (l : ℕ) → l < size net → used net P l ≡ true) where
  meets : (i : ℕ) → i < length P → 0 < i → (x : ℕ) → On P i x → (Before P i x ↔ End P i x)
  meets zero b z x h = absurd (omega arith)
  meets (suc i) b z x (k, m, q) = (ends, olds)
    where
      e : List ℕ
      e = ear_at P (suc i)

      ends : Before P (suc i) x → End P (suc i) x
      ends (j, l, t) =
          ⊎_elim
          (λ w. inl (at_same e 0 k (sym w) ∙ q))
          (⊎_elim
          (λ w. inr (at_same e _ k (sym w) ∙ q))
          (λ (v, w). clash (take_born P (suc i) x j l (omega arith) (in_holds (ear_at P j) x t)) (ap (born (take (suc i) P)) (sym q) ∙ (later_passed net P acc i b).inner refl k v w)))
          (where? (length e) k m)

      old : (y : ℕ) → born (take (suc i) P) y ≡ true → y ≡ x → Before P (suc i) x
      old y t r = let (j, l, _, o) = born_take P (suc i) y t in (j, l, subst (In (ear_at P j)) r (holds_in (ear_at P j) y o))

      olds : End P (suc i) x → Before P (suc i) x
      olds (inl r) = old _ ((later_passed net P acc i b).ends refl).0 r
      olds (inr r) = old _ ((later_passed net P acc i b).ends refl).1 r

  unique : (l : ℕ) → l < size net → (i j : ℕ) → i < length P → j < i → Contains net P i l → Contains net P j l → ⊥
  unfolding trail used
  unique l m zero j b h t u = omega arith
  unique l m (suc i) j b h t u =
      let e = ear_at P (suc i) in
      let p = later_passed net P acc i b in
      let (k, a, q) = subst (λ (f : Bool). Along net (trail f e) l) (ne_eqb (suc i) 0 (λ q. omega arith)) t in
      let f : used net (take (suc i) P) l ≡ false = subst (λ (z : ℕ). used net (take (suc i) P) z ≡ false) (link_unique net proper l _ _ m (cases_joins net l _ _ q)) (p.unused k a) in
      let g : used net (take (suc i) P) l ≡ true =
      true_any (λ i₁. passes net (trail (eqb i₁ 0) (ear_at (take (suc i) P) i₁)) l) (length (take (suc i) P)) j (omega (arith, length-take (suc i) P))
      (subst (λ (d : List ℕ). passes net (trail (eqb j 0) d) l ≡ true) (sym (earlier P (suc i) j h)) (along_passes net _ l u)) in
      clash g f

  -- last's birth ear
  abbrev u : ℕ
  u = birth P net.last

  u_below : u < length P
  u_below = birth_lt P net.last (last_born net proper P acc done)

  u_held : holds (ear_at P u) net.last ≡ true
  u_held = (birth_is P net.last).hit u_below

  u_new : NewAt P u net.last
  u_new = let (k, l, q) = holds_in (ear_at P u) net.last u_held in (k, l, birth_is_new net P acc net.last k (last_born net proper P acc done) l q, q)

  u_only : (j : ℕ) → j < length (ear_at P u) → is_new (eqb u 0) (length (ear_at P u)) j ≡ true → j ≡ u_new.0
  u_only = ((acc u u_below).alone u_new.0 u_new.1 u_new.2 u_new.3).0

  u_all : (x : ℕ) → x < net.n → (j : ℕ) → u < j → born (take j P) x ≡ true
  u_all x m j l =
      ⊎_elim
      (λ (e : x ≡ net.last). take_born P j x u l u_below (subst (λ (y : ℕ). holds (ear_at P u) y ≡ true) (sym e) u_held))
      (λ d.
      ⊎_elim
      (λ t. let (i, a, b, h) = born_take P u x t in take_born P j x i (omega (arith, a)) b h)
      (λ t. take_born P j x u l u_below t)
      (or_true (born (take u P) x) _ (((acc u u_below).alone u_new.0 u_new.1 u_new.2 u_new.3).1 x m d)))
      (same? x net.last)

  ended : (j : ℕ) → u < j → Long P j → ⊥
  ended zero l n = omega arith
  ended (suc j) l (b, n) =
      let e = ear_at P (suc j) in
      let p = later_passed net P acc j b in
      let three : 2 < length e = omega (arith, p.at_least) in
      clash (u_all (at e 1) (p.below 1 (omega arith)) (suc j) l) (p.inner refl 1 (omega arith) three)

  avoids : (l : ℕ) → Joins net l net.root net.last → Contains net P u l → ⊥
  avoids l j h =
      last_apart net proper P acc done
      (trail_held (eqb u 0) (ear_at P u) net.root (omega (arith, ear_two net P acc u u_below))
      (passes_held net _ l _ _ (along_passes net _ l h) (cases_joins net l _ _ j)).0)

  outside : (i y : ℕ) → i < length P → born (take i P) y ≡ false → holds (ear_at P i) y ≡ false → Before P (suc i) y → ⊥
  outside i y b v w (j, l, t) =
      ⊎_elim
      (λ m. clash (take_born P i y j m (omega arith) (in_holds (ear_at P j) y t)) v)
      (λ (m : i ≤ j). let q : j ≡ i = omega arith in clash (subst (λ (z : ℕ). holds (ear_at P z) y ≡ true) q (in_holds (ear_at P j) y t)) w)
      (less? j i)

  separates : NonSeparating net P
  separates i j l n n' x h =
      let c = n.0 in
      let (k, m, f, q) = inner_new P i x h in
      let d : at (ear_at P i) k ≢ net.last = λ z. ended j (omega (arith, inner_birth P meets i net.last c (subst (Inner P i) (sym q ∙ z) h))) n' in
      let (y, a, t, v, w) = (acc i c).neighbour k m f d in
      (y, a, joined_adjacent net x y (subst (λ (z : ℕ). joined net z y ≡ true) q t), outside i y c v w)

  contained : (l : ℕ) → l < size net → (i : ℕ) × (i < length P) × Contains net P i l × ((j : ℕ) → j < length P → Contains net P j l → j ≡ i)
  contained l m =
      let (i, b, h) = user net proper P acc done l m in
      let h' = passes_along net _ l h in
      (i, b, h', λ j c t. ⊎_elim (λ w. absurd (unique l m i j b w h' t)) (⊎_elim (λ w. absurd (unique l m j i c w t h')) (λ w. w)) (trichotomy j i))

  pub sound : Mondschein net P
  sound =
      record {
        decomposition = record {
          inside = λ i b x (k, l, q). subst (λ (y : ℕ). y < net.n) q ((acc i b).below k l);
          simple = λ i b. (acc i b).simple;
          linked = λ i b k l. joined_adjacent net _ _ ((acc i b).linked k l);
          cycle = (three, joined_adjacent net _ _ (rw (ends.0, ends.1) (joined_sym net _ _ (adjacent_joined net _ _ proper.root_first))));
          paths = λ i b _. ear_two net P acc i b;
          meets = meets;
          partition = contained;
          spans = λ x m. let (i, b, h) = born_at P x (all_born net proper P acc done x m) in (i, b, holds_in (ear_at P i) x h);
        };
        through = ends;
        final = u;
        birth = birth_birth P net.last (last_born net proper P acc done);
        last_long = (new_long P u net.last u_below three u_new, λ j n. ⊎_elim (λ l. absurd (ended j l n)) (λ l. l) (less? u j));
        alone = λ x h. let (k, l, f, q) = inner_new P u x h in sym q ∙ at_same (ear_at P u) k u_new.0 (u_only k l f) ∙ u_new.3;
        avoiding = λ l _. avoids l;
        non_separating = separates;
      }
    where
      first : Passed net [] true (ear_at P 0)
      first = first_passed net P acc (some_ear net proper P acc done)

      three : 3 ≤ length (ear_at P 0)
      three = first.at_least

      ends : (at (ear_at P 0) 0 ≡ net.root) × (at (ear_at P 0) (pred (length (ear_at P 0))) ≡ net.first)
      ends = first.cycle refl
