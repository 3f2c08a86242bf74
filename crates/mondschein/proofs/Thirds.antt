-- Tree 3 by either rule. Whichever later-born neighbours are taken, every third walk leads to last and then to root, so it has at least two
-- switches more than the distance to last has links; by Note 6's rule it has just so many, and no other table keeps that rule.
use mathlib.Core.Path.{◌≡◌, refl, sym, ap, ◌∙◌, subst}
use mathlib.Core.Logic.{inl, inr, ⊎_elim, ◌≢◌}
use mathlib.Core.Bool.{Bool, true, ◌&&◌, cond}
use mathlib.Core.List.{List}
use Prim.Native.Nat.{ℕ, zero, suc, pred, ◌+◌, ◌≤◌, ◌<◌}
use native.Mathlib.Omega.{arith}
use lib.Dec.{eqb}
use lib.ListN.{length}
use borrow.Author.Tests.{ltb-true, lt-ltb, eqb-true, eq-eqb, ne_eqb}
use Rattle.mondschein.specs.Network.{low, Network, size, joined, Proper, Ears, birth, used}
use Rattle.mondschein.specs.Order.{parent1, parent2, Rule, lowest, shortest, is_later, reaches, distance, taken, parent3_of, parent_of, walk_by, walk_of}
use Rattle.mondschein.specs.Routes.{Tree, LaterBorn, Third, ShortestThird, ThirdBy, Walk, arrived, onward, ThreeRoutes}
use Rattle.mondschein.specs.Lists.{NoShorterThird}
use Rattle.mondschein.proofs.Logic.{clash, same?, less?, and_true, true_and}
use Rattle.mondschein.proofs.Search.{low_is, low_found}
use Rattle.mondschein.proofs.Links.{joined_adjacent, adjacent_joined, adjacent_below}
use Rattle.mondschein.proofs.Births.{Passing}
use Rattle.mondschein.proofs.Routes.{walk_ext}
use Rattle.mondschein.proofs.Trees.{later_born, born_later, lowest_third, third_lowest, root_birth, closed_routes}
use Rattle.mondschein.proofs.Closed.{last_latest}
use Rattle.mondschein.proofs.Complete.{complete, complete_used}
use Rattle.mondschein.proofs.Reaching.{reaches_last, reaches_on, distance_le, distance_reached, distance_last, distance_on, distance_first}

-- either rule takes later-born neighbours
pub third_of : (net : Network) (es : Ears) (rule : Rule) (p : ℕ → ℕ) → ThirdBy net es rule p → Third net es p
third_of net es lowest p T = T.third
third_of net es shortest p T = T.third

-- the walk of the root is the root alone, any other has two switches at least
root_alone : (r : ℕ) (p : ℕ → ℕ) {v : ℕ} {w : List ℕ} → v ≡ r → Walk r p v w → length w ≡ 1
root_alone r p e arrived = refl
root_alone r p e (onward d w) = absurd (d e)

walk_some : (r : ℕ) (p : ℕ → ℕ) {v : ℕ} {w : List ℕ} → Walk r p v w → 1 ≤ length w
walk_some r p arrived = omega arith
walk_some r p (onward d w) = omega arith

walk_two : (r : ℕ) (p : ℕ → ℕ) {v : ℕ} {w : List ℕ} → v ≢ r → Walk r p v w → 2 ≤ length w
walk_two r p d arrived = absurd (d refl)
walk_two r p d (onward e w) = omega (arith, walk_some r p w)

module _ (net : Network) (proper : Proper net) (es : Ears) (acc : Passing net es) (done : (l : ℕ) → l < size net → used net es l ≡ true) where
  abbrev d : ℕ → ℕ
  d = distance net (birth es)

  abbrev later : ℕ → ℕ → Bool
  later = is_later net (birth es)

  abbrev p : ℕ → ℕ
  p = parent3_of net (birth es) shortest

  -- born later than a switch is not the root
  not_root : (v x : ℕ) → birth es v < birth es x → x ≢ net.root
  not_root v x h e = omega (arith, ap (birth es) e, root_birth net proper es acc done)

  follows : (v x : ℕ) → LaterBorn net es v x → birth es v < birth es x
  follows v x h = born_later net proper es acc done v x h

  later_is : (v x : ℕ) → LaterBorn net es v x → later v x ≡ true
  later_is v x h = true_and _ _ (adjacent_joined net v x h.adjacent) (lt-ltb _ _ (follows v x h))

  is_later_lem : (v x : ℕ) → v < net.n → x < net.n → later v x ≡ true → LaterBorn net es v x
  is_later_lem v x l m h = let (j, g) = and_true (joined net v x) _ h in later_born net proper es acc done v x l m (joined_adjacent net v x j) (ltb-true _ _ g)

  -- the walks of a choice of later-born neighbours
  module _ (q : ℕ → ℕ) (T : Third net es q) where
    -- trees 1 and 2, and q as tree 3
    beside : ℕ → ℕ → ℕ
    beside t v = cond (eqb t 1) (parent1 net es v) (cond (eqb t 2) (parent2 net es v) (q v))

    third_walk : (v : ℕ) → v < net.n → (w : List ℕ) × Walk net.root q v w × (length w ≤ net.n)
    unfolding beside
    third_walk v l =
        let R = closed_routes net proper es acc done beside (λ v _. refl) (λ v _. refl) T in
        (walk_by net.root q (pred net.n) v, R.walks 3 (omega arith) v l, omega (arith, R.at_most 3 (omega arith) v l, proper.switches.0))

    -- it leads to last, over later-born neighbours, and then to the root
    walk_reaches : {v : ℕ} {w : List ℕ} → v < net.n → v ≢ net.root → Walk net.root q v w → reaches net (birth es) (pred (pred (length w))) v ≡ true
    walk_reaches l r arrived = absurd (r refl)
    walk_reaches {v} l r (onward {w = w} _ W) =
        ⊎_elim
        (λ e. reaches_last net (birth es) _ v e)
        (λ f.
        let h = T.other v l r f in
        let o = not_root v (q v) (follows v (q v) h) in
        subst (λ (k : ℕ). reaches net (birth es) k v ≡ true) (let z : suc (pred (pred (length w))) ≡ pred (length w) = omega (arith, walk_two net.root q o W) in z)
        (reaches_on net (birth es) _ v (q v) h.below (later_is v (q v) h) (walk_reaches h.below o W)))
        (same? v net.last)

  -- there is such a choice, so every switch reaches last
  reached : (v : ℕ) → v < net.n → v ≢ net.root → d v < net.n
  reached v l r =
      let q = parent3_of net (birth es) lowest in
      let T = lowest_third net proper es acc done in
      let (w, W, m) = third_walk q T v l in
      distance_reached net (birth es) (pred (pred (length w))) v (omega (arith, proper.switches.0)) (walk_reaches q T l r W)

  down : (v : ℕ) → v < net.n → v ≢ net.root → v ≢ net.last → (x : ℕ) × (x < net.n) × (later v x ≡ true) × (suc (d x) ≡ d v)
  down v l r f =
      ⊎_elim
      (λ e. absurd (f e))
      (λ (x, m, h, k). (x, m, h, omega (arith, k, distance_on net (birth es) v x m h)))
      (distance_first net (birth es) v (reached v l r))

  module _ (v : ℕ) (l : v < net.n) (r : v ≢ net.root) (f : v ≢ net.last) where
    taken_is : p v ≡ low (λ x. later v x && eqb (suc (d x)) (d v)) net.n
    unfolding parent3_of taken
    taken_is = rw (ne_eqb v net.root r, ne_eqb v net.last f)

    found : (p v < net.n) × (later v (p v) ≡ true) × (suc (d (p v)) ≡ d v)
    found =
        let (x, m, h, e) = down v l r f in
        let (i, j) = low_found (λ x. later v x && eqb (suc (d x)) (d v)) net.n x m (true_and (later v x) _ h (eq-eqb _ _ e)) in
        let (g, k) = and_true (later v _) _ j in
        rw taken_is (i, g, eqb-true _ _ k)

    lower_not : (y : ℕ) → later v y ≡ true → suc (d y) ≡ d v → p v ≤ y
    lower_not y h e =
        rw taken_is
        (⊎_elim
        (λ k. clash (true_and (later v y) _ h (eq-eqb _ _ e)) ((low_is (λ x. later v x && eqb (suc (d x)) (d v)) net.n).before y k))
        (λ k. k)
        (less? y (low (λ x. later v x && eqb (suc (d x)) (d v)) net.n)))

  shortest_third : Third net es p
  unfolding parent3_of
  shortest_third =
      record {
        root = rw (eq-eqb net.root net.root refl);
        last = rw (ne_eqb net.last net.root (λ e. proper.distinct.1 (sym e)), eq-eqb net.last net.last refl);
        other = λ v l r f. let (m, h, _) = found v l r f in is_later_lem v (p v) l m h;
      }

  -- its walks have the least length
  shortest_length : {v : ℕ} {w : List ℕ} → v < net.n → v ≢ net.root → Walk net.root p v w → length w ≡ suc (suc (d v))
  shortest_length l r arrived = absurd (r refl)
  shortest_length {v} l r (onward {w = w} _ W) =
      ⊎_elim
      (λ (e : v ≡ net.last). omega (arith, root_alone net.root p (ap p e ∙ shortest_third.last) W, ap d e, distance_last net (birth es)))
      (λ f.
      let (m, h, e) = found v l r f in
      omega (arith, shortest_length m (not_root v (p v) (follows v (p v) (is_later_lem v (p v) l m h))) W))
      (same? v net.last)

  shortest_rule : ShortestThird net es p
  shortest_rule =
      record {
        third = shortest_third;
        least = λ v l r f y Y w w' W W'.
            let (m, h, e) = found v l r f in
            let t = later_is v y Y in
            let n = shortest_length m (not_root v (p v) (follows v (p v) (is_later_lem v (p v) l m h))) W in
            let n' = shortest_length Y.below (not_root v y (follows v y Y)) W' in
            let g = distance_on net (birth es) v y Y.below t in
            ⊎_elim
            (λ (x : d (p v) < d y). inl (omega arith))
            (λ (x : d y ≤ d (p v)). inr (omega arith, lower_not v l r f y t (omega arith)))
            (less? (d (p v)) (d y));
      }

  -- the table that is computed keeps the rule
  pub third_rule : (rule : Rule) → ThirdBy net es rule (parent3_of net (birth es) rule)
  third_rule lowest = record { third = lowest_third net proper es acc done; least = λ v _ r f. third_lowest net proper es acc done v r f }
  third_rule shortest = shortest_rule

  -- any table that keeps Note 6's rule has these lengths, later births first, and so these entries
  module _ (q : ℕ → ℕ) (D : ShortestThird net es q) where
    abbrev Known : ℕ → Type 0
    Known v = (y : ℕ) (w : List ℕ) → y < net.n → birth es v < birth es y → Walk net.root q y w → length w ≡ suc (suc (d y))

    module _ (v : ℕ) (l : v < net.n) (r : v ≢ net.root) (f : v ≢ net.last) (known : Known v) where
      abbrev to : LaterBorn net es v (q v)
      to = D.third.other v l r f

      nearest : (y : ℕ) → y < net.n → later v y ≡ true → (d (q v) ≤ d y) × (d (q v) ≡ d y → q v ≤ y)
      nearest y m t =
          let Y = is_later_lem v y l m t in
          let (w, W, _) = third_walk q D.third (q v) to.below in
          let (w', W', _) = third_walk q D.third y m in
          let e = known (q v) w to.below (follows v (q v) to) W in
          let e' = known y w' m (follows v y Y) W' in
          ⊎_elim
          (λ x. (omega arith, λ z. absurd (omega arith)))
          (λ (x, u). (omega arith, λ z. u))
          (D.least v l r f y Y w w' W W')

      nearer : suc (d (q v)) ≡ d v
      nearer = let (x, m, h, e) = down v l r f in omega (arith, (nearest x m h).0, distance_on net (birth es) v (q v) to.below (later_is v (q v) to))

    lengths : (k : ℕ) {v : ℕ} {w : List ℕ} → v < net.n → v ≢ net.root → birth es net.last < birth es v + k → Walk net.root q v w → length w ≡ suc (suc (d v))
    lengths zero {v} l r h W = absurd (omega (arith, last_latest net proper es acc done v l))
    lengths (suc k) l r h arrived = absurd (r refl)
    lengths (suc k) {v} l r h (onward {w = w} _ W) =
        ⊎_elim
        (λ (e : v ≡ net.last). omega (arith, root_alone net.root q (ap q e ∙ D.third.last) W, ap d e, distance_last net (birth es)))
        (λ f.
        let t = D.third.other v l r f in
        let known : Known v = λ y w m g W. lengths k m (not_root v y g) (omega arith) W in
        omega (arith, nearer v l r f known, known (q v) w t.below (follows v (q v) t) W))
        (same? v net.last)

    all_lengths : {v : ℕ} {w : List ℕ} → v < net.n → v ≢ net.root → Walk net.root q v w → length w ≡ suc (suc (d v))
    all_lengths l r W = lengths (suc (birth es net.last)) l r (omega arith) W

    pub shortest_decided : (v : ℕ) → v < net.n → q v ≡ p v
    shortest_decided v l =
        ⊎_elim
        (λ e. ap q e ∙ D.third.root ∙ sym (ap p e ∙ shortest_third.root))
        (λ r.
        ⊎_elim
        (λ e. ap q e ∙ D.third.last ∙ sym (ap p e ∙ shortest_third.last))
        (λ f.
        let known : Known v = λ y w m g W. all_lengths m (not_root v y g) W in
        let (m, h, e) = found v l r f in
        let g = nearer v l r f known in
        let (u, c) = nearest v l r f known (p v) m h in
        omega (arith, lower_not v l r f (q v) (later_is v (q v) (D.third.other v l r f)) g, c (omega arith)))
        (same? v net.last))
        (same? v net.root)

    pub none_shorter : (q' : ℕ → ℕ) → Third net es q' → (v : ℕ) → v < net.n → (w w' : List ℕ) → Walk net.root q v w → Walk net.root q' v w' → length w ≤ length w'
    none_shorter q' T v l w w' W W' =
        ⊎_elim
        (λ (e : v ≡ net.root). omega (arith, root_alone net.root q e W, walk_some net.root q' W'))
        (λ r. omega (arith, all_lengths l r W, walk_two net.root q' r W', distance_le net (birth es) _ v (walk_reaches q' T l r W')))
        (same? v net.root)

pub no_shorter_third : NoShorterThird
no_shorter_third net es proper M p q D T = none_shorter net proper es (complete net proper es M) (complete_used net proper es M) p D q T

module _ (rule : Rule) (net : Network) (proper : Proper net) (es : Ears) (acc : Passing net es) (done : (l : ℕ) → l < size net → used net es l ≡ true) where
  -- the tables by either rule have three routes
  pub routes_by : ThreeRoutes net (parent_of rule net es) (walk_of rule net es)
  unfolding parent_of walk_of
  routes_by =
      closed_routes net proper es acc done (parent_of rule net es) (λ v _. refl) (λ v _. refl)
      (third_of net es rule (parent3_of net (birth es) rule) (third_rule net proper es acc done rule))

  -- the entry of a switch other than the root is a switch
  parent_below : (t : ℕ) → Tree t → (x : ℕ) → x < net.n → x ≢ net.root → parent_of rule net es t x < net.n
  parent_below t tree x l d = (adjacent_below net proper x _ ((routes_by.trees t tree).linked x l d)).1

  -- a walk asks only the entries of switches
  pub walk_of_lem : (t : ℕ) → Tree t → (p : ℕ → ℕ) → ((x : ℕ) → x < net.n → parent_of rule net es t x ≡ p x) → (v : ℕ) → v < net.n
      → walk_of rule net es t v ≡ walk_by net.root p (pred net.n) v
  unfolding walk_of
  walk_of_lem t tree p e v l = walk_ext net.root net.n (parent_of rule net es t) p e (parent_below t tree) (pred net.n) v l
