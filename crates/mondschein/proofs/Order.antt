-- Laws of the order of switches: positions, an ear turned from A to B, and what one more ear does: it keeps the old order and stands
-- between its ends.
use mathlib.Core.Path.{◌≡◌, refl, sym, ap, ◌∙◌}
use mathlib.Core.Logic.{◌⊎◌, inl, inr, ⊎_elim, ◌≢◌}
use mathlib.Core.Bool.{Bool, true, false, cond}
use mathlib.Core.List.{List, [], ◌∷◌, ◌++◌, reverse, append_assoc, reverse-reverse}
use Prim.Native.Nat.{ℕ, zero, suc, pred, ◌+◌, ◌-◌, ◌≤◌, ◌<◌}
use native.Mathlib.Omega.{arith}
use lib.Dec.{eqb, ltb}
use lib.ListN.{length, take, drop, length-append, length-take, length-drop, get_or-append, take-append-drop}
use lib.ListN as L
use lib.Seq.{get_or-append-add, get_or-take, get_or-drop, take-suc, drop-cons}
use borrow.Author.Tests.{ltb-true, ltb-false, lt-ltb, le-ltb, eqb-true, eqb-false, eq-eqb, ne_eqb}
use Rattle.mondschein.specs.Network.{any, at, Simple, holds}
use Rattle.mondschein.specs.Order.{position, from_a, between, extend}
use Rattle.mondschein.specs.Routes.{FromA, Inserted}
use Rattle.mondschein.proofs.Logic.{which, clash, less?, cond_either}
use Rattle.mondschein.proofs.Search.{low_is, low_eq}
use Rattle.mondschein.proofs.Lists.{holds_in, holds_by, absent, at_same, at_reverse}

-- positions
pub position_at : (l : List ℕ) (x : ℕ) → holds l x ≡ true → (position l x < length l) × (at l (position l x) ≡ x)
unfolding position holds any
position_at l x h =
    let m : position l x < length l = ltb-true (position l x) (length l) h in
    (m, eqb-true _ _ ((low_is (λ k. eqb (at l k) x) (length l)).hit m))

pub position_is : (l : List ℕ) (x k : ℕ) → k < length l → at l k ≡ x → ((j : ℕ) → j < k → at l j ≢ x) → position l x ≡ k
unfolding position
position_is l x k h e b = low_eq (λ j. eqb (at l j) x) (length l) k (record { le = omega arith; before = λ j m. ne_eqb (at l j) x (b j m); hit = λ m. eq-eqb (at l k) x e })

position_before : (l : List ℕ) (x j : ℕ) → j < position l x → at l j ≢ x
unfolding position
position_before l x j h = eqb-false (at l j) x ((low_is (λ k. eqb (at l k) x) (length l)).before j h)

-- c is e, or e from its other end
pub record Turned (e c : List ℕ) : Type 0 where
  pub long : length c ≡ length e
  pub ways : ((k : ℕ) → k < length e → at c k ≡ at e k) ⊎ ((k : ℕ) → k < length e → at c k ≡ at e (length e - suc k))

from_a_either : (o e : List ℕ) → (from_a o e ≡ e) ⊎ (from_a o e ≡ reverse e)
unfolding from_a
from_a_either o e = cond_either (ltb (position o (at e 0)) (position o (at e (pred (length e))))) e (reverse e)

pub from_a_turned : (o e : List ℕ) → Turned e (from_a o e)
from_a_turned o e =
    ⊎_elim
    (λ (q : from_a o e ≡ e). rw q (record { long = refl; ways = inl (λ k h. refl) }))
    (λ (q : from_a o e ≡ reverse e). rw q (record { long = L.length-reverse e; ways = inr (at_reverse e) }))
    (from_a_either o e)

-- `new` between the first m of o and the rest
abbrev pub put : List ℕ → List ℕ → ℕ → List ℕ
put o new m = take m o ++ (new ++ drop m o)

module _ (o new : List ℕ) (m : ℕ) (fits : m ≤ length o) where
  abbrev into : List ℕ
  into = put o new m

  head_length : length (take m o) ≡ m
  head_length = omega (arith, length-take m o)

  into_length : length into ≡ length o + length new
  into_length = omega (arith, length-append (take m o) (new ++ drop m o), length-append new (drop m o), length-drop m o, head_length)

  at_left : (k : ℕ) → k < m → at into k ≡ at o k
  at_left k h = get_or-append (take m o) (new ++ drop m o) 0 k (omega (arith, head_length)) ∙ get_or-take m o k 0 h

  at_past : (k : ℕ) → at into (m + k) ≡ at (new ++ drop m o) k
  at_past k = at_same into (m + k) (length (take m o) + k) (omega (arith, head_length)) ∙ get_or-append-add (take m o) (new ++ drop m o) k 0

  at_mid : (k : ℕ) → k < length new → at into (m + k) ≡ at new k
  at_mid k h = at_past k ∙ get_or-append new (drop m o) 0 k h

  at_right : (k : ℕ) → m ≤ k → at into (length new + k) ≡ at o k
  at_right k h =
      at_same into (length new + k) (m + (length new + (k - m))) (omega arith)
      ∙ at_past (length new + (k - m))
      ∙ get_or-append-add new (drop m o) (k - m) 0
      ∙ get_or-drop m o (k - m) 0
      ∙ at_same o (m + (k - m)) k (omega arith)

  into_cases : (j : ℕ)
      → ((j < m) × (at into j ≡ at o j))
      ⊎ (((k : ℕ) × (k < length new) × (j ≡ m + k) × (at into j ≡ at new k)) ⊎ ((k : ℕ) × (m ≤ k) × (j ≡ length new + k) × (at into j ≡ at o k)))
  into_cases j =
      ⊎_elim
      (λ l. inl (l, at_left j l))
      (λ l.
      inr
      (⊎_elim
      (λ l'. inl (j - m, omega arith, omega arith, at_same into j (m + (j - m)) (omega arith) ∙ at_mid (j - m) (omega arith)))
      (λ l'. inr (j - length new, omega arith, omega arith, at_same into j (length new + (j - length new)) (omega arith) ∙ at_right (j - length new) (omega arith)))
      (less? j (m + length new))))
      (less? j m)

  module _ (x : ℕ) (h : holds o x ≡ true) where
    position_left : position o x < m → position into x ≡ position o x
    position_left l =
        position_is into x (position o x) (omega (arith, into_length)) (at_left (position o x) l ∙ (position_at o x h).1)
        (λ j b e. position_before o x j b (sym (at_left j (omega arith)) ∙ e))

    position_right : holds new x ≡ false → m ≤ position o x → position into x ≡ length new + position o x
    position_right f l =
        position_is into x (length new + position o x) (omega (arith, into_length, (position_at o x h).0)) (at_right (position o x) l ∙ (position_at o x h).1) before
      where
        before : (j : ℕ) → j < length new + position o x → at into j ≢ x
        before j b e =
            ⊎_elim
            (λ (l', i). position_before o x j (omega arith) (sym i ∙ e))
            (⊎_elim
            (λ (k, l', q, i). absent new x f k l' (sym i ∙ e))
            (λ (k, l', q, i). position_before o x k (omega arith) (sym i ∙ e)))
            (into_cases j)

  position_new : (x k : ℕ) → k < length new → at new k ≡ x → holds o x ≡ false → ((j : ℕ) → j < k → at new j ≢ x) → position into x ≡ m + k
  position_new x k l q f d =
      position_is into x (m + k) (omega (arith, into_length)) (at_mid k l ∙ q)
      (λ j b e.
      ⊎_elim
      (λ (l', i). absent o x f j (omega arith) (sym i ∙ e))
      (⊎_elim
      (λ (k', l', q', i). d k' (omega arith) (sym i ∙ e))
      (λ (k', l', q', i). absurd (omega arith)))
      (into_cases j))

  holds_into : (x : ℕ) → holds into x ≡ true → (holds o x ≡ true) ⊎ (holds new x ≡ true)
  holds_into x h =
      let (k, l, e) = holds_in into x h in
      ⊎_elim
      (λ (l', i). inl (holds_by o k x (omega arith) (sym i ∙ e)))
      (⊎_elim
      (λ (k', l', q, i). inr (holds_by new k' x l' (sym i ∙ e)))
      (λ (k', l', q, i). inl (holds_by o k' x (omega (arith, into_length)) (sym i ∙ e))))
      (into_cases k)

  into_old : (x : ℕ) → holds o x ≡ true → holds into x ≡ true
  into_old x h =
      let (l, e) = position_at o x h in
      ⊎_elim
      (λ l'. holds_by into (position o x) x (omega (arith, into_length)) (at_left (position o x) l' ∙ e))
      (λ l'. holds_by into (length new + position o x) x (omega (arith, into_length)) (at_right (position o x) l' ∙ e))
      (less? (position o x) m)

  into_new : (x : ℕ) → holds new x ≡ true → holds into x ≡ true
  into_new x h =
      let (k, l, e) = holds_in new x h in
      holds_by into (m + k) x (omega (arith, into_length)) (at_mid k l ∙ e)

  -- nothing is repeated
  put_simple : Simple o → Simple new
      → ((k : ℕ) → k < length new → holds o (at new k) ≡ false)
      → Simple into
  put_simple so sn f j k a b q = go (into_cases j) (into_cases k)
    where
      go : ((j < m) × (at into j ≡ at o j)) ⊎ (((i : ℕ) × (i < length new) × (j ≡ m + i) × (at into j ≡ at new i)) ⊎ ((i : ℕ) × (m ≤ i) × (j ≡ length new + i) × (at into j ≡ at o i)))
          → ((k < m) × (at into k ≡ at o k)) ⊎ (((i : ℕ) × (i < length new) × (k ≡ m + i) × (at into k ≡ at new i)) ⊎ ((i : ℕ) × (m ≤ i) × (k ≡ length new + i) × (at into k ≡ at o i)))
          → j ≡ k
      go (inl (x, y)) (inl (x', y')) = so j k (omega arith) (omega arith) (sym y ∙ q ∙ y')
      go (inl (x, y)) (inr (inl (i, x', z', y'))) = absurd (absent o _ (f i x') j (omega arith) (sym y ∙ q ∙ y'))
      go (inl (x, y)) (inr (inr (i, x', z', y'))) = let w = so j i (omega arith) (omega (arith, into_length)) (sym y ∙ q ∙ y') in omega arith
      go (inr (inl (i, x, z, y))) (inl (x', y')) = absurd (absent o _ (f i x) k (omega arith) (sym y' ∙ sym q ∙ y))
      go (inr (inl (i, x, z, y))) (inr (inl (i', x', z', y'))) = let w = sn i i' x x' (sym y ∙ q ∙ y') in omega arith
      go (inr (inl (i, x, z, y))) (inr (inr (i', x', z', y'))) = absurd (absent o _ (f i x) i' (omega (arith, into_length)) (sym y' ∙ sym q ∙ y))
      go (inr (inr (i, x, z, y))) (inl (x', y')) = let w = so i k (omega (arith, into_length)) (omega arith) (sym y ∙ q ∙ y') in omega arith
      go (inr (inr (i, x, z, y))) (inr (inl (i', x', z', y'))) = absurd (absent o _ (f i' x') i (omega (arith, into_length)) (sym y ∙ q ∙ y'))
      go (inr (inr (i, x, z, y))) (inr (inr (i', x', z', y'))) = let w = so i i' (omega (arith, into_length)) (omega (arith, into_length)) (sym y ∙ q ∙ y') in omega arith

-- e is a path whose ends stand in o and whose inner switches do not
pub record Fits (o e : List ℕ) : Type 0 where
  pub two : 2 ≤ length e
  pub simple : Simple e
  pub start : holds o (at e 0) ≡ true
  pub end : holds o (at e (pred (length e))) ≡ true
  pub inner : (k : ℕ) → 0 < k → suc k < length e → holds o (at e k) ≡ false

held : (o : List ℕ) {x y : ℕ} {b : Bool} → x ≡ y → holds o y ≡ b → holds o x ≡ b
held o e h = ap (holds o) e ∙ h

pub turned_simple : (e c : List ℕ) → Simple e → Turned e c → Simple c
turned_simple e c s t j k l m q =
    ⊎_elim
    (λ w. s j k (omega (arith, t.long)) (omega (arith, t.long)) (sym (w j (omega (arith, t.long))) ∙ q ∙ w k (omega (arith, t.long))))
    (λ w.
    omega (
      arith,
      t.long,
      s (length e - suc j) (length e - suc k) (omega (arith, t.long)) (omega (arith, t.long)) (sym (w j (omega (arith, t.long))) ∙ q ∙ w k (omega (arith, t.long))),
    ))
    t.ways

pub turned_fits : (o e c : List ℕ) → Fits o e → Turned e c → Fits o c
turned_fits o e c f t = go t.ways
  where
    go : ((k : ℕ) → k < length e → at c k ≡ at e k) ⊎ ((k : ℕ) → k < length e → at c k ≡ at e (length e - suc k)) → Fits o c
    go (inl w) =
        record {
          two = omega (arith, t.long, f.two);
          simple = turned_simple e c f.simple t;
          start = held o (w 0 (omega (arith, f.two))) f.start;
          end = held o (at_same c _ _ (ap pred t.long) ∙ w (pred (length e)) (omega (arith, f.two))) f.end;
          inner = λ k l m. held o (w k (omega (arith, t.long))) (f.inner k l (omega (arith, t.long)));
        }
    go (inr w) =
        record {
          two = omega (arith, t.long, f.two);
          simple = turned_simple e c f.simple t;
          start = held o (w 0 (omega (arith, f.two)) ∙ at_same e _ _ (omega arith)) f.end;
          end = held o (at_same c _ _ (ap pred t.long) ∙ w (pred (length e)) (omega (arith, f.two)) ∙ at_same e _ 0 (omega (arith, f.two))) f.start;
          inner = λ k l m. held o (w k (omega (arith, t.long))) (f.inner (length e - suc k) (omega (arith, t.long)) (omega (arith, t.long)));
        }

pub turned_on : (e c : List ℕ) → Turned e c → (x : ℕ) → holds e x ≡ true → holds c x ≡ true
turned_on e c t x h =
    let (k, l, q) = holds_in e x h in
    ⊎_elim
    (λ w. holds_by c k x (omega (arith, t.long)) (w k l ∙ q))
    (λ w. holds_by c (length e - suc k) x (omega (arith, t.long)) (w (length e - suc k) (omega arith) ∙ at_same e _ k (omega arith) ∙ q))
    t.ways

pub turned_back : (e c : List ℕ) → Turned e c → (x : ℕ) → holds c x ≡ true → holds e x ≡ true
turned_back e c t x h =
    let (k, l, q) = holds_in c x h in
    ⊎_elim
    (λ w. holds_by e k x (omega (arith, t.long)) (sym (w k (omega (arith, t.long))) ∙ q))
    (λ w. holds_by e (length e - suc k) x (omega (arith, t.long)) (sym (w k (omega (arith, t.long))) ∙ q))
    t.ways

-- the two ends have different positions
ends_differ : (o e : List ℕ) → Fits o e → position o (at e 0) ≢ position o (at e (pred (length e)))
ends_differ o e f q =
    omega (
      arith,
      f.two,
      f.simple 0 (pred (length e)) (omega (arith, f.two)) (omega (arith, f.two)) (sym (position_at o (at e 0) f.start).1 ∙ ap (at o) q ∙ (position_at o _ f.end).1),
    )

-- it goes up from A to B
from_a_up : (o e : List ℕ) → Fits o e → position o (at (from_a o e) 0) < position o (at (from_a o e) (pred (length (from_a o e))))
unfolding from_a
from_a_up o e f = go (ltb (position o (at e 0)) (position o (at e (pred (length e))))) refl
  where
    go : (b : Bool) → ltb (position o (at e 0)) (position o (at e (pred (length e)))) ≡ b → position o (at (cond b e (reverse e)) 0) < position o (at (cond b e (reverse e)) (pred (length (cond b e (reverse e)))))
    go true h = ltb-true _ _ h
    go false h =
        let a : at (reverse e) 0 ≡ at e (pred (length e)) = at_reverse e 0 (omega (arith, f.two)) ∙ at_same e _ _ (omega arith) in
        let z : at (reverse e) (pred (length (reverse e))) ≡ at e 0 = at_same (reverse e) _ _ (ap pred (L.length-reverse e)) ∙ at_reverse e (pred (length e)) (omega (arith, f.two)) ∙ at_same e _ 0 (omega (arith, f.two)) in
        rw (a, z) (omega (arith, ends_differ o e f, ltb-false (position o (at e 0)) (position o (at e (pred (length e)))) h))

-- it is the same from either end
pub from_a_reverse : (o e : List ℕ) → Fits o e → from_a o (reverse e) ≡ from_a o e
unfolding from_a
from_a_reverse o e f =
    rw (first_reverse, last_reverse)
    (⊎_elim
    (λ (l : position o (at e 0) < position o (at e (pred (length e)))). rw (lt-ltb _ _ l, le-ltb (position o (at e (pred (length e)))) (position o (at e 0)) (omega arith)) (reverse-reverse e))
    (λ (l : position o (at e (pred (length e))) ≤ position o (at e 0)).
    rw (le-ltb _ _ l, lt-ltb (position o (at e (pred (length e)))) (position o (at e 0)) (omega (arith, ends_differ o e f))))
    (less? (position o (at e 0)) (position o (at e (pred (length e))))))
  where
    first_reverse : at (reverse e) 0 ≡ at e (pred (length e))
    first_reverse = at_reverse e 0 (omega (arith, f.two)) ∙ at_same e _ _ (omega arith)

    last_reverse : at (reverse e) (pred (length (reverse e))) ≡ at e 0
    last_reverse = at_same (reverse e) _ _ (ap pred (L.length-reverse e)) ∙ at_reverse e (pred (length e)) (omega (arith, f.two)) ∙ at_same e _ 0 (omega (arith, f.two))

pub between_length : (c : List ℕ) → length (between c) ≡ pred (pred (length c))
unfolding between
between_length c = omega (arith, length-take (pred (pred (length c))) (drop 1 c), length-drop 1 c)

pub between_at : (c : List ℕ) (k : ℕ) → suc (suc k) < length c → at (between c) k ≡ at c (suc k)
unfolding between
between_at c k h = get_or-take (pred (pred (length c))) (drop 1 c) k 0 (omega arith) ∙ get_or-drop 1 c k 0 ∙ at_same c (1 + k) (suc k) (omega arith)

pub extend_is : (o e : List ℕ) → 0 < length o → extend o e ≡ put o (between (from_a o e)) (suc (position o (at (from_a o e) 0)))
unfolding extend
extend_is [] e h = absurd (omega arith)
extend_is (x ∷ o) e h = refl

-- one more ear
module _ (o e : List ℕ) (f : Fits o e) where
  abbrev c : List ℕ
  c = from_a o e

  g : Fits o c
  g = turned_fits o e c f (from_a_turned o e)

  up : position o (at c 0) < position o (at c (pred (length c)))
  up = from_a_up o e f

  abbrev cut : ℕ
  cut = suc (position o (at c 0))

  cut_fits : cut ≤ length o
  cut_fits = (position_at o (at c 0) g.start).0

  pub grown : extend o e ≡ put o (between c) cut
  grown = extend_is o e (omega (arith, cut_fits))

  -- the inner switches are new
  apart_new : (x : ℕ) → holds o x ≡ true → holds (between c) x ≡ false
  apart_new x h =
      ⊎_elim
      (λ t.
      let (k, l, q) = holds_in (between c) x t in
      let m : suc (suc k) < length c = omega (arith, l, between_length c) in
      clash h (held o (sym q ∙ between_at c k m) (g.inner (suc k) (omega arith) m)))
      (λ z. z)
      (which (holds (between c) x))

  left_at : (x : ℕ) → holds o x ≡ true → position o x < cut → position (put o (between c) cut) x ≡ position o x
  left_at = position_left o (between c) cut cut_fits

  right_at : (x : ℕ) → holds o x ≡ true → cut ≤ position o x → position (put o (between c) cut) x ≡ length (between c) + position o x
  right_at x h = position_right o (between c) cut cut_fits x h (apart_new x h)

  pub extend_old : (x y : ℕ) → holds o x ≡ true → holds o y ≡ true → position o x < position o y → position (extend o e) x < position (extend o e) y
  extend_old x y h k l =
      rw grown
      (⊎_elim
      (λ b. ⊎_elim
      (λ a. omega (arith, left_at x h b, left_at y k a))
      (λ a. omega (arith, left_at x h b, right_at y k a))
      (less? (position o y) cut))
      (λ b. omega (arith, right_at x h b, right_at y k (omega arith)))
      (less? (position o x) cut))

  pub extend_root : (x : ℕ) → holds o x ≡ true → position o x ≡ 0 → position (extend o e) x ≡ 0
  extend_root x h z = rw grown (left_at x h (omega arith) ∙ z)

  -- where the course stands in the new order
  inner_at : (k : ℕ) → suc k < length c → position (put o (between c) cut) (at c k) ≡ position o (at c 0) + k
  inner_at zero l = omega (arith, left_at (at c 0) g.start (omega arith))
  inner_at (suc k) l =
      omega (
        arith,
        position_new o (between c) cut cut_fits (at c (suc k)) k (omega (arith, between_length c)) (between_at c k l) (g.inner (suc k) (omega arith) l)
            (λ j b q. let d = g.simple (suc j) (suc k) (omega arith) (omega arith) (sym (between_at c j (omega arith)) ∙ q) in omega arith),
      )

  end_at : position (put o (between c) cut) (at c (pred (length c))) ≡ length (between c) + position o (at c (pred (length c)))
  end_at = right_at (at c (pred (length c))) g.end up

  pub extend_course : (k : ℕ) → suc k < length c → position (extend o e) (at c k) < position (extend o e) (at c (suc k))
  extend_course k l =
      rw grown
      (⊎_elim
      (λ m. omega (arith, inner_at k l, inner_at (suc k) m))
      (λ (m : length c ≤ suc (suc k)).
      let q : suc k ≡ pred (length c) = omega arith in
      rw (at_same c (suc k) (pred (length c)) q) (omega (arith, inner_at k l, end_at, between_length c, up)))
      (less? (suc (suc k)) (length c)))

  pub extend_last : at (extend o e) (pred (length (extend o e))) ≡ at o (pred (length o))
  extend_last =
      let b = (position_at o (at c (pred (length c))) g.end).0 in
      rw grown
      (at_same (put o (between c) cut) _ (length (between c) + pred (length o)) (omega (arith, into_length o (between c) cut cut_fits, up))
      ∙ at_right o (between c) cut cut_fits (pred (length o)) (omega (arith, up)))

  pub extend_sound : (x : ℕ) → holds (extend o e) x ≡ true → (holds o x ≡ true) ⊎ (holds e x ≡ true)
  extend_sound x h =
      ⊎_elim
      inl
      (λ t.
      let (k, l, q) = holds_in (between c) x t in
      let m : suc (suc k) < length c = omega (arith, l, between_length c) in
      inr (turned_back e c (from_a_turned o e) x (holds_by c (suc k) x (omega arith) (sym (between_at c k m) ∙ q))))
      (holds_into o (between c) cut cut_fits x (rw grown at h))

  pub extend_keeps : (x : ℕ) → holds o x ≡ true → holds (extend o e) x ≡ true
  extend_keeps x h = rw grown (into_old o (between c) cut cut_fits x h)

  pub extend_brings : (x : ℕ) → holds e x ≡ true → holds (extend o e) x ≡ true
  extend_brings x h =
      let (k, l, q) = holds_in c x (turned_on e c (from_a_turned o e) x h) in
      go k l q
    where
      go : (k : ℕ) → k < length c → at c k ≡ x → holds (extend o e) x ≡ true
      go zero l q = extend_keeps x (held o (sym q) g.start)
      go (suc k) l q =
          ⊎_elim
          (λ m.
          rw grown (into_new o (between c) cut cut_fits x (holds_by (between c) k x (omega (arith, between_length c)) (between_at c k m ∙ q))))
          (λ (m : length c ≤ suc (suc k)).
          extend_keeps x (held o (sym q ∙ at_same c (suc k) (pred (length c)) (omega arith)) g.end))
          (less? (suc (suc k)) (length c))

  pub extend_simple : Simple o → Simple (extend o e)
  extend_simple so =
      rw grown
      (put_simple o (between c) cut cut_fits so
      (λ j k a b q.
      let a' : suc (suc j) < length c = omega (arith, between_length c) in
      let b' : suc (suc k) < length c = omega (arith, between_length c) in
      let z = g.simple (suc j) (suc k) (omega arith) (omega arith) (sym (between_at c j a') ∙ q ∙ between_at c k b') in omega arith)
      (λ k a. let b : suc (suc k) < length c = omega (arith, between_length c) in held o (between_at c k b) (g.inner (suc k) (omega arith) b)))

-- the functions keep the rules
pub from_a_rule : (o e : List ℕ) → Fits o e → FromA o e (from_a o e)
from_a_rule o e f =
    let g = turned_fits o e (from_a o e) f (from_a_turned o e) in
    let (a, p) = position_at o (at (from_a o e) 0) g.start in
    let (b, q) = position_at o (at (from_a o e) (pred (length (from_a o e)))) g.end in
    record { turned = from_a_either o e; upward = (position o _, position o _, from_a_up o e f, b, p, q) }

pub extend_rule : (o e : List ℕ) → Fits o e → Inserted o e (extend o e)
extend_rule o e f =
    let c = from_a o e in
    let (a, p) = position_at o (at c 0) (turned_fits o e c f (from_a_turned o e)).start in
    let m = position o (at c 0) in
    record {
      course = c;
      from_a = from_a_rule o e f;
      front = take m o;
      back = drop (suc m) o;
      old = sym (take-append-drop m o) ∙ ap (λ (l : List ℕ). take m o ++ l) (drop-cons o m 0 a ∙ ap (λ (x : ℕ). x ∷ drop (suc m) o) p);
      grown =
          extend_is o e (omega arith)
          ∙ ap (λ (l : List ℕ). l ++ (between c ++ drop (suc m) o)) (take-suc o m 0 a ∙ ap (λ (x : ℕ). take m o ++ (x ∷ [])) p)
          ∙ append_assoc (take m o) (at c 0 ∷ []) (between c ++ drop (suc m) o);
    }

-- a short ear leaves the order
no_length : (l : List ℕ) → length l ≡ 0 → l ≡ []
no_length [] h = refl
no_length (x ∷ l) h = absurd (omega arith)

pub extend_short : (o e : List ℕ) → 0 < length o → length e ≡ 2 → extend o e ≡ o
extend_short o e l h =
    extend_is o e l
    ∙ ap (λ (z : List ℕ). put o z (suc (position o (at (from_a o e) 0)))) (no_length (between (from_a o e)) (omega (arith, between_length (from_a o e), (from_a_turned o e).long)))
    ∙ take-append-drop (suc (position o (at (from_a o e) 0))) o
