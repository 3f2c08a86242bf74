-- Laws of the order in the code's terms: the place of an ear by one search for both of its ends, and the order after one more ear,
-- by that place.
use Rattle.std.proofs.Common.{◌≡◌, refl, sym, ap, ap₂, ◌∙◌, ⊎_elim, ◌≢◌, Bool, true, false, not, ◌&&◌, cond, List, ◌++◌, reverse, append_assoc, ℕ, suc, pred, min, ◌+◌, ◌-◌, ◌≤◌, ◌<◌, arith, eqb, ltb, length, take, drop, length-append, length-take, length-drop, drop_of_length-le, take-append-drop, take-take, take-add, drop_at, ext_get_or, lt-ltb, le-ltb, le-leb, eq-eqb, ne_eqb, ltb-true, ltb-false}
use Rattle.std.proofs.Math.ListN.{length-reverse}
use Rattle.std.proofs.Math.Seq.{take-append-le}
use borrow.Author.Tests.{lt-leb}
use Rattle.mondschein.specs.Network.{at}
use Rattle.mondschein.specs.Order.{position, upward, from_a, between, extend}
use Rattle.mondschein.proofs.Logic.{less?}
use Rattle.mondschein.proofs.Lists.{at_same, at_reverse}
use Rattle.mondschein.proofs.Order.{put, from_a_turned, between_length, between_at, extend_is}
use Rattle.order.specs.Placed.{placed, placed_count, place_in}
use Rattle.order.specs.declared.Place.{Place}
use Rattle.rows.proofs.Prefixes.{least_take}
use Rattle.rows.proofs.Rows.{position_end, position_hit, position_found}

-- one search for both ends of an ear finds A
module _ (o e : List ℕ) {k : ℕ} (found : k ≡ min (position o (at e 0)) (position o (at e (pred (length e))))) where
  found_a : 0 < length e → k ≡ position o (at (from_a o e) 0)
  unfolding from_a
  found_a l = go (upward o e) refl
    where
      go : (b : Bool) → upward o e ≡ b → k ≡ position o (at (cond b e (reverse e)) 0)
      go true t = omega (arith, ltb-true (position o (at e 0)) (position o (at e (pred (length e)))) t)
      go false f =
          let last : at e (pred (length e)) ≡ at (reverse e) 0 = at_same e _ _ (omega arith) ∙ sym (at_reverse e 0 l) in
          let z : k ≡ position o (at e (pred (length e))) = omega (arith, ltb-false (position o (at e 0)) (position o (at e (pred (length e)))) f) in
          z ∙ ap (position o) last

  -- and whether it is the former end: the number found is not the latter
  found_upward : (ltb k (length o) && not (eqb (at o k) (at e (pred (length e))))) ≡ upward o e
  found_upward = ⊎_elim former latter (less? (position o (at e 0)) (position o (at e (pred (length e)))))
    where
      former : position o (at e 0) < position o (at e (pred (length e))) → (ltb k (length o) && not (eqb (at o k) (at e (pred (length e))))) ≡ upward o e
      former h =
          let other : at o k ≢ at e (pred (length e)) = λ q. let z : position o (at e (pred (length e))) ≤ k = position_hit o _ k q in omega arith in
          rw (lt-ltb k (length o) (omega (arith, position_end o (at e (pred (length e))))), ne_eqb _ _ other, lt-ltb _ _ h)

      latter : position o (at e (pred (length e))) ≤ position o (at e 0) → (ltb k (length o) && not (eqb (at o k) (at e (pred (length e))))) ≡ upward o e
      latter h =
          ⊎_elim
          (λ (l : k < length o).
          let same : at o k ≡ at e (pred (length e)) = ap (at o) (let z : k ≡ position o (at e (pred (length e))) = omega arith in z) ∙ position_found o (at e (pred (length e))) (omega arith) in
          rw (lt-ltb k (length o) l, eq-eqb _ _ same, le-ltb _ _ h))
          (λ (l : length o ≤ k). rw (le-ltb k (length o) l, le-ltb _ _ h))
          (less? k (length o))

-- the place of an ear, by that search
pub place_found : {k i : ℕ} {u : Bool} (o e : List ℕ) → 0 < length e
    → k ≡ min (position o (at e 0)) (position o (at e (length e - 1)))
    → i ≡ min (k + 1) (length o)
    → u ≡ (ltb k (length o) && not (eqb (at o k) (at e (length e - 1))))
    → record { at = i; upward = u } ≡ place_in o e
place_found {k} {i} {u} o e l s t v =
    let last : length e - 1 ≡ pred (length e) = omega arith in
    let found : k ≡ min (position o (at e 0)) (position o (at e (pred (length e)))) = s ∙ ap (λ (j : ℕ). min (position o (at e 0)) (position o (at e j))) last in
    ap₂ (λ (x : ℕ) (y : Bool). record { at = x; upward = y })
    (let z : i ≡ min (suc (position o (at (from_a o e) 0))) (length o) = omega (arith, found_a o e found l) in z)
    (v ∙ ap (λ (j : ℕ). ltb k (length o) && not (eqb (at o k) (at e j))) last ∙ found_upward o e found)

-- the numbers between the ends, of an ear turned round
between_reverse : (e : List ℕ) → between (reverse e) ≡ reverse (between e)
between_reverse e =
    ext_get_or 0 (between (reverse e)) (reverse (between e))
    (omega (arith, long, length-reverse (between e), between_length e))
    (λ k h.
    between_at (reverse e) k (omega (arith, long, length-reverse e))
    ∙ at_reverse e (suc k) (omega (arith, long))
    ∙ at_same e _ _ (omega (arith, long, between_length e))
    ∙ sym (at_reverse (between e) k (omega (arith, long, between_length e)) ∙ between_at e (length (between e) - suc k) (omega (arith, long, between_length e))))
  where
    long : length (between (reverse e)) ≡ pred (pred (length e))
    long = between_length (reverse e) ∙ ap (λ (k : ℕ). pred (pred k)) (length-reverse e)

-- an index past the end counts as the end
put_within : {r : ℕ} (o new : List ℕ) (m : ℕ) → r ≡ min m (length o) → put o new r ≡ put o new m
put_within {r} o new m h =
    ap₂ (λ (x y : List ℕ). x ++ (new ++ y)) (least_take m o h)
    (⊎_elim
    (λ (l : m < length o). ap (λ (k : ℕ). drop k o) (let z : r ≡ m = omega arith in z))
    (λ (l : length o ≤ m). drop_of_length-le o {i = r} (omega arith) ∙ sym (drop_of_length-le o l))
    (less? m (length o)))

drop_take : (m n : ℕ) (l : List ℕ) → m ≤ n → m ≤ length l → drop m (take n l) ≡ take (n - m) (drop m l)
drop_take m n l h k =
    ap (λ (i : ℕ). drop m (take i l)) (let z : n ≡ m + (n - m) = omega arith in z)
    ∙ ap (drop m) (take-add m (n - m) l)
    ∙ drop_at (take m l) (take (n - m) (drop m l)) m (omega (arith, length-take m l))

-- new numbers written into a gap of their count: what stood from there on was moved up by it
filled : {g w : List ℕ} (o new : List ℕ) (i count n : ℕ) → i ≤ count → count + n ≤ length o
    → g ≡ take (i + n) o ++ (take (count - i) (drop i o) ++ drop (count + n) o)
    → w ≡ take i g ++ (new ++ drop (i + n) g)
    → w ≡ put (take count o) new i ++ drop (count + n) o
filled {g} {w} o new i count n h room q r =
    r
    ∙ ap₂ (λ (x y : List ℕ). x ++ (new ++ y)) below above
    ∙ sym (append_assoc (take i (take count o)) (new ++ drop i (take count o)) (drop (count + n) o) ∙ ap (λ (l : List ℕ). take i (take count o) ++ l) (append_assoc new (drop i (take count o)) (drop (count + n) o)))
  where
    moved : List ℕ
    moved = take (count - i) (drop i o) ++ drop (count + n) o

    opened : g ≡ take (i + n) o ++ moved
    opened = q

    long : length (take (i + n) o) ≡ i + n
    long = omega (arith, length-take (i + n) o)

    below : take i g ≡ take i (take count o)
    below =
        ap (take i) opened
        ∙ take-append-le i (take (i + n) o) moved (omega (arith, long))
        ∙ take-take i (i + n) o (omega arith)
        ∙ sym (take-take i count o h)

    above : drop (i + n) g ≡ drop i (take count o) ++ drop (count + n) o
    above =
        ap (drop (i + n)) opened
        ∙ drop_at (take (i + n) o) moved (i + n) (omega (arith, long))
        ∙ ap (λ (l : List ℕ). l ++ drop (count + n) o) (sym (drop_take i count o h (omega arith)))

-- the part of an ear between its ends
abbrev inner : List ℕ → List ℕ
inner e = take (length e - 1 - 1) (drop 1 e)

inner_between : (e : List ℕ) → inner e ≡ between e
unfolding between
inner_between e = ap (λ (k : ℕ). take k (drop 1 e)) (let z : length e - 1 - 1 ≡ pred (pred (length e)) = omega arith in z)

pub inner_length : (e : List ℕ) → length (inner e) ≡ length e - 2
inner_length e = omega (arith, length-take (length e - 1 - 1) (drop 1 e), length-drop 1 e)

-- the new switches of an ear from A to B, by the way it is written
module _ (o e : List ℕ) where
  between_up : upward o e ≡ true → inner e ≡ between (from_a o e)
  unfolding from_a
  between_up t = inner_between e ∙ ap (λ (b : Bool). between (cond b e (reverse e))) (sym t)

  between_down : upward o e ≡ false → reverse (inner e) ≡ between (from_a o e)
  unfolding from_a
  between_down f = ap reverse (inner_between e) ∙ sym (between_reverse e) ∙ ap (λ (b : Bool). between (cond b e (reverse e))) (sym f)

-- the new switches of a later ear, written at its place
module _ (o e : List ℕ) (count : ℕ) (some : 1 ≤ count) (room : count + (length e - 2) ≤ length o) {place : Place} (there : place ≡ place_in (take count o) e)
    {g w : List ℕ} (opened : g ≡ take (place.at + length (inner e)) o ++ (take (count - place.at) (drop place.at o) ++ drop (count + length (inner e)) o)) where
  inserted : (new : List ℕ) → new ≡ between (from_a (take count o) e) → w ≡ take place.at g ++ (new ++ drop (place.at + length (inner e)) g)
      → w ≡ extend (take count o) e ++ drop (count + (length e - 2)) o
  inserted new q t =
      let long : length (take count o) ≡ count = omega (arith, length-take count o) in
      let i : place.at ≡ min (suc (position (take count o) (at (from_a (take count o) e) 0))) (length (take count o)) = ap (λ (p : Place). p.at) there in
      filled o new place.at count (length (inner e)) (omega arith) (omega (arith, inner_length e)) opened t
      ∙ ap₂ (λ (l : List ℕ) (n : ℕ). l ++ drop (count + n) o)
      (put_within {r = place.at} (take count o) new _ i
      ∙ ap (λ (x : List ℕ). put (take count o) x (suc (position (take count o) (at (from_a (take count o) e) 0)))) q
      ∙ sym (extend_is (take count o) e (omega arith)))
      (inner_length e)

  pub inserted_up : place.upward ≡ true → w ≡ take place.at g ++ (inner e ++ drop (place.at + length (inner e)) g) → w ≡ extend (take count o) e ++ drop (count + (length e - 2)) o
  inserted_up u t = inserted (inner e) (between_up (take count o) e (sym (ap (λ (p : Place). p.upward) there) ∙ u)) t

  pub inserted_down : place.upward ≡ false → w ≡ take place.at g ++ (reverse (inner e) ++ drop (place.at + length (inner e)) g) → w ≡ extend (take count o) e ++ drop (count + (length e - 2)) o
  inserted_down u t = inserted (reverse (inner e)) (between_down (take count o) e (sym (ap (λ (p : Place). p.upward) there) ∙ u)) t

-- an ear of two numbers leaves the order as it is
pub extend_two : (o e : List ℕ) → 0 < length o → length e ≡ 2 → extend o e ≡ o
unfolding between
extend_two o e some two =
    let m : ℕ = suc (position o (at (from_a o e) 0)) in
    extend_is o e some
    ∙ ap (λ (k : ℕ). take m o ++ (take k (drop 1 (from_a o e)) ++ drop m o)) (let z : pred (pred (length (from_a o e))) ≡ 0 = omega (arith, (from_a_turned o e).long) in z)
    ∙ take-append-drop m o

-- a list kept at the start of an array, with room and without
with_room : {r : ℕ} {w : List ℕ} (l row : List ℕ) (old : ℕ) → length l ≡ r → r ≤ length row → w ≡ l ++ drop r row → (r ≡ placed_count l row old) × (w ≡ placed l row)
unfolding placed placed_count
with_room l row old e h q = rw (le-leb (length l) (length row) (omega arith)) (sym e, q ∙ ap (λ (k : ℕ). l ++ drop k row) (sym e))

pub without_room : (l row : List ℕ) (old : ℕ) → length row < length l → (old ≡ placed_count l row old) × (row ≡ placed l row)
unfolding placed placed_count
without_room l row old h = rw (lt-leb (length l) (length row) h) (refl, refl)

-- a first ear as written
pub first_placed : {w : List ℕ} (o e : List ℕ) → length e ≤ length o → w ≡ e ++ drop (length e) o → (length e ≡ placed_count e o 0) × (w ≡ placed e o)
first_placed o e l q = with_room e o 0 refl l q

-- one more ear, by the count r of the order
module _ {r : ℕ} (o e : List ℕ) (b : ℕ) (h : r ≡ min b (length o)) where
  -- its place, by the numbers that are in the order
  pub place_here : {place : Place} → place ≡ place_in (take b o) e → place ≡ place_in (take r o) e
  place_here q = q ∙ ap (λ (l : List ℕ). place_in l e) (sym (least_take b o h))

  extend_count : 0 < r → length (extend (take b o) e) ≡ r + (length e - 2)
  extend_count l =
      let t : List ℕ = take b o in
      let n : List ℕ = between (from_a t e) in
      let m : ℕ = suc (position t (at (from_a t e) 0)) in
      ap length (extend_is t e (omega (arith, length-take b o)))
      ∙ omega (
        arith,
        length-append (take m t) (n ++ drop m t),
        length-append n (drop m t),
        length-take m t,
        length-drop m t,
        length-take b o,
        between_length (from_a t e),
        (from_a_turned t e).long,
      )

  pub later_placed : {w : List ℕ} → 0 < r → r + (length e - 2) ≤ length o → w ≡ extend (take r o) e ++ drop (r + (length e - 2)) o
      → (r + (length e - 2) ≡ placed_count (extend (take b o) e) o b) × (w ≡ placed (extend (take b o) e) o)
  later_placed z l q = with_room (extend (take b o) e) o b (extend_count z) l (q ∙ ap (λ (t : List ℕ). extend t e ++ drop (r + (length e - 2)) o) (least_take b o h))

  pub later_not_placed : 0 < r → length o < r + (length e - 2) → (b ≡ placed_count (extend (take b o) e) o b) × (o ≡ placed (extend (take b o) e) o)
  later_not_placed z l = without_room (extend (take b o) e) o b (omega (arith, extend_count z))

  -- an ear of two numbers
  pub two_placed : 0 < r → length e ≡ 2 → (r ≡ placed_count (extend (take b o) e) o b) × (o ≡ placed (extend (take b o) e) o)
  two_placed z two =
      let none : r + (length e - 2) ≡ r = omega arith in
      let kept : o ≡ extend (take r o) e ++ drop (r + (length e - 2)) o =
      sym (ap₂ ◌++◌ (extend_two (take r o) e (omega (arith, length-take r o)) two) (ap (λ (k : ℕ). drop k o) none) ∙ take-append-drop r o)
      in
      let p = later_placed z (omega arith) kept in
      (sym none ∙ p.0, p.1)
