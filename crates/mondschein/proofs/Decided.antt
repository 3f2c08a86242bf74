-- Document 01's rules of the order and of the tables leave no choice: whatever obeys them is what is computed.
-- The proof uses how the order begins and what each ear inserts, and every rule of the tables.
use mathlib.Core.Path.{◌≡◌, sym, ap, ap₂, ◌∙◌, subst}
use mathlib.Core.Logic.{⊎_elim}
use mathlib.Core.Bool.{Bool, true, cond}
use mathlib.Core.List.{List, [], ◌∷◌, ◌++◌, reverse, append_assoc}
use Prim.Native.Nat.{ℕ, zero, suc, pred, ◌+◌, ◌<◌}
use native.Mathlib.Omega.{arith}
use lib.ListN.{length, take, drop, length-append}
use lib.Seq.{get_or-append-add, take_at, drop_at}
use borrow.Author.Tests.{lt-ltb}
use Rattle.mondschein.specs.Network.{Network, at, Simple, size, Proper, Ears, ear_at, birth, used}
use Rattle.mondschein.specs.Order.{position, from_a, between, extend, order_after, course, Rule, lowest, shortest, parent1, parent2, parent3_of, parent_of}
use Rattle.mondschein.specs.Mondschein.{Birth}
use Rattle.mondschein.specs.Routes.{Tree, Earlier, Next, FromA, Inserted, OrderRules, Course, LowestThird, ThirdBy, TableRules}
use Rattle.mondschein.specs.Lists.{RulesDecide}
use Rattle.mondschein.proofs.Logic.{same?}
use Rattle.mondschein.proofs.Lists.{at_same}
use Rattle.mondschein.proofs.Births.{Passing, birth_unique}
use Rattle.mondschein.proofs.Order.{position_is, Fits, from_a_reverse, turned_simple, put, extend_is}
use Rattle.mondschein.proofs.Growth.{order_suc, order_one, grown, later_fits, course_turned, parent1_root, parent2_root, parent2_first}
use Rattle.mondschein.proofs.Routes.{by_tree}
use Rattle.mondschein.proofs.Trees.{lowest_third, third_lowest, before, after}
use Rattle.mondschein.proofs.Complete.{complete, complete_used}
use Rattle.mondschein.proofs.Thirds.{shortest_decided}

-- what stands once in a list has one position
position_once : (o : List ℕ) → Simple o → (k x : ℕ) → k < length o → at o k ≡ x → position o x ≡ k
position_once o s k x l q = position_is o x k l q (λ j m e. let z = s j k (omega arith) l (e ∙ sym q) in omega arith)

-- the writing from A to B
written_up : (o c : List ℕ) → Simple o → Earlier o (at c 0) (at c (pred (length c))) → from_a o c ≡ c
unfolding from_a
written_up o c s (j, k, l, m, p, q) =
    ap (λ (b : Bool). cond b c (reverse c))
    (lt-ltb _ _ (let a = position_once o s j (at c 0) (omega arith) p in let b = position_once o s k (at c (pred (length c))) m q in let z : position o (at c 0) < position o (at c (pred (length c))) = omega arith in z))

from_a_lem : (o e c : List ℕ) → Simple o → Fits o e → FromA o e c → c ≡ from_a o e
from_a_lem o e c s f x =
    ⊎_elim
    (λ (q : c ≡ e). sym (written_up o c s x.upward) ∙ ap (from_a o) q)
    (λ (q : c ≡ reverse e). sym (written_up o c s x.upward) ∙ ap (from_a o) q ∙ from_a_reverse o e f)
    x.turned

-- the insertion after A
inserted : (o e o' : List ℕ) → Simple o → Fits o e → Inserted o e o' → o' ≡ extend o e
inserted o e o' s f x =
    x.grown
    ∙ sym (append_assoc x.front (a ∷ []) (between c ++ x.back))
    ∙ ap₂ (λ (u v : List ℕ). u ++ (between c ++ v)) head tail
    ∙ ap (λ (z : List ℕ). put o (between z) (suc (position o (at z 0)))) (from_a_lem o e c s f x.from_a)
    ∙ sym (extend_is o e (omega (arith, some)))
  where
    c : List ℕ
    c = x.course

    a : ℕ
    a = at c 0

    parts : o ≡ (x.front ++ (a ∷ [])) ++ x.back
    parts = x.old ∙ sym (append_assoc x.front (a ∷ []) x.back)

    long : length (x.front ++ (a ∷ [])) ≡ suc (length x.front)
    long = omega (arith, length-append x.front (a ∷ []))

    some : length x.front < length o
    some = omega (arith, ap length x.old, length-append x.front (a ∷ x.back))

    here : at o (length x.front) ≡ a
    here =
        ap (λ (l : List ℕ). at l (length x.front)) x.old
        ∙ at_same (x.front ++ (a ∷ x.back)) (length x.front) (length x.front + 0) (omega arith)
        ∙ get_or-append-add x.front (a ∷ x.back) 0 0

    place : position o a ≡ length x.front
    place = position_once o s (length x.front) a some here

    head : x.front ++ (a ∷ []) ≡ take (suc (position o a)) o
    head = sym (ap (take (suc (position o a))) parts ∙ take_at (x.front ++ (a ∷ [])) x.back (suc (position o a)) (omega (arith, long, place)))

    tail : x.back ≡ drop (suc (position o a)) o
    tail = sym (ap (drop (suc (position o a))) parts ∙ drop_at (x.front ++ (a ∷ [])) x.back (suc (position o a)) (omega (arith, long, place)))

module _ (net : Network) (proper : Proper net) (es : Ears) (acc : Passing net es) (done : (l : ℕ) → l < size net → used net es l ≡ true) (o : ℕ → List ℕ) (rules : OrderRules net es o) where
  order_decided : (i : ℕ) → i < length es → o (suc i) ≡ order_after es (suc i)
  order_decided zero l = rules.starts ∙ sym (order_one net es acc l)
  order_decided (suc i) l =
      let g = grown net es acc (suc i) (omega arith) in
      inserted (order_after es (suc i)) (ear_at es (suc i)) _ g.simple (later_fits net es acc i l g)
      (subst (λ (z : List ℕ). Inserted z (ear_at es (suc i)) (o (suc (suc i)))) (order_decided i (omega arith)) (rules.inserts (suc i) (omega arith) l))
      ∙ sym (order_suc es (suc i) l)

  course_decided : (i : ℕ) (c : List ℕ) → i < length es → Course net es o i c → c ≡ course es i
  unfolding course
  course_decided zero c l x = x
  course_decided (suc i) c l x =
      let g = grown net es acc (suc i) (omega arith) in
      from_a_lem (order_after es (suc i)) (ear_at es (suc i)) c g.simple (later_fits net es acc i l g)
      (subst (λ (z : List ℕ). FromA z (ear_at es (suc i)) c) (order_decided i (omega arith)) x)

  course_simple : (i : ℕ) → i < length es → Simple (course es i)
  course_simple i l = turned_simple (ear_at es i) (course es i) (acc i l).simple (course_turned net es acc i)

  -- the course of the birth ear
  birth_course_lem : (i v : ℕ) (c : List ℕ) → Birth es i v → Course net es o i c → Simple c × (c ≡ course es (birth es v))
  birth_course_lem i v c b x =
      let q = course_decided i c b.below x in
      (subst Simple (sym q) (course_simple i b.below), q ∙ ap (course es) (sym (birth_unique es i v b)))

  -- what stands before and after a switch
  one_before : (c : List ℕ) → Simple c → (v x y : ℕ) → Next c x v → Next c y v → x ≡ y
  one_before c s v x y (j, l, p, q) (k, m, p', q') = sym p ∙ at_same c j k (let z = s (suc j) (suc k) l m (q ∙ sym q') in let w : j ≡ k = omega arith in w) ∙ p'

  one_after : (c : List ℕ) → Simple c → (v x y : ℕ) → Next c v x → Next c v y → x ≡ y
  one_after c s v x y (j, l, p, q) (k, m, p', q') = sym q ∙ at_same c (suc j) (suc k) (let z = s j k (omega arith) (omega arith) (p ∙ sym p') in let w : suc j ≡ suc k = omega arith in w) ∙ q'

  -- tree 3 of document 01
  lowest_decided : (q : ℕ → ℕ) → LowestThird net es q → (v : ℕ) → v < net.n → q v ≡ parent3_of net (birth es) lowest v
  lowest_decided q T v m =
      let r = lowest_third net proper es acc done in
      ⊎_elim
      (λ (z : v ≡ net.root). ap q z ∙ T.third.root ∙ sym r.root ∙ ap (parent3_of net (birth es) lowest) (sym z))
      (λ d. ⊎_elim
      (λ (z : v ≡ net.last). ap q z ∙ T.third.last ∙ sym r.last ∙ ap (parent3_of net (birth es) lowest) (sym z))
      (λ f. omega (arith, T.least v m d f _ (r.other v m d f), third_lowest net proper es acc done v d f _ (T.third.other v m d f)))
      (same? v net.last))
      (same? v net.root)

  third_decided : (rule : Rule) (q : ℕ → ℕ) → ThirdBy net es rule q → (v : ℕ) → v < net.n → q v ≡ parent3_of net (birth es) rule v
  third_decided lowest q T = lowest_decided q T
  third_decided shortest q T = shortest_decided net proper es acc done q T

  module _ (rule : Rule) (p : ℕ → ℕ → ℕ) (t : TableRules net es rule o p) where
    first_decided : (v : ℕ) → v < net.n → p 1 v ≡ parent1 net es v
    first_decided v m =
        ⊎_elim
        (λ (z : v ≡ net.root). ap (p 1) z ∙ t.root 1 (omega arith) ∙ sym z ∙ sym (parent1_root net es v z))
        (λ d.
        let (i, c, b, x, n) = t.tree1 v m d in
        let (s, q) = birth_course_lem i v c b x in
        one_before c s v (p 1 v) (parent1 net es v) n (subst (λ (l : List ℕ). Next l (parent1 net es v) v) (sym q) (before net proper es acc done v m d)))
        (same? v net.root)

    second_decided : (v : ℕ) → v < net.n → p 2 v ≡ parent2 net es v
    second_decided v m =
        ⊎_elim
        (λ (z : v ≡ net.root). ap (p 2) z ∙ t.root 2 (omega arith) ∙ sym z ∙ sym (parent2_root net es v z))
        (λ d. ⊎_elim
        (λ (z : v ≡ net.first). ap (p 2) z ∙ t.first2 ∙ sym (parent2_first net es v d z))
        (λ f.
        let (i, c, b, x, n) = t.tree2 v m d f in
        let (s, q) = birth_course_lem i v c b x in
        one_after c s v (p 2 v) (parent2 net es v) n (subst (λ (l : List ℕ). Next l v (parent2 net es v)) (sym q) (after net proper es acc done v m d f)))
        (same? v net.first))
        (same? v net.root)

    tables_decided : (u v : ℕ) → Tree u → v < net.n → p u v ≡ parent_of rule net es u v
    unfolding parent_of
    tables_decided u v m l = by_tree (λ u. p u v ≡ parent_of rule net es u v) (first_decided v l) (second_decided v l) (third_decided rule (p 3) t.tree3 v l) u m

pub rules_decide : RulesDecide
rules_decide net es proper M o rules =
    let acc = complete net proper es M in
    let done = complete_used net proper es M in
    (order_decided net proper es acc done o rules, tables_decided net proper es acc done o rules)
