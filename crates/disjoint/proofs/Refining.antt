-- The arrays of the code do what traces and matchings do: its search is the search of a trace, its augmentation that along the trace.
-- The arrays have room for N + 1 entries and N marks.
use mathlib.Core.Path.{◌≡◌, refl, sym, ap, ◌∙◌, subst, fun_ext}
use mathlib.Core.Logic.{⊎_elim}
use mathlib.Core.Bool.{Bool, true, false, cond}
use mathlib.Core.List.{List}
use Prim.Native.Nat.{ℕ, zero, suc, ◌≤◌, ◌<◌}
use native.Mathlib.Omega.{arith}
use lib.Dec.{eqb, ltb}
use lib.ListN.{length, set, replicate, length-set}
use lib.Seq.{get_or-set_same, get_or-set_other}
use borrow.Author.Tests.{eq-eqb, ne_eqb}
use Rattle.mondschein.specs.Network.{at}
use Rattle.mondschein.proofs.Logic.{less?, same?}
use Rattle.rows.specs.Rows.{marked}
use Rattle.disjoint.specs.Matching.{Explored, entered, blank, augment}
use Rattle.disjoint.proofs.Alternating.{upd, Trace, start, enter, seen, alternate, upd_at, upd_off, Traced}

pub at_set : (l : List ℕ) (k v : ℕ) → k < length l → at (set l k v) ≡ upd (at l) k v
at_set l k v h = fun_ext (λ j. ⊎_elim
    (λ e. subst (λ (i : ℕ). at (set l k v) i ≡ v) (sym e) (get_or-set_same l k v 0 h) ∙ sym (upd_at (at l) k v j e))
    (λ d. get_or-set_other l k j v 0 d ∙ sym (upd_off (at l) k v j d))
    (same? j k))

-- the first c entries of two arrays, as a trace
unfoldable pub trace_of : List ℕ → List ℕ → ℕ → Trace
trace_of hs us zero = start
trace_of hs us (suc j) = enter (at hs j) (at us j) (trace_of hs us j)

abbrev pub trace : Explored → Trace
trace h = trace_of h.heads h.lefts h.count

trace_of_ext : (hs us hs' us' : List ℕ) (c : ℕ) → ((j : ℕ) → j < c → at hs j ≡ at hs' j) → ((j : ℕ) → j < c → at us j ≡ at us' j) → trace_of hs us c ≡ trace_of hs' us' c
unfolding trace_of
trace_of_ext hs us hs' us' zero p q = refl
trace_of_ext hs us hs' us' (suc c) p q =
    let r = trace_of_ext hs us hs' us' c (λ j l. p j (omega arith)) (λ j l. q j (omega arith)) in
    rw (p c (omega arith), q c (omega arith), r)

-- augmenting is alternating along the trace
module _ (k : ℕ) (hs us : List ℕ) where
  pub augment_length : (j : ℕ) (next : List ℕ) (w : ℕ) → length (augment k hs us j next w) ≡ length next
  unfolding augment
  augment_length zero next w = refl
  augment_length (suc j) next w = go (eqb (at hs j) w) (eqb (at us j) k) (augment_length j)
    where
      go : (b c : Bool) → ((next : List ℕ) (w : ℕ) → length (augment k hs us j next w) ≡ length next)
          → length {A = ℕ} (cond b (cond c (set next k w) (augment k hs us j (set next (at us j) w) (at next (at us j)))) (augment k hs us j next w)) ≡ length next
      go true true ih = length-set next k w
      go true false ih = ih _ _ ∙ length-set next (at us j) w
      go false c ih = ih next w

  pub augment_is : (j : ℕ) (next : List ℕ) (w : ℕ) → k < length next → ((i : ℕ) → i < j → at us i ≤ k) → at (augment k hs us j next w) ≡ alternate k (trace_of hs us j) (at next) w
  unfolding augment alternate trace_of
  augment_is zero next w l b = refl
  augment_is (suc j) next w l b = go (eqb (at hs j) w) (eqb (at us j) k) (λ n x m. augment_is j n x m (λ i m'. b i (omega arith)))
    where
      u : ℕ
      u = at us j

      tr : Trace
      tr = trace_of hs us j

      go : (x y : Bool) → ((n : List ℕ) (x : ℕ) → k < length n → at (augment k hs us j n x) ≡ alternate k tr (at n) x)
          → at (cond x (cond y (set next k w) (augment k hs us j (set next u w) (at next u))) (augment k hs us j next w))
          ≡ cond x (cond y (upd (at next) k w) (alternate k tr (upd (at next) u w) (at next u))) (alternate k tr (at next) w)
      go true true ih = at_set next k w l
      go true false ih =
          ih (set next u w) (at next u) (omega (arith, length-set next u w))
          ∙ ap (λ (f : ℕ → ℕ). alternate k tr f (at next u)) (at_set next u w (omega (arith, b j (omega arith))))
      go false y ih = ih next w l

pub record Agrees (h : Explored) (tr : Trace) : Type 0 where
  pub same : trace_of h.heads h.lefts h.count ≡ tr
  pub marks : (x : ℕ) → marked h.mark x ≡ seen tr x

pub enter_agrees : (h : Explored) (tr : Trace) (w u : ℕ) → Agrees h tr → w < length h.mark → h.count < length h.heads → h.count < length h.lefts → Agrees (entered h w u) (enter w u tr)
unfolding entered trace_of seen
enter_agrees h tr w u a lw lh lu =
    let c : ℕ = h.count in
    let hs : List ℕ = set h.heads c w in
    let us : List ℕ = set h.lefts c u in
    let e : trace_of hs us c ≡ trace_of h.heads h.lefts c = trace_of_ext hs us h.heads h.lefts c (λ j l. get_or-set_other h.heads c j w 0 (λ z. omega arith)) (λ j l. get_or-set_other h.lefts c j u 0 (λ z. omega arith)) in
    record {
      same = rw (get_or-set_same h.heads c w 0 lh, get_or-set_same h.lefts c u 0 lu, e ∙ a.same);
      marks = marks;
    }
  where
    marks : (x : ℕ) → marked (set h.mark w 1) x ≡ seen (enter w u tr) x
    marks x =
        ⊎_elim
        (λ q. rw (← q, get_or-set_same h.mark w 1 0 lw, eq-eqb w w refl))
        (λ d. rw (get_or-set_other h.mark w x 1 0 (λ q. d (sym q)), ne_eqb w x d) (a.marks x))
        (same? w x)

-- every number that an entry leaves is k or below
pub lefts_below : (n t : ℕ) (Edge : ℕ → ℕ → Type 0) (k : ℕ) (old : ℕ → ℕ) (hs us : List ℕ) (c : ℕ) → Traced n t Edge k old (trace_of hs us c) → (j : ℕ) → j < c → at us j ≤ k
unfolding Traced trace_of
lefts_below n t E k old hs us zero g j l = absurd (omega arith)
lefts_below n t E k old hs us (suc c) g j l =
    ⊎_elim
    (λ (h : j < c). lefts_below n t E k old hs us c g.1 j h)
    (λ (h : c ≤ j).
    let z : c ≡ j = omega arith in
    subst (λ (i : ℕ). at us i ≤ k) z (⊎_elim (λ e. omega arith) (λ (m, _). omega arith) g.0.cause))
    (less? j c)

zeros : (c x : ℕ) → at (replicate c 0) x ≡ 0
zeros zero x = refl
zeros (suc c) zero = refl
zeros (suc c) (suc x) = zeros c x

pub blank_marks : (x : ℕ) → marked blank.mark x ≡ seen start x
unfolding seen
blank_marks x = ap (ltb 0) (zeros 1024 x)
