-- What an alternating search ends with: its entries are a trace, and where it did not come to t, nothing more can be entered.
-- The entries are its queue: turn q leaves s, or the switch that entry q - 1 followed on.
use mathlib.Core.Path.{◌≡◌, refl, sym, ap, ◌∙◌, subst}
use mathlib.Core.Logic.{◌⊎◌, inl, inr, ⊎_elim, ◌≢◌}
use mathlib.Core.Bool.{Bool, true, false, not, ◌&&◌, ◌||◌, cond}
use mathlib.Core.List.{List}
use Prim.Native.Nat.{ℕ, zero, suc, ◌+◌, ◌*◌, ◌≤◌, ◌<◌}
use native.Mathlib.Omega.{arith}
use lib.Dec.{eqb, ltb}
use lib.ListN.{length, length-set, length-replicate, replicate}
use lib.Seq.{get_or-set_other}
use borrow.Author.Tests.{ltb-true, ltb-false, lt-ltb, eqb-true, eqb-false, not-true}
use Rattle.mondschein.specs.Network.{count, Network, at, size, Proper}
use Rattle.mondschein.proofs.Logic.{which, clash, less?, same?, and_true, or_true, true_and, and_false, or_false}
use Rattle.mondschein.proofs.Search.{count_lt, count_bound}
use Rattle.network.specs.Index.{far_end}
use Rattle.rows.specs.Rows.{marked}
use Rattle.rows.proofs.Assigned.{assigned_at}
use Rattle.disjoint.specs.Matching.{usable, left, Explored, entered, blank, leaving, inverse, enterable, enter, leave_by, leave, turns, explore}
use Rattle.disjoint.proofs.Alternating.{Trace, enter as record-entry, seen, seen_new, seen_old, seen_cases, seen_start, Matching, Entered, Traced}
use Rattle.disjoint.proofs.Edges.{joined_below, Edge, Near, near_below, half_near, near_half, is_usable, left_s, left_a, usable_edge}
use Rattle.disjoint.proofs.Refining.{trace_of, trace, enter_agrees, blank_marks}

-- entered but not left
abbrev pub cut_of : (ℕ → ℕ) → Trace → ℕ → Bool
cut_of next tr w = seen tr w && not (seen tr (next w))

-- nothing more can be entered: from s, or from a switch whose follower was entered, what is near is entered
abbrev pub Spread : Network → ℕ → ℕ → (ℕ → ℕ) → Trace → Type 0
Spread net s t next tr = (a b : ℕ) → Near net a b → a ≢ t → b ≢ s → (a ≡ s → b ≢ t) → (a ≡ s) ⊎ (seen tr (next a) ≡ true) → seen tr b ≡ true

module _ (net : Network) (s t : ℕ) (proper : Proper net) (ls : s < net.n) (lt : t < net.n) (k : ℕ) (nk : net.n ≤ k) (next : ℕ → ℕ) where
  -- the entries are a trace, the marks are its marks, and there is room
  pub record Explores (h : Explored) : Type 0 where
    pub traced : Traced net.n t (Edge net s t) k next (trace h)
    pub marks : (x : ℕ) → marked h.mark x ≡ seen (trace h) x
    pub room : (net.n ≤ length h.mark) × (length h.heads ≡ 1024) × (length h.lefts ≡ 1024)

  few : (hs us : List ℕ) (c : ℕ) → Traced net.n t (Edge net s t) k next (trace_of hs us c) → c ≤ count (seen (trace_of hs us c)) net.n
  unfolding Traced trace_of
  few hs us zero g = omega arith
  few hs us (suc c) g =
      omega (
        arith,
        few hs us c g.1,
        count_lt (seen (trace_of hs us c)) (seen (record-entry (at hs c) (at us c) (trace_of hs us c))) net.n (λ x _ y. seen_old (at hs c) (at us c) (trace_of hs us c) x y) (at hs c) g.0.below g.0.fresh (seen_new (at hs c) (at us c) (trace_of hs us c)),
      )

  -- entries are different switches
  entries_few : (h : Explored) → Explores h → h.count ≤ net.n
  entries_few h x = omega (arith, few h.heads h.lefts h.count x.traced, count_bound (seen (trace h)) net.n)

  -- as long as one is not entered, there is room
  entries_fewer : (h : Explored) → Explores h → (w : ℕ) → w < net.n → marked h.mark w ≡ false → h.count < net.n
  entries_fewer h x w l f =
      omega (
        arith,
        few h.heads h.lefts h.count x.traced,
        count_lt (seen (trace h)) (λ _. true) net.n (λ y _ _. refl) w l (sym (x.marks w) ∙ f) refl,
        count_bound (λ _. true) net.n,
      )

  -- one search state grows out of another
  record Grows (h h' : Explored) : Type 0 where
    marks : (x : ℕ) → marked h.mark x ≡ true → marked h'.mark x ≡ true
    counts : h.count ≤ h'.count
    heads : (j : ℕ) → j < h.count → at h'.heads j ≡ at h.heads j

  stays : (h : Explored) → Grows h h
  stays h = record { marks = λ x q. q; counts = omega arith; heads = λ j l. refl }

  onward : (h h' h'' : Explored) → Grows h h' → Grows h' h'' → Grows h h''
  onward h h' h'' a b =
      record {
        marks = λ x q. b.marks x (a.marks x q);
        counts = omega (arith, a.counts, b.counts);
        heads = λ j l. b.heads j (omega (arith, a.counts)) ∙ a.heads j l;
      }

  unmarked_before : (h h' : Explored) → Grows h h' → (y : ℕ) → marked h'.mark y ≡ false → marked h.mark y ≡ false
  unmarked_before h h' g y q = ⊎_elim (λ p. clash (g.marks y p) q) (λ p. p) (which (marked h.mark y))

  -- v may be left, or nothing is entered any more
  abbrev Open : ℕ → Explored → Type 0
  Open v h = (v ≡ s) ⊎ ((marked h.mark (next v) ≡ true) ⊎ (marked h.mark t ≡ true))

  open_grows : (v : ℕ) (h h' : Explored) → Grows h h' → Open v h → Open v h'
  open_grows v h h' g (inl e) = inl e
  open_grows v h h' g (inr (inl q)) = inr (inl (g.marks _ q))
  open_grows v h h' g (inr (inr q)) = inr (inr (g.marks _ q))

  -- w was entered from v where it could be
  abbrev Reached : ℕ → ℕ → Explored → Type 0
  Reached v w h = usable s t v w ≡ true → marked h.mark t ≡ false → marked h.mark w ≡ true

  reached_grows : (v w : ℕ) (h h' : Explored) → Grows h h' → Reached v w h → Reached v w h'
  reached_grows v w h h' g d us ft = g.marks _ (d us (unmarked_before h h' g t ft))

  -- one switch tried
  record Stepped (v w : ℕ) (h h' : Explored) : Type 0 where
    explores : Explores h'
    grows : Grows h h'
    done : Reached v w h'

  module _ (h : Explored) (x : Explores h) (v w : ℕ) (near : Near net v w) (o : Open v h) where
    entered_steps : usable s t v w ≡ true → marked h.mark t ≡ false → marked h.mark w ≡ false → h.count < 1024 → Stepped v w h (entered h w (left s k v))
    unfolding entered Traced
    entered_steps us ft fw lc =
        let u = left s k v in
        let (below-v, below-w) = near_below net proper v w near in
        let agrees = enter_agrees h (trace h) w u (record { same = refl; marks = x.marks }) (omega (arith, x.room, below-w)) (omega (arith, x.room)) (omega (arith, x.room)) in
        let en : Entered net.n t (Edge net s t) k next w u (trace h) = record {
          link = usable_edge net s t proper ls lt k nk v w near us;
          below = below-w;
          fresh = sym (x.marks w) ∙ fw;
          goes = sym (x.marks t) ∙ ft;
          cause = ⊎_elim
              (λ p. inl (left_s s k v p))
              (λ p. ⊎_elim (λ q. inl (left_s s k v q)) (⊎_elim
              (λ q. inr (subst (λ (z : ℕ). z < k) (sym (left_a s k v p)) (omega (arith, below-v)), subst (λ (z : ℕ). seen (trace h) (next z) ≡ true) (sym (left_a s k v p)) (sym (x.marks _) ∙ q)))
              (λ q. clash q ft)) o)
              (same? v s);
        } in
        let marks' : (y : ℕ) → marked (entered h w u).mark y ≡ seen (record-entry w u (trace h)) y = agrees.marks in
        record {
          explores = record {
            traced = subst (Traced net.n t (Edge net s t) k next) (sym agrees.same) (en, x.traced);
            marks = λ y. marks' y ∙ ap (λ (tr : Trace). seen tr y) (sym agrees.same);
            room = (omega (arith, x.room, length-set h.mark w 1), omega (arith, x.room, length-set h.heads h.count w), omega (arith, x.room, length-set h.lefts h.count u));
          };
          grows = record {
            marks = λ y q. marks' y ∙ seen_old w u (trace h) y (sym (x.marks y) ∙ q);
            counts = omega arith;
            heads = λ j m. get_or-set_other h.heads h.count j w 0 (λ z. omega arith);
          };
          done = λ _ _. marks' w ∙ seen_new w u (trace h);
        }

    steps_on : Stepped v w h (enter s t k v w h)
    unfolding enter
    steps_on = go (enterable s t k v w h) refl
      where
        go : (b : Bool) → enterable s t k v w h ≡ b → Stepped v w h (cond b (entered h w (left s k v)) h)
        go true q =
            let (us, r) = and_true (usable s t v w) _ q in
            let (ft, r') = and_true (not (marked h.mark t)) _ r in
            let (fw, lc) = and_true (not (marked h.mark w)) _ r' in
            entered_steps us (not-true _ ft) (not-true _ fw) (ltb-true _ _ lc)
        go false q =
            record {
              explores = x;
              grows = stays h;
              done = λ us ft. ⊎_elim
                  (λ y. y)
                  (λ y. clash (true_and _ _ (ap not y) (lt-ltb h.count 1024 (omega (arith, entries_fewer h x w (near_below net proper v w near).1 y, proper.switches)))) (and_false (not (marked h.mark t)) _ (and_false (usable s t v w) _ q us) (ap not ft)))
                  (which (marked h.mark w));
            }

  -- along the half-links of v from e on
  record Left (v e : ℕ) (h h' : Explored) : Type 0 where
    explores : Explores h'
    grows : Grows h h'
    done : (j : ℕ) → e ≤ j → j < 2 * size net → at net.links j ≡ v → Reached v (far_end net j) h'

  leaves : (v f e : ℕ) → e + f ≡ 2 * size net → (h : Explored) → Explores h → Open v h → Left v e h (leave_by net s t k v f e h)
  unfolding leave_by
  leaves v zero e l h x o = record { explores = x; grows = stays h; done = λ j m n. absurd (omega arith) }
  leaves v (suc f) e l h x o = go (eqb (at net.links e) v) refl (leaves v f (suc e) (omega arith))
    where
      go : (c : Bool) → eqb (at net.links e) v ≡ c → ((h : Explored) → Explores h → Open v h → Left v (suc e) h (leave_by net s t k v f (suc e) h)) → Left v e h (leave_by net s t k v f (suc e) (cond c (enter s t k v (far_end net e) h) h))
      go true q ih =
          let st = steps_on h x v (far_end net e) (half_near net v e (omega arith) (eqb-true (at net.links e) v q)) o in
          let h₁ = enter s t k v (far_end net e) h in
          let r = ih h₁ st.explores (open_grows v h h₁ st.grows o) in
          let h₂ = leave_by net s t k v f (suc e) h₁ in
          record {
            explores = r.explores;
            grows = onward h h₁ h₂ st.grows r.grows;
            done = λ j m n p. ⊎_elim
                (λ (z : e ≡ j). reached_grows v (far_end net j) h₁ h₂ r.grows (subst (λ (y : ℕ). Reached v (far_end net y) h₁) z st.done))
                (λ (z : e ≢ j). r.done j (omega arith) n p)
                (same? e j);
          }
      go false q ih =
          let r = ih h x o in
          record {
            explores = r.explores;
            grows = r.grows;
            done = λ j m n p. ⊎_elim
                (λ (z : e ≡ j). absurd (eqb-false (at net.links e) v q (ap (at net.links) z ∙ p)))
                (λ (z : e ≢ j). r.done j (omega arith) n p)
                (same? e j);
          }

  -- all that is near v was entered where it could be
  abbrev Done : ℕ → Explored → Type 0
  Done v h = (w : ℕ) → Near net v w → Reached v w h

  done_grows : (v : ℕ) (h h' : Explored) → Grows h h' → Done v h → Done v h'
  done_grows v h h' g d w n = reached_grows v w h h' g (d w n)

  leaves_all : (v : ℕ) (h : Explored) → Explores h → Open v h → Explores (leave net s t k v h) × Grows h (leave net s t k v h) × Done v (leave net s t k v h)
  unfolding leave
  leaves_all v h x o = go (ltb v net.n) refl
    where
      h₁ : Explored
      h₁ = leave_by net s t k v (2 * size net) 0 h

      h₂ : Explored
      h₂ = enter s t k v v h₁

      go : (c : Bool) → ltb v net.n ≡ c → Explores (cond c h₂ h) × Grows h (cond c h₂ h) × Done v (cond c h₂ h)
      go true c =
          let r = leaves v (2 * size net) 0 (omega arith) h x o in
          let st = steps_on h₁ r.explores v v (inl (ltb-true v net.n c, refl)) (open_grows v h h₁ r.grows o) in (
            st.explores,
            onward h h₁ h₂ r.grows st.grows,
            λ w. ⊎_elim
                (λ (_, q). subst (λ (z : ℕ). Reached v z h₂) q st.done)
                (λ j.
                let (e, l, p, q) = near_half net v w j in
                reached_grows v w h₁ h₂ st.grows (subst (λ (z : ℕ). Reached v z h₁) q (r.done e (omega arith) l p))),
          )
      go false c = (x, stays h, λ w near. absurd (omega (arith, ltb-false v net.n c, (near_below net proper v w near).0)))

  seen_entry : (hs us : List ℕ) (c x : ℕ) → seen (trace_of hs us c) x ≡ true → (j : ℕ) × (j < c) × (at hs j ≡ x)
  unfolding trace_of
  seen_entry hs us zero x h = seen_start x h
  seen_entry hs us (suc c) x h =
      ⊎_elim
      (λ e. (c, omega arith, e))
      (λ y. let (j, l, q) = seen_entry hs us c x y in (j, omega (arith, l), q))
      (seen_cases (at hs c) (at us c) (trace_of hs us c) x h)

  trace_entry : (hs us : List ℕ) (c : ℕ) → Traced net.n t (Edge net s t) k next (trace_of hs us c) → (j : ℕ) → j < c → (at hs j < net.n) × (seen (trace_of hs us c) (at hs j) ≡ true)
  unfolding Traced trace_of
  trace_entry hs us zero g j l = absurd (omega arith)
  trace_entry hs us (suc c) g j l =
      ⊎_elim
      (λ (m : j < c). let (a, b) = trace_entry hs us c g.1 j m in (a, seen_old (at hs c) (at us c) (trace_of hs us c) (at hs j) b))
      (λ (m : c ≤ j).
      let z : c ≡ j = omega arith in
      (subst (λ (y : ℕ). at hs y < net.n) z g.0.below, subst (λ (y : ℕ). seen (record-entry (at hs c) (at us c) (trace_of hs us c)) (at hs y) ≡ true) z (seen_new (at hs c) (at us c) (trace_of hs us c))))
      (less? j c)

  -- the queue
  module _ (previous : List ℕ) (inv : (w : ℕ) → w < net.n → w ≢ t → next (at previous w) ≡ w) where
    opens : (h : Explored) → Explores h → (q : ℕ) → q ≤ h.count → Open (leaving s previous h.heads q) h
    unfolding leaving
    opens h x zero l = inl refl
    opens h x (suc q) l =
        let (b, y) = trace_entry h.heads h.lefts h.count x.traced q (omega arith) in
        let f : marked h.mark (at h.heads q) ≡ true = x.marks _ ∙ y in
        ⊎_elim
        (λ e. inr (inr (subst (λ (z : ℕ). marked h.mark z ≡ true) e f)))
        (λ d. inr (inl (subst (λ (z : ℕ). marked h.mark z ≡ true) (sym (inv (at h.heads q) b d)) f)))
        (same? (at h.heads q) t)

    same_leaving : (h h' : Explored) → Grows h h' → (q : ℕ) → q ≤ h.count → leaving s previous h'.heads q ≡ leaving s previous h.heads q
    unfolding leaving
    same_leaving h h' g zero l = refl
    same_leaving h h' g (suc q) l = ap (at previous) (g.heads q (omega arith))

    -- every entry had its turn, unless t was entered
    record Ended (r : Explored) : Type 0 where
      explores : Explores r
      done : marked r.mark t ≡ false → (q : ℕ) → q ≤ r.count → Done (leaving s previous r.heads q) r

    abbrev Turned : ℕ → Explored → Type 0
    Turned q h = (q' : ℕ) → q' < q → Done (leaving s previous h.heads q') h

    ended : (f q : ℕ) (h : Explored) → Explores h → q ≤ suc h.count → Turned q h → net.n < q + f → Ended (turns net s t k previous f q h)
    unfolding turns
    ended zero q h x l d m = record { explores = x; done = λ _ q' n. d q' (omega (arith, entries_few h x)) }
    ended (suc f) q h x l d m = go (ltb h.count q || marked h.mark t) refl (ended f (suc q))
      where
        h' : Explored
        h' = leave net s t k (leaving s previous h.heads q) h

        go : (c : Bool) → (ltb h.count q || marked h.mark t) ≡ c
            → ((h : Explored) → Explores h → suc q ≤ suc h.count → Turned (suc q) h → net.n < suc q + f → Ended (turns net s t k previous f (suc q) h))
            → Ended (cond c h (turns net s t k previous f (suc q) h'))
        go true y ih =
            record {
              explores = x;
              done = λ ft q' n. ⊎_elim
                  (λ z. d q' (omega (arith, ltb-true h.count q z)))
                  (λ z. clash z ft)
                  (or_true (ltb h.count q) _ y);
            }
        go false y ih =
            let lq : q ≤ h.count = ltb-false h.count q (or_false _ _ y).0 in
            let (x', g, dn) = leaves_all (leaving s previous h.heads q) h x (opens h x q lq) in
            ih h' x' (omega (arith, g.counts))
            (λ q' n. subst (λ (v : ℕ). Done v h') (sym (same_leaving h h' g q' (omega arith)))
            (⊎_elim
            (λ (z : q' < q). done_grows (leaving s previous h.heads q') h h' g (d q' z))
            (λ (z : q ≤ q'). subst (λ (y : ℕ). Done (leaving s previous h.heads y) h') (let y : q ≡ q' = omega arith in y) dn)
            (less? q' q)))
            (omega arith)

    -- where t is not entered, nothing more can be entered
    closes : (r : Explored) → Ended r → ((a : ℕ) → a < k → next a ≢ t → at previous (next a) ≡ a) → marked r.mark t ≡ false → Spread net s t next (trace r)
    unfolding leaving
    closes r en pa ft a b near na nb nc from =
        let us : usable s t a b ≡ true = is_usable s t a b na nb nc in
        sym (en.explores.marks b) ∙ ⊎_elim
        (λ p. en.done ft 0 (omega arith) b (subst (λ (z : ℕ). Near net z b) p near) (subst (λ (z : ℕ). usable s t z b ≡ true) p us) ft)
        (λ y.
        let (j, lj, q) = seen_entry r.heads r.lefts r.count (next a) y in
        let nt : next a ≢ t = λ z. clash (en.explores.marks t ∙ subst (λ (v : ℕ). seen (trace r) v ≡ true) z y) ft in
        let e : at previous (at r.heads j) ≡ a = ap (at previous) q ∙ pa a (omega (arith, (near_below net proper a b near).0)) nt in
        en.done ft (suc j) (omega (arith, lj)) b (subst (λ (z : ℕ). Near net z b) (sym e) near) (subst (λ (z : ℕ). usable s t z b ≡ true) (sym e) us) ft)
        from

-- the search from copy k in a matching
module _ (net : Network) (s t : ℕ) (proper : Proper net) (ls : s < net.n) (lt : t < net.n) (k : ℕ) (nk : net.n ≤ k) (next : List ℕ) (m : Matching net.n t (Edge net s t) k (at next)) where
  followed_below : (u : ℕ) → u < k → at next u < net.n
  followed_below u l = ⊎_elim (λ (a, b). subst (λ (z : ℕ). z < net.n) b a) (λ q. (joined_below net proper _ _ q.0).1) (m.edge u l)

  inverse_at : (a : ℕ) → a < k → at next a ≢ t → at (inverse next k) (at next a) ≡ a
  inverse_at a l d =
      assigned_at (replicate 1024 0) (at next) (λ u. u) k a l (omega (arith, followed_below a l, length-replicate {A = ℕ} 1024 0, proper.switches))
      (λ j n q. m.one j a n l q (λ z. d (sym q ∙ z)))

  previous_is : (w : ℕ) → w < net.n → w ≢ t → at next (at (inverse next k) w) ≡ w
  previous_is w l d =
      let (a, la, q) = m.onto w l d d in
      ap (at next) (ap (at (inverse next k)) (sym q) ∙ inverse_at a la (λ z. d (sym q ∙ z))) ∙ q

  begun : Explores net s t proper ls lt k nk (at next) blank
  unfolding trace_of Traced
  begun =
      record {
        traced = tt;
        marks = blank_marks;
        room = (omega (arith, length-replicate {A = ℕ} 1024 0, proper.switches), length-replicate {A = ℕ} 1024 0, length-replicate {A = ℕ} 1024 0);
      }

  whole : Ended net s t proper ls lt k nk (at next) (inverse next k) previous_is (explore net s t k next)
  unfolding explore
  whole = ended net s t proper ls lt k nk (at next) (inverse next k) previous_is (suc net.n) 0 blank begun (omega arith) (λ q l. absurd (omega arith)) (omega arith)

  pub explored : Explores net s t proper ls lt k nk (at next) (explore net s t k next)
  explored = whole.explores

  -- a search that did not come to t left nothing that can be entered
  pub explored_closed : marked (explore net s t k next).mark t ≡ false → Spread net s t (at next) (trace (explore net s t k next))
  explored_closed = closes net s t proper ls lt k nk (at next) (inverse next k) previous_is (explore net s t k next) whole inverse_at
