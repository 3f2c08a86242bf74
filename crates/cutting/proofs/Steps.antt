-- Laws of the steps along the order, in the code's own comparisons and sums: what is passed, the zones that are written, and the cut that
-- they are written by. The proofs of the functions cite them.
use Rattle.std.proofs.Common.{◌≡◌, refl, sym, ap, ap₂, ◌∙◌, subst, ◌⊎◌, inl, inr, ⊎_elim, ◌≢◌, List, ℕ, zero, suc, ◌+◌, ◌-◌, ◌≤◌, ◌<◌, min, add-one, arith, eqb, ltb, length, set, replicate, lt-ltb, le-ltb, eq-eqb, ne_eqb, eqb-true}
use Rattle.std.proofs.Math.Seq.{set_out}
use Rattle.std.proofs.lemmas.List.{length-replicate, get_or-replicate, set-get_or}
use Rattle.mondschein.specs.Network.{low, count, at}
use Rattle.mondschein.proofs.Logic.{less?, same?, trichotomy}
use Rattle.mondschein.proofs.Search.{low_is, low_stop, count_bound}
use Rattle.rows.specs.Rows.{assigned}
use Rattle.rows.proofs.Assigned.{at_set, assigned_length, assigned_more}
use Rattle.zones.specs.Cut.{birth_in, older, in_ear, ahead, zone_at, cut_ear, taken, share, zone_in, zones_by}
use Rattle.zones.proofs.Tally.{older_hit, older_skip, in_ear_hit, in_ear_skip, older_past, in_ear_past, old₁, old₂, late₃}
use Rattle.cutting.specs.declared.Found.{Found}
use Rattle.cutting.specs.declared.Cut.{Cut}
use Rattle.cutting.specs.declared.Passed.{Passed}
use Rattle.cutting.specs.Cutting.{found_in, cut_of, past_older, past_new, zone_older, zone_new, past, placed, share_of, zone_by}

module _ (p : Passed) (c : Cut) where
  pub new_first : {s u r : ℕ} → p.new ≡ 0 → s ≡ c.one - p.older → u ≡ min c.taken s → r ≡ c.one - u
      → ◌≡◌ {A = Passed} (record { older = p.older; new = 1; old = r; share = u }) (past_new p c)
  unfolding past_new
  new_first e f g h = rw (eq-eqb p.new 0 e, h, g, f)

  pub new_next : p.new ≢ 0 → ◌≡◌ {A = Passed} (record { older = p.older; new = p.new + 1; old = p.old; share = p.share }) (past_new p c)
  unfolding past_new
  new_next d = rw (ne_eqb p.new 0 d, add-one)

-- the zones by the comparisons
pub older_1 : (older old : ℕ) → older < old → 1 ≡ zone_older older old
unfolding zone_older
older_1 older old l = rw (lt-ltb older old l)

pub older_2 : (older old : ℕ) → old ≤ older → 2 ≡ zone_older older old
unfolding zone_older
older_2 older old l = rw (le-ltb older old l)

-- a switch by its birth: older, of the ear, or born later
module _ (row : List ℕ) (switch birth : ℕ) (p : Passed) (c : Cut) where
  pub by_older : birth < c.ear → (past birth p c ≡ past_older p) × (placed row switch birth p c ≡ set row switch (zone_older p.older p.old))
  unfolding past placed
  by_older h = (rw (lt-ltb birth c.ear h), rw (lt-ltb birth c.ear h))

  pub by_new : birth ≡ c.ear → (past birth p c ≡ past_new p c) × (placed row switch birth p c ≡ set row switch (zone_new p.new (past_new p c).share c.left))
  unfolding past placed
  by_new h = (rw (le-ltb birth c.ear (omega arith), eq-eqb birth c.ear h), rw (le-ltb birth c.ear (omega arith), eq-eqb birth c.ear h))

  pub by_later : c.ear ≤ birth → birth ≢ c.ear → (past birth p c ≡ p) × (placed row switch birth p c ≡ row)
  unfolding past placed
  by_later h d = (rw (le-ltb birth c.ear h, ne_eqb birth c.ear d), rw (le-ltb birth c.ear h, ne_eqb birth c.ear d))

module _ (o births : List ℕ) (c : Cut) where
  abbrev b : ℕ → ℕ
  b = birth_in births

  abbrev i : ℕ
  i = c.ear

  abbrev u : ℕ
  u = share_of o births c

  -- what is passed before index k; the shares are known where a switch of the ear is among it
  pub record Along (k : ℕ) (p : Passed) : Type 0 where
    pub older_is : p.older ≡ older o (birth_in births) c.ear k
    pub new_is : p.new ≡ in_ear o (birth_in births) c.ear k
    pub shares : ((p.new ≡ 0) × (p.old ≡ c.one)) ⊎ ((0 < p.new) × (p.share ≡ share_of o births c) × (p.old ≡ c.one - share_of o births c))

  pub along_begin : Along 0 (record { older = 0; new = 0; old = c.one; share = 0 })
  unfolding older in_ear count
  along_begin = record { older_is = refl; new_is = refl; shares = inl (refl, refl) }

  pub along_le : {k : ℕ} {p : Passed} → Along k p → (p.older ≤ k) × (p.new ≤ k)
  unfolding older in_ear
  along_le {k} h = (omega (arith, h.older_is, count_bound (λ j. ltb (b (at o j)) i) k), omega (arith, h.new_is, count_bound (λ j. eqb (b (at o j)) i) k))

  -- the first switch of the ear
  abbrev f : ℕ
  f = low (λ j. eqb (b (at o j)) i) (length o)

  share_le : u ≤ c.one - older o b i f
  unfolding share_of ahead
  share_le = omega arith

  zone_in_lem : (k : ℕ) → b (at o k) ≡ i → zone_new (in_ear o b i k) u c.left ≡ zone_by o births c k
  unfolding zone_new zone_by zone_at
  zone_in_lem k g = rw (le-ltb (b (at o k)) i (omega arith), le-ltb i (b (at o k)) (omega arith))

  -- the switch at index k is passed
  module _ {k : ℕ} {p : Passed} (h : Along k p) (l : k < length o) where
    -- before the first switch of the ear zone 1 has older switches up to its size
    before_first : p.new ≡ 0 → b (at o k) < i → older o b i k < older o b i f
    before_first e g =
        ⊎_elim
        (λ (m : k < f). older_past o b i k f m g)
        (λ (m : f ≤ k).
        let z : b (at o f) ≡ i = eqb-true _ _ ((low_is (λ j. eqb (b (at o j)) i) (length o)).hit (omega arith)) in
        ⊎_elim
        (λ (n : f < k). absurd (omega (arith, h.new_is, in_ear_past o b i f k n z)))
        (λ (n : k ≤ f). absurd (omega (arith, ap (λ (j : ℕ). b (at o j)) (let y : f ≡ k = omega arith in y))))
        (less? f k))
        (less? k f)

    zone_older_lem : b (at o k) < i → zone_older p.older p.old ≡ zone_by o births c k
    unfolding zone_by
    zone_older_lem g =
        ⊎_elim
        (λ (m : p.older < p.old).
        sym (older_1 _ _ m)
        ∙ sym (old₁ o b i (c.one - u) u (u + c.left) k g
        (⊎_elim (λ (e, q). omega (arith, h.older_is, share_le, before_first e g)) (λ (e, q, r). omega (arith, h.older_is)) h.shares)))
        (λ (m : p.old ≤ p.older).
        sym (older_2 _ _ m)
        ∙ sym (old₂ o b i (c.one - u) u (u + c.left) k g
        (⊎_elim (λ (e, q). omega (arith, h.older_is)) (λ (e, q, r). omega (arith, h.older_is)) h.shares)))
        (less? p.older p.old)

    along_older : b (at o k) < i → Along (suc k) (past_older p)
    unfolding past_older
    along_older g =
        record {
          older_is = ap suc h.older_is ∙ sym (older_hit o b i k g);
          new_is = h.new_is ∙ sym (in_ear_skip o b i k (λ e. omega arith));
          shares = h.shares;
        }

    -- at the first switch of the ear the older ones ahead are counted
    ahead_is : p.new ≡ 0 → b (at o k) ≡ i → p.older ≡ ahead o b i
    unfolding ahead
    ahead_is e g =
        h.older_is
        ∙ sym (ap (older o b i) (low_stop (λ j. eqb (b (at o j)) i) (length o) k
        (λ j m. ne_eqb (b (at o j)) i (λ z. omega (arith, h.new_is, in_ear_past o b i j k m z))) l (eq-eqb (b (at o k)) i g)))

    past_new_lem : b (at o k) ≡ i → ((past_new p c).older ≡ p.older) × ((past_new p c).new ≡ suc p.new) × ((past_new p c).share ≡ u) × ((past_new p c).old ≡ c.one - u)
    unfolding share_of
    past_new_lem g =
        ⊎_elim
        (λ (e : p.new ≡ 0).
        let z = new_first p c e refl refl refl in
        let y : min c.taken (c.one - p.older) ≡ u = ap (λ (a : ℕ). min c.taken (c.one - a)) (ahead_is e g) in (
          sym (ap (λ (q : Passed). q.older) z),
          sym (ap (λ (q : Passed). q.new) z) ∙ ap suc (sym e),
          sym (ap (λ (q : Passed). q.share) z) ∙ y,
          sym (ap (λ (q : Passed). q.old) z) ∙ ap (λ (a : ℕ). c.one - a) y,
        ))
        (λ (d : p.new ≢ 0).
        let z = new_next p c d in
        ⊎_elim
        (λ (e, q). absurd (d e))
        (λ (e, q, r). (
          sym (ap (λ (q : Passed). q.older) z),
          sym (ap (λ (q : Passed). q.new) z) ∙ add-one p.new,
          sym (ap (λ (q : Passed). q.share) z) ∙ q,
          sym (ap (λ (q : Passed). q.old) z) ∙ r,
        ))
        h.shares)
        (same? p.new 0)

    zone_new_lem : b (at o k) ≡ i → zone_new p.new (past_new p c).share c.left ≡ zone_by o births c k
    zone_new_lem g = ap₂ (λ (x y : ℕ). zone_new x y c.left) h.new_is (past_new_lem g).2 ∙ zone_in_lem k g

    along_new : b (at o k) ≡ i → Along (suc k) (past_new p c)
    along_new g =
        let (e, n, q, r) = past_new_lem g in
        record {
          older_is = e ∙ h.older_is ∙ sym (older_skip o b i k (omega arith));
          new_is = n ∙ ap suc h.new_is ∙ sym (in_ear_hit o b i k g);
          shares = inr (omega arith, q, r);
        }

    along_later : i < b (at o k) → Along (suc k) p
    along_later g =
        record {
          older_is = h.older_is ∙ sym (older_skip o b i k (omega arith));
          new_is = h.new_is ∙ sym (in_ear_skip o b i k (λ e. omega arith));
          shares = h.shares;
        }

  -- a switch that is born later than the ear is in zone 3 all along
  module _ (places : ℕ) where
    abbrev done : ℕ → List ℕ
    done k = assigned (replicate places 3) (at o) (zone_by o births c) k

    done_length : (k : ℕ) → length (done k) ≡ places
    done_length k = assigned_length (replicate places 3) (at o) (zone_by o births c) k ∙ length-replicate {A = ℕ} places 3

    later_3 : (k : ℕ) → i < b (at o k) → zone_by o births c k ≡ 3
    unfolding zone_by
    later_3 k g = late₃ o b i (c.one - u) u (u + c.left) k g

    kept : (k x : ℕ) → i < b x → x < places → at (done k) x ≡ 3
    unfolding assigned
    kept zero x g m = get_or-replicate places x 3 0 m
    kept (suc k) x g m =
        at_set (done k) (at o k) (zone_by o births c k) x (omega (arith, done_length k))
        ∙ ⊎_elim
        (λ (e : at o k ≡ x). rw (eq-eqb (at o k) x e) (later_3 k (omega (arith, ap b e))))
        (λ (d : at o k ≢ x). rw (ne_eqb (at o k) x d) (kept k x g m))
        (same? (at o k) x)

    set_later : (k : ℕ) → i < b (at o k) → done k ≡ set (done k) (at o k) 3
    set_later k g =
        ⊎_elim
        (λ (m : at o k < places). sym (ap (set (done k) (at o k)) (sym (kept k (at o k) g m)) ∙ set-get_or (done k) (at o k) 0))
        (λ (m : places ≤ at o k). sym (set_out (done k) (at o k) 3 (omega (arith, done_length k))))
        (less? (at o k) places)

    -- one switch more, as the code passes it, into a row that was filled with 3
    module _ {row : List ℕ} (filled : row ≡ replicate places 3) where
      pub zones_more : {k : ℕ} {p r : Passed} {before after : List ℕ} {birth : ℕ} → Along k p → k < length o → birth ≡ birth_in births (at o k)
          → before ≡ assigned row (at o) (zone_by o births c) k → r ≡ past birth p c → after ≡ placed before (at o k) birth p c
          → Along (k + 1) r × (after ≡ assigned row (at o) (zone_by o births c) (k + 1))
      zones_more {k} {p} {r} {before} {after} {birth} h l e d q a =
          ⊎_elim
          (λ (g : birth < i).
          let (x, y) = by_older before (at o k) birth p c g in
          let g' : b (at o k) < i = omega arith in
          (to (q ∙ x) (along_older h l g'), assigned_more row (at o) (zone_by o births c) k d (a ∙ y) refl (zone_older_lem h l g')))
          (⊎_elim
          (λ (g : i < birth).
          let (x, y) = by_later before (at o k) birth p c (omega arith) (λ z. omega arith) in
          let g' : i < b (at o k) = omega arith in
          let d' : before ≡ done k = d ∙ ap (λ (m : List ℕ). assigned m (at o) (zone_by o births c) k) filled in
          let s : after ≡ set before (at o k) 3 = a ∙ y ∙ d' ∙ set_later k g' ∙ ap (λ (m : List ℕ). set m (at o k) 3) (sym d') in
          (to (q ∙ x) (along_later h l g'), assigned_more row (at o) (zone_by o births c) k d s refl (sym (later_3 k g'))))
          (λ (g : birth ≡ i).
          let (x, y) = by_new before (at o k) birth p c g in
          let g' : b (at o k) ≡ i = sym e ∙ g in
          (to (q ∙ x) (along_new h l g'), assigned_more row (at o) (zone_by o births c) k d (a ∙ y) refl (zone_new_lem h l g'))))
          (trichotomy birth i)
        where
          to : {s : Passed} → r ≡ s → Along (suc k) s → Along (k + 1) r
          to {s} z A = subst (Along (k + 1)) (sym z) (subst (λ (j : ℕ). Along j s) (sym (add-one k)) A)

      pub zones_length : (k : ℕ) {after : List ℕ} → after ≡ assigned row (at o) (zone_by o births c) k → length after ≡ places
      zones_length k d = ap length d ∙ assigned_length row (at o) (zone_by o births c) k ∙ ap length filled ∙ length-replicate {A = ℕ} places 3

-- the cut, number by number
pub cut_is : (births : List ℕ) (n₁ n₂ : ℕ) {found : Found} {taken' left : ℕ} → found ≡ found_in births (n₁ + n₂) → taken' ≡ n₁ + n₂ - found.before
    → left ≡ found.new - taken' → ◌≡◌ {A = Cut} (record { ear = found.ear; one = n₁; taken = taken'; left = left }) (cut_of births n₁ n₂)
unfolding cut_of
cut_is births n₁ n₂ e f g = rw (g, f, e)

-- the zones that are written by it
pub zones_are : (o births : List ℕ) (n₁ n₂ places : ℕ) {after : List ℕ} {c : Cut} → c ≡ cut_of births n₁ n₂
    → after ≡ assigned (replicate places 3) (at o) (zone_by o births c) (length o) → after ≡ zones_by (length births) o (birth_in births) n₁ n₂ places
unfolding zones_by zone_in zone_by share_of cut_of found_in cut_ear taken share
zones_are o births n₁ n₂ places e g = g ∙ ap (λ (c : Cut). assigned (replicate places 3) (at o) (zone_by o births c) (length o)) e
