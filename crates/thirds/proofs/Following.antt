-- Laws of the row of tree 3 and of the distances while the half-links are followed: nothing followed, one half-link more, one chain
-- more, all chains. A switch whose half-links to later births are all followed has its distance.
use Rattle.std.proofs.Common.{◌≡◌, refl, sym, ap, ◌∙◌, subst, ◌⊎◌, inl, inr, ⊎_elim, ◌≢◌, Bool, true, ◌&&◌, cond, List, ℕ, suc, ◌+◌, ◌*◌, ◌/◌, ◌≤◌, ◌<◌, arith, eqb, length, set, length-set, replicate, get_or-set_same, get_or-set_other, ext_get_or, eqb-true, eq-eqb, ne_eqb}
use Rattle.std.proofs.lemmas.List.{length-replicate, get_or-replicate}
use Rattle.mondschein.specs.Network.{Network, at, size}
use Rattle.mondschein.specs.Order.{is_later, distance, shortest, taken, parent3_of}
use Rattle.mondschein.proofs.Logic.{which, less?, same?, and_true, true_and}
use Rattle.mondschein.proofs.Search.{low_eq}
use Rattle.mondschein.proofs.Reaching.{distance_most, distance_last, distance_on, distance_first}
use Rattle.network.specs.Index.{far_end}
use Rattle.network.specs.Load.{network_of, table_of}
use Rattle.rows.specs.Rows.{assigned}
use Rattle.rows.proofs.Assigned.{assigned_length, assigned_each}
use Rattle.thirds.specs.Tree3.{birth_read, tree3_of, Nearest}
use Rattle.thirds.specs.Chains.{Rises, LowestRising, ChainedFrom}
use Rattle.thirds.specs.Nearing.{Done, Nearing, FollowsHalf, FollowsChain, FollowsChains}
use Rattle.thirds.proofs.Chaining.{rises_later, later_rises}

module _ (n : ℕ) (links : List ℕ) (root last : ℕ) (b : ℕ → ℕ) where
  -- the network, and the far end of a half-link
  abbrev net : Network
  net = network_of n links root 0 last

  abbrev far : ℕ → ℕ
  far = far_end (table_of links)

  -- nothing is followed
  pub nearing_begin : (row dist : List ℕ) (y : ℕ) → ((v : ℕ) → b v ≤ 1024) → ((v : ℕ) → 1024 ≤ v → b v ≡ 0) → row ≡ replicate 1024 n → dist ≡ set (replicate 1024 n) last y → y ≡ 0
      → Nearing net b 1024 0 row dist
  nearing_begin row dist y most late e f g =
      record {
        late = late;
        long = (ap length e ∙ length-replicate 1024 n, ap length f ∙ length-set (replicate 1024 n) last y ∙ length-replicate 1024 n);
        at_last = λ l. first l;
        bounds = λ v l.
            ⊎_elim
            (λ (w : v ≡ last). let z = ap (at dist) w ∙ first (omega arith) in let u = ap (distance net b) w ∙ distance_last net b in omega (arith, u, z))
            (λ (w : v ≢ last). omega (arith, distance_most net b v, other v w l))
            (same? v last);
        entry = λ v l. inl (ap (λ (t : List ℕ). at t v) e ∙ get_or-replicate 1024 v n 0 l);
        best = λ j (r, p) l m. absurd (⊎_elim (λ (w : 1024 ≤ b (at links j)). omega (arith, r.1, w, most (far j))) (λ (w : (suc (b (at links j)) ≡ 1024) × (j < 0)). omega (arith, w.1)) p);
      }
    where
      first : last < 1024 → at dist last ≡ 0
      first l = ap (λ (t : List ℕ). at t last) f ∙ get_or-set_same (replicate 1024 n) last y 0 (omega (arith, l, length-replicate 1024 n)) ∙ g

      other : (v : ℕ) → v ≢ last → v < 1024 → at dist v ≡ n
      other v w l = ap (λ (t : List ℕ). at t v) f ∙ get_or-set_other (replicate 1024 n) last v y 0 w ∙ get_or-replicate 1024 v n 0 l

  module _ (k h : ℕ) (row dist : List ℕ) (c : Nearing net b k h row dist) where
    -- what a followed half-link from v to x says of v
    best_of : (v x j : ℕ) → Done links b k h j → at links j ≡ v → far j ≡ x → v < 1024 → x < n
        → (at dist v ≤ suc (distance net b x)) × (at dist v ≡ suc (distance net b x) → at row v ≤ x)
    best_of v x j d e f l m =
        subst (λ (y : ℕ). (at dist v ≤ suc (distance net b y)) × (at dist v ≡ suc (distance net b y) → at row v ≤ y)) f
        (subst (λ (u : ℕ). (at dist u ≤ suc (distance net b (far j))) × (at dist u ≡ suc (distance net b (far j)) → at row u ≤ far j)) e
        (c.best j d (omega (arith, e, l)) (omega (arith, f, m))))

    -- a switch whose half-links to later births are all followed
    module _ (v : ℕ) (l : v < 1024) (all : (j : ℕ) → Rises links b j → at links j ≡ v → Done links b k h j) where
      settled : at dist v ≡ distance net b v
      settled = omega (arith, (c.bounds v l).0, upper)
        where
          reached : distance net b v < n → at dist v ≤ distance net b v
          reached m =
              ⊎_elim
              (λ (e : v ≡ last). let z = ap (at dist) e ∙ c.at_last (omega arith) in omega (arith, z))
              (λ (x, p, q, s).
              let (j, r, e, f) = later_rises n links root last b v x q in
              omega (arith, s, (best_of v x j (all j r e) e f l p).0))
              (distance_first net b v m)

          upper : at dist v ≤ distance net b v
          upper = ⊎_elim reached (λ (m : n ≤ distance net b v). omega (arith, m, (c.bounds v l).1)) (less? (distance net b v) n)

      -- its entry is the neighbour by the rule
      settled_row : at row v ≡ taken net b shortest v
      unfolding taken
      settled_row =
          sym
          (low_eq (λ x. is_later net b v x && eqb (suc (distance net b x)) (distance net b v)) n (at row v)
          record {
            le = ⊎_elim (λ (e : at row v ≡ n). omega (arith, e)) (λ (m, p, q). omega (arith, m)) (c.entry v l);
            before = λ x m. ⊎_elim (λ t. absurd (lower x m t)) (λ f. f) (which (is_later net b v x && eqb (suc (distance net b x)) (distance net b v)));
            hit = λ m. ⊎_elim (λ (e : at row v ≡ n). absurd (omega (arith, e, m))) (λ (o, p, q). true_and _ _ p (eq-eqb (suc (distance net b (at row v))) (distance net b v) (sym q ∙ settled))) (c.entry v l);
          })
        where
          lower : (x : ℕ) → x < at row v → (is_later net b v x && eqb (suc (distance net b x)) (distance net b v)) ≡ true → ⊥
          lower x m t =
              let (p, q) = and_true (is_later net b v x) _ t in
              let (j, r, e, f) = later_rises n links root last b v x p in
              let z : at row v ≤ n = ⊎_elim (λ (e : at row v ≡ n). omega (arith, e)) (λ (m, p, q). omega (arith, m)) (c.entry v l) in
              let y = (best_of v x j (all j r e) e f l (omega (arith, m, z))).1 (settled ∙ sym (eqb-true (suc (distance net b x)) (distance net b v) q)) in
              omega (arith, m, y)

  -- one half-link more
  module _ (k h : ℕ) (row dist : List ℕ) (r : Rises links b h) (q : b (at links h) ≡ k) (c : Nearing net b (suc k) h row dist) where
    -- its far end has its distance
    far_settled : far h < 1024 → at dist (far h) ≡ distance net b (far h)
    far_settled l = settled (suc k) h row dist c (far h) l (λ j s e. (s, inl (omega (arith, r.1, q, ap b e))))

    done_more : (j : ℕ) → Done links b (suc k) (suc h) j → (j ≢ h) → Done links b (suc k) h j
    done_more j (s, w) d = (s, ⊎_elim (λ (p : suc k ≤ b (at links j)). inl p) (λ (p : (suc (b (at links j)) ≡ suc k) × (j < suc h)). inr (p.0, omega (arith, p.1, d))) w)

    -- it changes nothing
    nearing_keep : (at links h < 1024 → far h < n → (at dist (at links h) ≤ suc (distance net b (far h))) × (at dist (at links h) ≡ suc (distance net b (far h)) → at row (at links h) ≤ far h))
        → Nearing net b (suc k) (suc h) row dist
    nearing_keep g =
        record {
          late = c.late;
          long = c.long;
          at_last = c.at_last;
          bounds = c.bounds;
          entry = c.entry;
          best = λ j s l m.
              ⊎_elim
              (λ (e : j ≡ h).
              subst (λ (u : ℕ). (at dist (at links u) ≤ suc (distance net b (far u))) × (at dist (at links u) ≡ suc (distance net b (far u)) → at row (at links u) ≤ far u)) (sym e)
              (g (omega (arith, l, ap (at links) e)) (omega (arith, m, ap far e))))
              (λ (d : j ≢ h). c.best j (done_more j s d) l m)
              (same? j h);
        }

    -- its far end is taken
    module _ (v x : ℕ) (e : at links h ≡ v) (f : far h ≡ x) (l : v < 1024) (m : x < n) (dist' : List ℕ) (long' : length dist' ≡ 1024)
        (new : at dist' v ≡ suc (distance net b x)) (old : (u : ℕ) → u ≢ v → at dist' u ≡ at dist u)
        (less : suc (distance net b x) ≤ at dist v) (tie : at dist v ≡ suc (distance net b x) → x < at row v) where
      row_new : at (set row v x) v ≡ x
      row_new = get_or-set_same row v x 0 (omega (arith, l, c.long.0))

      row_old : (u : ℕ) → u ≢ v → at (set row v x) u ≡ at row u
      row_old u d = get_or-set_other row v u x 0 d

      later : is_later net b v x ≡ true
      later =
          subst (λ (y : ℕ). is_later net b v y ≡ true) f
          (subst (λ (u : ℕ). is_later net b u (far h) ≡ true) e (rises_later n links root last b h r))

      -- the new entry beside a half-link of v to y that was followed before
      beside : (y : ℕ) → (at dist v ≤ suc (distance net b y)) × (at dist v ≡ suc (distance net b y) → at row v ≤ y)
          → (at dist' v ≤ suc (distance net b y)) × (at dist' v ≡ suc (distance net b y) → at (set row v x) v ≤ y)
      beside y (p, s) = (omega (arith, p, new, less), λ z. let w : at dist v ≡ suc (distance net b y) = omega (arith, z, new, less, p) in omega (arith, row_new, s w, tie (omega (arith, w, z, new))))

      entry_at : (u : ℕ) → u < 1024 → (at (set row v x) u ≡ n) ⊎ ((at (set row v x) u < n) × (is_later net b u (at (set row v x) u) ≡ true) × (at dist' u ≡ suc (distance net b (at (set row v x) u))))
      entry_at u w =
          ⊎_elim
          (λ (z : u ≡ v).
          subst (λ (t : ℕ). (at (set row v x) t ≡ n) ⊎ ((at (set row v x) t < n) × (is_later net b t (at (set row v x) t) ≡ true) × (at dist' t ≡ suc (distance net b (at (set row v x) t))))) (sym z)
          (subst (λ (t : ℕ). (t ≡ n) ⊎ ((t < n) × (is_later net b v t ≡ true) × (at dist' v ≡ suc (distance net b t)))) (sym row_new) (inr (m, later, new))))
          (λ (d : u ≢ v).
          subst (λ (t : ℕ). (t ≡ n) ⊎ ((t < n) × (is_later net b u t ≡ true) × (at dist' u ≡ suc (distance net b t)))) (sym (row_old u d))
          (subst (λ (t : ℕ). (at row u ≡ n) ⊎ ((at row u < n) × (is_later net b u (at row u) ≡ true) × (t ≡ suc (distance net b (at row u))))) (sym (old u d)) (c.entry u w)))
          (same? u v)

      best_at : (j : ℕ) → Done links b (suc k) (suc h) j → at links j < 1024 → far j < n
          → (at dist' (at links j) ≤ suc (distance net b (far j))) × (at dist' (at links j) ≡ suc (distance net b (far j)) → at (set row v x) (at links j) ≤ far j)
      best_at j s o w =
          ⊎_elim
          (λ (z : j ≡ h).
          subst (λ (u : ℕ). (at dist' u ≤ suc (distance net b (far j))) × (at dist' u ≡ suc (distance net b (far j)) → at (set row v x) u ≤ far j)) (sym (ap (at links) z ∙ e))
          (subst (λ (y : ℕ). (at dist' v ≤ suc (distance net b y)) × (at dist' v ≡ suc (distance net b y) → at (set row v x) v ≤ y)) (sym (ap far z ∙ f))
          (omega (arith, new), λ _. omega (arith, row_new))))
          (λ (z : j ≢ h).
          ⊎_elim
          (λ (y : at links j ≡ v).
          subst (λ (u : ℕ). (at dist' u ≤ suc (distance net b (far j))) × (at dist' u ≡ suc (distance net b (far j)) → at (set row v x) u ≤ far j)) (sym y)
          (beside (far j) (best_of (suc k) h row dist c v (far j) j (done_more j s z) y refl l w)))
          (λ (y : at links j ≢ v).
          let t = c.best j (done_more j s z) o w in
          (omega (arith, old (at links j) y, t.0), λ p. omega (arith, row_old (at links j) y, t.1 (sym (old (at links j) y) ∙ p))))
          (same? (at links j) v))
          (same? j h)

      nearing_take : Nearing net b (suc k) (suc h) (set row v x) dist'
      nearing_take =
          record {
            late = c.late;
            long = (length-set row v x ∙ c.long.0, long');
            at_last = λ w. ⊎_elim (λ (z : last ≡ v). absurd (omega (arith, less, ap (at dist) z, c.at_last w))) (λ (d : last ≢ v). old last d ∙ c.at_last w) (same? last v);
            bounds = λ u w.
                ⊎_elim
                (λ (z : u ≡ v). let p = ap (at dist') z in let s = ap (distance net b) z in omega (arith, p, s, new, less, distance_on net b v x m later, (c.bounds v l).1))
                (λ (d : u ≢ v). omega (arith, old u d, (c.bounds u w).0, (c.bounds u w).1))
                (same? u v);
            entry = entry_at;
            best = best_at;
          }

  -- from one half-link of a chain to the next
  module _ (k h : ℕ) (row dist : List ℕ) where
    nearing_next : (j : ℕ) → Nearing net b (suc k) h row dist → LowestRising links b k h j → Nearing net b (suc k) j row dist
    nearing_next j c p =
        record {
          late = c.late;
          long = c.long;
          at_last = c.at_last;
          bounds = c.bounds;
          entry = c.entry;
          best = λ i (s, w) l m.
              c.best i (
                s,
                ⊎_elim
                    (λ (y : suc k ≤ b (at links i)). inl y)
                    (λ (y : (suc (b (at links i)) ≡ suc k) × (i < j)).
                    ⊎_elim (λ (z : i < h). inr (y.0, z)) (λ (z : h ≤ i). absurd (p.before i z y.1 s (omega (arith, y.0)))) (less? i h))
                    w,
              )
              l m;
        }

    -- the chain's end
    nearing_end : 2 * size (table_of links) ≤ h → Nearing net b (suc k) h row dist → Nearing net b k 0 row dist
    nearing_end o c =
        record {
          late = c.late;
          long = c.long;
          at_last = c.at_last;
          bounds = c.bounds;
          entry = c.entry;
          best = λ i (s, w) l m.
              c.best i (
                s,
                ⊎_elim
                    (λ (y : k ≤ b (at links i)).
                    ⊎_elim (λ (z : k < b (at links i)). inl (omega (arith, z))) (λ (z : b (at links i) ≤ k). inr (omega (arith, y, z), omega (arith, s.0, o))) (less? k (b (at links i))))
                    (λ (y : (suc (b (at links i)) ≡ k) × (i < 0)). absurd (omega (arith, y.1)))
                    w,
              )
              l m;
        }

-- half-link h in the code's terms: x is its far end
module _ (n : ℕ) (links : List ℕ) (h : ℕ) (row dist : List ℕ) {x : ℕ} (e : x ≡ far_end (table_of links) h) where
  -- the distance of its far end
  far_known : (root last k : ℕ) (b : ℕ → ℕ) → Rises links b h → b (at links h) ≡ k → Nearing (network_of n links root 0 last) b (suc k) h row dist → x < 1024
      → at dist x ≡ distance (network_of n links root 0 last) b (far_end (table_of links) h)
  far_known root last k b r q c l = ap (at dist) e ∙ far_settled n links root last b k h row dist r q c (omega (arith, e, l))

  pub half_longer : x < 1024 → at dist (at links h) ≤ at dist x → FollowsHalf n links h row dist row dist
  half_longer l m root last k b r q c =
      let z = far_known root last k b r q c l in
      nearing_keep n links root last b k h row dist r q c (λ p w. (omega (arith, z, m), λ y. absurd (omega (arith, z, m, y))))

  pub half_higher : x < 1024 → at dist (at links h) ≤ at dist x + 1 → at row (at links h) ≤ x → FollowsHalf n links h row dist row dist
  half_higher l m o root last k b r q c =
      let z = far_known root last k b r q c l in
      nearing_keep n links root last b k h row dist r q c (λ p w. (omega (arith, z, m), λ y. omega (arith, e, o)))

  module _ (m : x < n) (l : x < 1024) (o : at links h < 1024) where
    pub half_shorter : at dist x + 1 < at dist (at links h) → (y : ℕ) → y ≡ at dist x + 1 → FollowsHalf n links h row dist (set row (at links h) x) (set dist (at links h) y)
    half_shorter w y g root last k b r q c =
        let z = far_known root last k b r q c l ∙ ap (distance (network_of n links root 0 last) b) (sym e) in
        nearing_take n links root last b k h row dist r q c (at links h) x refl (sym e) o m (set dist (at links h) y)
        (length-set dist (at links h) y ∙ c.long.1)
        (get_or-set_same dist (at links h) y 0 (omega (arith, o, c.long.1)) ∙ omega (arith, g, z))
        (λ u d. get_or-set_other dist (at links h) u y 0 d)
        (omega (arith, z, w)) (λ s. absurd (omega (arith, z, w, s)))

    pub half_lower : at dist x < at dist (at links h) → at dist (at links h) ≤ at dist x + 1 → x < at row (at links h)
        → FollowsHalf n links h row dist (set row (at links h) x) dist
    half_lower w i j root last k b r q c =
        let z = far_known root last k b r q c l ∙ ap (distance (network_of n links root 0 last) b) (sym e) in
        nearing_take n links root last b k h row dist r q c (at links h) x refl (sym e) o m dist c.long.1 (omega (arith, z, w, i)) (λ u d. refl)
        (omega (arith, z, w)) (λ y. j)

-- the chain that begins with `start` is followed up to half-link h
abbrev pub FollowsTo : ℕ → List ℕ → List ℕ → ℕ → ℕ → List ℕ → List ℕ → List ℕ → List ℕ → Type 0
FollowsTo n links nexts start h row dist row' dist' =
    (root last k : ℕ) (birth_of : ℕ → ℕ) (heads : List ℕ)
    → ChainedFrom links birth_of 0 heads nexts
    → LowestRising links birth_of k 0 start
    → Nearing (network_of n links root 0 last) birth_of (suc k) 0 row dist
    → (h < 2 * size (table_of links) → Rises links birth_of h × (birth_of (at links h) ≡ k))
    × Nearing (network_of n links root 0 last) birth_of (suc k) h row' dist'

module _ (n : ℕ) (links nexts : List ℕ) (start : ℕ) (row dist : List ℕ) where
  module _ (h : ℕ) (row' dist' : List ℕ) (f : FollowsTo n links nexts start h row dist row' dist') where
    pub chain_next : {row'' dist'' : List ℕ} → h < 2 * size (table_of links) → FollowsHalf n links h row' dist' row'' dist''
        → FollowsTo n links nexts start (at nexts (h / 2)) row dist row'' dist''
    chain_next {row''} {dist''} l g root last k b heads c p q =
        let (o, w) = f root last k b heads c p q in
        let (r, e) = o l in
        let t : LowestRising links b k (suc h) (at nexts (h / 2)) = subst (λ (u : ℕ). LowestRising links b u (suc h) (at nexts (h / 2))) e (c.next h (omega arith) r) in
        (t.own, nearing_next n links root last b k (suc h) row'' dist'' (at nexts (h / 2)) (g root last k b r e w) t)

    pub chain_end : 2 * size (table_of links) ≤ h → FollowsChain n links nexts start row dist row' dist'
    chain_end l root last k b heads c p q = nearing_end n links root last b k h row' dist' l (f root last k b heads c p q).1

-- the chains of all births
module _ (n : ℕ) (links heads nexts row dist : List ℕ) where
  pub chains_more : (k j start : ℕ) → suc j ≡ k → j < 1024 → start ≡ at heads j → {row' dist' row'' dist'' : List ℕ} → FollowsChains n links heads nexts k row dist row' dist'
      → FollowsChain n links nexts start row' dist' row'' dist'' → FollowsChains n links heads nexts j row dist row'' dist''
  chains_more k j start e l s {row'} {dist'} f g root last b c q =
      g root last j b heads c (subst (λ (h : ℕ). LowestRising links b j 0 h) (sym s) (c.head j l))
      (subst (λ (u : ℕ). Nearing (network_of n links root 0 last) b u 0 row' dist') (sym e) (f root last b c q))

-- a row whose entry at each index is told
entries_are : (row : List ℕ) (f : ℕ → ℕ) (w : List ℕ) → length w ≡ length row → ((v : ℕ) → v < length row → at w v ≡ f v) → w ≡ assigned row (λ v. v) f (length row)
entries_are row f w e h =
    ext_get_or 0 w (assigned row (λ v. v) f (length row)) (e ∙ sym (assigned_length row (λ v. v) f (length row)))
    (λ v l. h v (omega arith) ∙ sym (assigned_each row f (length row) v (omega arith) (omega arith)))

-- all half-links are followed
pub nearing_all : (n : ℕ) (links : List ℕ) (last : ℕ) (births row after dist : List ℕ) → length row ≡ 1024
    → ((root : ℕ) → Nearing (network_of n links root 0 last) (birth_read births) 0 0 after dist) → Nearest n links last births row after
nearing_all n links last births row after dist e c root =
    entries_are row (taken (network_of n links root 0 last) (birth_read births) shortest) after ((c root).long.0 ∙ sym e)
    (λ v l. settled_row n links root last (birth_read births) 0 0 after dist (c root) v (omega arith) (λ j r q. (r, inl (omega arith))))

-- the entries of last and root come last
pub tree3_is : (row links births : List ℕ) (n root last : ℕ) {w one two : List ℕ}
    → Nearest n links last births row w → one ≡ set w last root → two ≡ set one root root → two ≡ tree3_of shortest (network_of n links root 0 last) births row
unfolding tree3_of parent3_of
tree3_is row links births n root last {w} {one} {two} c p q = entries_are row (parent3_of (network_of n links root 0 last) (birth_read births) shortest) two long each
  where
    f : ℕ → ℕ
    f v = taken (network_of n links root 0 last) (birth_read births) shortest v

    long_w : length w ≡ length row
    long_w = ap length (c root) ∙ assigned_length row (λ v. v) f (length row)

    long_one : length one ≡ length row
    long_one = ap length p ∙ length-set w last root ∙ long_w

    long : length two ≡ length row
    long = ap length q ∙ length-set one root root ∙ long_one

    each : (v : ℕ) → v < length row → at two v ≡ cond (eqb v root) v (cond (eqb v last) root (f v))
    each v l =
        ⊎_elim
        (λ (s : v ≡ root). ap (at two) s ∙ ap (λ (t : List ℕ). at t root) q ∙ get_or-set_same one root root 0 (omega (arith, long_one)) ∙ sym s ∙ sym (ap (λ (b : Bool). cond b v (cond (eqb v last) root (f v))) (eq-eqb v root s)))
        (λ (d : v ≢ root).
        ap (λ (t : List ℕ). at t v) q
        ∙ get_or-set_other one root v root 0 d
        ∙ ap (λ (t : List ℕ). at t v) p
        ∙ ⊎_elim
        (λ (s : v ≡ last). ap (at (set w last root)) s ∙ get_or-set_same w last root 0 (omega (arith, long_w)) ∙ sym (ap (λ (b : Bool). cond b root (f v)) (eq-eqb v last s)))
        (λ (g : v ≢ last).
        get_or-set_other w last v root 0 g
        ∙ ap (λ (t : List ℕ). at t v) (c root)
        ∙ assigned_each row f (length row) v l l
        ∙ sym (ap (λ (b : Bool). cond b root (f v)) (ne_eqb v last g)))
        (same? v last)
        ∙ sym (ap (λ (b : Bool). cond b v (cond (eqb v last) root (f v))) (ne_eqb v root d)))
        (same? v root)
