-- A search by one turn of each loop of the code: one switch entered, one half-link of a switch, one turn of the queue.
-- Whoever follows the index of half-links enters what the definition enters, half-link by half-link.
use Rattle.std.proofs.Common.{◌≡◌, refl, sym, ap, ◌∙◌, ⊎_elim, ◌≢◌, Bool, true, false, ◌||◌, cond, List, ℕ, zero, suc, ◌+◌, ◌-◌, ◌*◌, ◌≤◌, ◌<◌, add-one, arith, eqb, ltb, lt-ltb, le-ltb, eq-eqb, ne_eqb}
use Rattle.mondschein.specs.Network.{Network, at, size, former, latter}
use Rattle.mondschein.proofs.Logic.{same?}
use Rattle.network.specs.Load.{table_of}
use Rattle.network.specs.Index.{far_end, lowest_half, IndexedFrom}
use Rattle.network.proofs.Indexing.{half_here, half_past, half_end, Followed}
use Rattle.rows.specs.Rows.{marked}
use Rattle.disjoint.specs.Matching.{unnamed, Explored, leaving, enter, leave_by, leave, turns}

-- the half-links of one switch
module _ (net : Network) (s t k v : ℕ) where
  -- those from e on
  abbrev pub from : ℕ → Explored → Explored
  from e h = leave_by net s t k v (2 * size net - e) e h

  from_here : (e : ℕ) (h : Explored) → e < 2 * size net → at net.links e ≡ v → from e h ≡ from (suc e) (enter s t k v (far_end net e) h)
  unfolding leave_by
  from_here e h l q =
      ap (λ (f : ℕ). leave_by net s t k v f e h) (let z : 2 * size net - e ≡ suc (2 * size net - suc e) = omega arith in z)
      ∙ ap (λ (b : Bool). from (suc e) (cond b (enter s t k v (far_end net e) h) h)) (eq-eqb _ _ q)

  from_past : (e : ℕ) (h : Explored) → e < 2 * size net → at net.links e ≢ v → from e h ≡ from (suc e) h
  unfolding leave_by
  from_past e h l d =
      ap (λ (f : ℕ). leave_by net s t k v f e h) (let z : 2 * size net - e ≡ suc (2 * size net - suc e) = omega arith in z)
      ∙ ap (λ (b : Bool). from (suc e) (cond b (enter s t k v (far_end net e) h) h)) (ne_eqb _ _ d)

  pub from_end : (e : ℕ) (h : Explored) → 2 * size net ≤ e → from e h ≡ h
  unfolding leave_by
  from_end e h l = ap (λ (f : ℕ). leave_by net s t k v f e h) (let z : 2 * size net - e ≡ 0 = omega arith in z)

  -- those of v alone count
  from_lowest : (f e : ℕ) (h : Explored) → e + f ≡ 2 * size net → from e h ≡ from (lowest_half net v e) h
  from_lowest zero e h q = ap (λ (j : ℕ). from j h) (sym (half_end net v e (omega arith)))
  from_lowest (suc f) e h q =
      ⊎_elim
      (λ p. ap (λ (j : ℕ). from j h) (sym (half_here net v e (omega arith) p)))
      (λ d. from_past e h (omega arith) d ∙ from_lowest f (suc e) h (omega arith) ∙ ap (λ (j : ℕ). from j h) (sym (half_past net v e (omega arith) d)))
      (same? (at net.links e) v)

  -- where whoever follows the index stands
  abbrev pub Stands : ℕ → Type 0
  Stands e = Followed net v (λ _. false) e

  module _ (index : List ℕ) (c : IndexedFrom net 0 index) (small : v < 1024) where
    pub from_begin : (h : Explored) → leave_by net s t k v (2 * size net) 0 h ≡ from (at index v) h
    from_begin h =
        ap (λ (f : ℕ). leave_by net s t k v f 0 h) (let z : 2 * size net ≡ 2 * size net - 0 = omega arith in z)
        ∙ from_lowest (2 * size net) 0 h (omega arith)
        ∙ ap (λ (j : ℕ). from j h) (sym (c.lowest v small))

    pub from_next : (e : ℕ) (h : Explored) → Stands e → e < 2 * size net → from e h ≡ from (at index (2048 + e)) (enter s t k v (far_end net e) h)
    from_next e h f l =
        let q : at net.links e ≡ v = f.own l in
        from_here e h l q
        ∙ from_lowest (2 * size net - suc e) (suc e) (enter s t k v (far_end net e) h) (omega arith)
        ∙ ap (λ (j : ℕ). from j (enter s t k v (far_end net e) h))
        (sym (c.nexts e (omega arith) l (omega (arith, q, small)) ∙ ap (λ (x : ℕ). lowest_half net x (suc e)) q))

-- N is not asked along half-links
same_table : (n : ℕ) (links : List ℕ) (s t k v f e : ℕ) (h : Explored) → leave_by (table_of links) s t k v f e h ≡ leave_by (unnamed n links) s t k v f e h
unfolding leave_by far_end former latter
same_table n links s t k v zero e h = refl
same_table n links s t k v (suc f) e h = same_table n links s t k v f (suc e) (cond (eqb (at links e) v) (enter s t k v (far_end (table_of links) e) h) h)

-- all that can be entered from v
module _ (n : ℕ) (links : List ℕ) (s t k v : ℕ) (h : Explored) where
  pub leave_copy : n ≤ v → h ≡ leave (unnamed n links) s t k v h
  unfolding leave
  leave_copy l = rw (le-ltb v n l)

  pub leave_switch : v < n → enter s t k v v (leave_by (table_of links) s t k v (2 * size (table_of links)) 0 h) ≡ leave (unnamed n links) s t k v h
  unfolding leave size
  leave_switch l = rw (lt-ltb v n l) (ap (enter s t k v v) (same_table n links s t k v (2 * size (table_of links)) 0 h))

-- the turns
module _ (net : Network) (s t k : ℕ) (previous : List ℕ) where
  -- those from q on
  abbrev pub ahead : ℕ → Explored → Explored
  ahead q h = turns net s t k previous (suc net.n - q) q h

  module _ (q : ℕ) (h : Explored) where
    pub turns_end : net.n < q → ahead q h ≡ h
    unfolding turns
    turns_end l = ap (λ (f : ℕ). turns net s t k previous f q h) (let z : suc net.n - q ≡ 0 = omega arith in z)

    module _ (l : q ≤ net.n) where
      turn : ahead q h ≡ cond (ltb h.count q || marked h.mark t) h (turns net s t k previous (suc net.n - (q + 1)) (suc q) (leave net s t k (leaving s previous h.heads q) h))
      unfolding turns
      turn = ap (λ (f : ℕ). turns net s t k previous f q h) (let z : suc net.n - q ≡ suc (suc net.n - (q + 1)) = omega arith in z)

      pub turns_out : h.count < q → ahead q h ≡ h
      turns_out m = turn ∙ rw (lt-ltb h.count q m)

      pub turns_come : q ≤ h.count → marked h.mark t ≡ true → ahead q h ≡ h
      turns_come m p = turn ∙ rw (le-ltb h.count q m, p)

      pub turns_more : q ≤ h.count → marked h.mark t ≡ false → ahead q h ≡ ahead (q + 1) (leave net s t k (leaving s previous h.heads q) h)
      turns_more m p =
          turn
          ∙ rw (le-ltb h.count q m, p)
          (ap (λ (x : ℕ). turns net s t k previous (suc net.n - (q + 1)) x (leave net s t k (leaving s previous h.heads q) h)) (sym (add-one q)))
