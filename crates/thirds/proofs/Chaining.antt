-- Laws of the chains of half-links: no link, one link more, and a half-link that leads to a later birth is of two neighbours, as any
-- two neighbours of which one is born later have one.
use Rattle.std.proofs.Common.{◌≡◌, refl, sym, ap, ◌∙◌, subst, ◌⊎◌, inl, inr, ⊎_elim, ◌≢◌, true, List, ℕ, suc, ◌+◌, ◌*◌, ◌/◌, ◌≤◌, ◌<◌, arith, ltb, length, set, length-set, replicate, get_or-set_same, get_or-set_other, ltb-true, lt-ltb}
use Rattle.std.proofs.Math.ListN.{get_or-eq_default}
use Rattle.std.proofs.lemmas.List.{length-replicate, get_or-replicate}
use Rattle.mondschein.specs.Network.{at, size, former, latter, joins, joined}
use Rattle.mondschein.specs.Order.{is_later}
use Rattle.mondschein.proofs.Logic.{less?, same?, and_true, true_and}
use Rattle.mondschein.proofs.Links.{joined_adjacent, adjacent_joined}
use Rattle.network.specs.Index.{far_end}
use Rattle.network.specs.Load.{network_of, table_of}
use Rattle.network.proofs.Indexing.{far_former, far_latter, half_joins, joins_half}
use Rattle.thirds.specs.Tree3.{birth_read}
use Rattle.thirds.specs.Chains.{Rises, LowestRising, ChainedFrom}

-- the births that are read
module _ (births : List ℕ) where
  pub read_most : (v : ℕ) → birth_read births v ≤ 1024
  unfolding birth_read
  read_most v = omega arith

  pub read_late : length births ≡ 1024 → (v : ℕ) → 1024 ≤ v → birth_read births v ≡ 0
  unfolding birth_read
  read_late e v l = omega (arith, get_or-eq_default births 0 (let z : length births ≤ v = omega arith in z))

-- half-links and neighbours
module _ (n : ℕ) (links : List ℕ) (root last : ℕ) (b : ℕ → ℕ) where
  -- the links alone say who are neighbours
  same_joined : (v x : ℕ) → joined (table_of links) v x ≡ joined (network_of n links root 0 last) v x
  unfolding joined joins former latter size
  same_joined v x = refl

  pub rises_later : (h : ℕ) → Rises links b h → is_later (network_of n links root 0 last) b (at links h) (far_end (table_of links) h) ≡ true
  rises_later h (l, r) =
      true_and (joined (network_of n links root 0 last) (at links h) (far_end (table_of links) h)) _
      (sym (same_joined (at links h) (far_end (table_of links) h)) ∙ adjacent_joined (table_of links) (at links h) (far_end (table_of links) h) (h / 2, omega arith, half_joins (table_of links) h))
      (lt-ltb (b (at links h)) (b (far_end (table_of links) h)) r)

  pub later_rises : (v x : ℕ) → is_later (network_of n links root 0 last) b v x ≡ true → (h : ℕ) × Rises links b h × (at links h ≡ v) × (far_end (table_of links) h ≡ x)
  later_rises v x t =
      let (p, q) = and_true (joined (network_of n links root 0 last) v x) (ltb (b v) (b x)) t in
      let (i, l, w) = joined_adjacent (table_of links) v x (same_joined v x ∙ p) in
      let (h, e, f, g) = joins_half (table_of links) i v x w in
      (h, (omega arith, omega (arith, ap b f, ap b g, ltb-true (b v) (b x) q)), f, g)

-- the lowest half-link of a birth, looked for from an earlier one on
module _ (links : List ℕ) (b : ℕ → ℕ) where
  lowest_from : (k i j h : ℕ) → i ≤ j → LowestRising links b k j h → ((m : ℕ) → i ≤ m → m < j → Rises links b m → b (at links m) ≢ k) → LowestRising links b k i h
  lowest_from k i j h l c d =
      record {
        from = omega (arith, c.from);
        own = c.own;
        before = λ m p q r. ⊎_elim (λ (w : m < j). d m p w r) (λ (w : j ≤ m). c.before m w q r) (less? m j);
      }

  -- no link
  pub chained_none : {heads nexts : List ℕ} → length links ≤ 8193 → heads ≡ replicate 1024 8192 → nexts ≡ replicate 4096 8192
      → ChainedFrom links b (size (table_of links)) heads nexts
  unfolding size
  chained_none {heads} {nexts} l e f =
      record {
        long = (ap length e ∙ length-replicate {A = ℕ} 1024 8192, ap length f ∙ length-replicate {A = ℕ} 4096 8192);
        head = λ k m. subst (λ (h : ℕ). LowestRising links b k (2 * size (table_of links)) h) (sym (ap (λ (t : List ℕ). at t k) e ∙ get_or-replicate 1024 k 8192 0 m)) (none k);
        next = λ h m r. absurd (omega (arith, m, r.0));
        rise = λ i m. omega (arith, ap (λ (t : List ℕ). at t i) f ∙ get_or-replicate 4096 i 8192 0 m, m);
      }
    where
      none : (k : ℕ) → LowestRising links b k (2 * size (table_of links)) 8192
      none k = record { from = omega (arith, l); own = λ m. absurd (omega (arith, l, m)); before = λ m p q r. absurd (omega (arith, p, r.0)) }

  -- one link more
  module _ (i : ℕ) (heads nexts : List ℕ) (c : ChainedFrom links b (suc i) heads nexts) where
    -- neither of its half-links leads to a later birth
    chained_past : ((m : ℕ) → m / 2 ≡ i → Rises links b m → ⊥) → ChainedFrom links b i heads nexts
    chained_past d =
        record {
          long = c.long;
          head = λ k l. lowest_from k (2 * i) (2 * suc i) (at heads k) (omega arith) (c.head k l) (λ m p q r e. d m (omega arith) r);
          next = λ h l r. ⊎_elim (λ (w : h < 2 * suc i). absurd (d h (omega arith) r)) (λ (w : 2 * suc i ≤ h). c.next h w r) (less? h (2 * suc i));
          rise = c.rise;
        }

    -- half-link h of it does
    module _ (h k : ℕ) (e : h / 2 ≡ i) (r : Rises links b h) (q : b (at links h) ≡ k) (small : k < 1024) (fits : i < 4096)
        (d : (m : ℕ) → m / 2 ≡ i → m ≢ h → Rises links b m → ⊥) where
      here : LowestRising links b k (2 * i) h
      here = record { from = omega arith; own = λ l. (r, q); before = λ m p w s z. d m (omega arith) (λ y. omega (arith, y, w)) s }

      after : LowestRising links b k (suc h) (at heads k)
      after = lowest_from k (suc h) (2 * suc i) (at heads k) (omega arith) (c.head k small) (λ m p w s z. d m (omega arith) (λ y. omega (arith, y, p)) s)

      other : (j : ℕ) → j < 1024 → j ≢ k → LowestRising links b j (2 * i) (at heads j)
      other j l g =
          lowest_from j (2 * i) (2 * suc i) (at heads j) (omega arith) (c.head j l)
          (λ m p w s z. ⊎_elim (λ (y : m ≡ h). g (sym z ∙ ap (λ (u : ℕ). b (at links u)) y ∙ q)) (λ (y : m ≢ h). d m (omega arith) y s) (same? m h))

      chained_more : ChainedFrom links b i (set heads k h) (set nexts i (at heads k))
      chained_more =
          record {
            long = (length-set heads k h ∙ c.long.0, length-set nexts i (at heads k) ∙ c.long.1);
            head = λ j l.
                ⊎_elim
                (λ (w : j ≡ k).
                subst (λ (u : ℕ). LowestRising links b u (2 * i) (at (set heads k h) u)) (sym w)
                (subst (λ (u : ℕ). LowestRising links b k (2 * i) u) (sym (get_or-set_same heads k h 0 (omega (arith, small, c.long.0)))) here))
                (λ (w : j ≢ k). subst (λ (u : ℕ). LowestRising links b j (2 * i) u) (sym (get_or-set_other heads k j h 0 w)) (other j l w))
                (same? j k);
            next = λ m l s.
                ⊎_elim
                (λ (w : m ≡ h).
                subst (λ (u : ℕ). LowestRising links b (b (at links u)) (suc u) (at (set nexts i (at heads k)) (u / 2))) (sym w)
                (subst (λ (u : ℕ). LowestRising links b u (suc h) (at (set nexts i (at heads k)) (h / 2))) (sym q)
                (subst (λ (u : ℕ). LowestRising links b k (suc h) u)
                (sym (ap (at (set nexts i (at heads k))) e ∙ get_or-set_same nexts i (at heads k) 0 (omega (arith, fits, c.long.1)))) after)))
                (λ (w : m ≢ h).
                ⊎_elim
                (λ (y : m / 2 ≡ i). absurd (d m y w s))
                (λ (y : m / 2 ≢ i).
                subst (λ (u : ℕ). LowestRising links b (b (at links m)) (suc m) u) (sym (get_or-set_other nexts i (m / 2) (at heads k) 0 y))
                (c.next m (omega (arith, l, y)) s))
                (same? (m / 2) i))
                (same? m h);
            rise = λ l w.
                ⊎_elim
                (λ (y : l ≡ i).
                omega (arith, ap (at (set nexts i (at heads k))) y ∙ get_or-set_same nexts i (at heads k) 0 (omega (arith, fits, c.long.1)), (c.head k small).from))
                (λ (y : l ≢ i). omega (arith, get_or-set_other nexts i l (at heads k) 0 y, c.rise l w))
                (same? l i);
          }

-- the two half-links of link i: at most one leads to a later birth
module _ (links : List ℕ) (b : ℕ → ℕ) (i : ℕ) where
  former_rises : Rises links b (2 * i) → b (at links (2 * i)) < b (at links (2 * i + 1))
  unfolding latter
  former_rises (l, r) = omega (arith, r, ap b (far_former (table_of links) i))

  latter_rises : Rises links b (2 * i + 1) → b (at links (2 * i + 1)) < b (at links (2 * i))
  unfolding former
  latter_rises (l, r) = omega (arith, r, ap b (far_latter (table_of links) i))

  half? : (m : ℕ) → m / 2 ≡ i → (m ≡ 2 * i) ⊎ (m ≡ 2 * i + 1)
  half? m e = ⊎_elim (λ w. inl w) (λ w. inr (omega (arith, e, w))) (same? m (2 * i))

  module _ (l : i < size (table_of links)) (fits : length links ≤ 8193) (heads nexts : List ℕ) (c : ChainedFrom links b (suc i) heads nexts)
      {p q : ℕ} (most : (v : ℕ) → b v ≤ 1024) (e : p ≡ b (at links (2 * i))) (f : q ≡ b (at links (2 * i + 1))) where
    pub chained_former : p < q → ChainedFrom links b i (set heads p (2 * i)) (set nexts i (at heads p))
    unfolding latter size
    chained_former r =
        chained_more links b i heads nexts c (2 * i) p (omega arith) (omega arith, omega (arith, r, e, f, ap b (far_former (table_of links) i))) (sym e) (omega (arith, r, f, most (at links (2 * i + 1)))) (omega arith)
        (λ j g d s. ⊎_elim (λ (w : j ≡ 2 * i). d w) (λ (w : j ≡ 2 * i + 1). omega (arith, r, e, f, latter_rises (subst (λ (u : ℕ). Rises links b u) w s))) (half? j g))

    pub chained_latter : q < p → ChainedFrom links b i (set heads q (2 * i + 1)) (set nexts i (at heads q))
    unfolding former size
    chained_latter r =
        chained_more links b i heads nexts c (2 * i + 1) q (omega arith) (omega arith, omega (arith, r, e, f, ap b (far_latter (table_of links) i))) (sym f) (omega (arith, r, e, most (at links (2 * i)))) (omega arith)
        (λ j g d s. ⊎_elim (λ (w : j ≡ 2 * i). omega (arith, r, e, f, former_rises (subst (λ (u : ℕ). Rises links b u) w s))) (λ (w : j ≡ 2 * i + 1). d w) (half? j g))

    pub chained_level : p ≡ q → ChainedFrom links b i heads nexts
    chained_level r =
        chained_past links b i heads nexts c
        (λ j g s.
        ⊎_elim
        (λ (w : j ≡ 2 * i). omega (arith, r, e, f, former_rises (subst (λ (u : ℕ). Rises links b u) w s)))
        (λ (w : j ≡ 2 * i + 1). omega (arith, r, e, f, latter_rises (subst (λ (u : ℕ). Rises links b u) w s)))
        (half? j g))
