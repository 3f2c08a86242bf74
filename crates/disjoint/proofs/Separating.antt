-- Where a search did not come to t, what it entered and did not leave parts s and t: the cut of König's theorem.
-- It has no more switches than copies were matched before.
use mathlib.Core.Path.{◌≡◌, refl, sym, ap, ◌∙◌, subst}
use mathlib.Core.Logic.{◌⊎◌, inl, inr, ⊎_elim, ◌≢◌}
use mathlib.Core.Bool.{Bool, true, false, not, ◌&&◌, ◌||◌, cond}
use mathlib.Core.List.{List, [], ◌∷◌}
use Prim.Native.Nat.{ℕ, zero, suc, pred, ◌+◌, ◌-◌, ◌≤◌, ◌<◌}
use native.Mathlib.Omega.{arith}
use lib.Dec.{eqb}
use lib.ListN.{length}
use borrow.Author.Tests.{ltb-true, ne_eqb, not-true}
use Rattle.mondschein.specs.Network.{low, any, count, Network, at, In, joins, joined, passes, link_of, Proper}
use Rattle.mondschein.specs.Routes.{Thing, switch, link}
use Rattle.mondschein.proofs.Logic.{which, clash, same?, and_true, or_true, true_and}
use Rattle.mondschein.proofs.Search.{low_is, any_true, any_false, count_le}
use Rattle.mondschein.proofs.Links.{joins_cases, adjacent_joined, passes_along, along_passes, link_found}
use Rattle.disjoint.specs.Paths.{thing_at, Walk, Other, Separates}
use Rattle.disjoint.specs.Matching.{lowest}
use Rattle.disjoint.proofs.Counting.{count_some, count_apart, count_rest, count_stretch, count_onto}
use Rattle.disjoint.proofs.Alternating.{Trace, seen, Matching, Traced, traced_below}
use Rattle.disjoint.proofs.Edges.{Edge}
use Rattle.disjoint.proofs.Exploring.{cut_of, Spread}

-- what is picked passes, and all that passes is picked if it is no more than may be
module _ (n : ℕ) where
  lowest_cases : (P : List Thing → Type 0) (f : ℕ) (p : ℕ → Bool)
      → ((x : ℕ) → x < n → p x ≡ true → P (switch x ∷ lowest n f (λ w. p w && not (eqb w x))))
      → (any p n ≡ false → P [])
      → P (lowest n (suc f) p)
  unfolding lowest any
  lowest_cases P f p on none = go (any p n) refl
    where
      go : (b : Bool) → any p n ≡ b → P (cond b (switch (low p n) ∷ lowest n f (λ w. p w && not (eqb w (low p n)))) [])
      go true q = let l = ltb-true _ _ q in on (low p n) l ((low_is p n).hit l)
      go false q = none q

  pub lowest_few : (f : ℕ) (p : ℕ → Bool) → length (lowest n f p) ≤ f
  unfolding lowest
  lowest_few zero p = omega arith
  lowest_few (suc f) p = lowest_cases (λ l. length l ≤ suc f) f p (λ x l h. omega (arith, lowest_few f (λ w. p w && not (eqb w x)))) (λ q. omega arith)

  pub lowest_pass : (f : ℕ) (p : ℕ → Bool) (j : ℕ) → j < length (lowest n f p) → (x : ℕ) × (x < n) × (p x ≡ true) × (thing_at (lowest n f p) j ≡ switch x)
  unfolding lowest
  lowest_pass zero p j l = absurd (omega arith)
  lowest_pass (suc f) p j l =
      lowest_cases (λ l. j < length l → (x : ℕ) × (x < n) × (p x ≡ true) × (thing_at l j ≡ switch x)) f p
      (λ x lx h. go x lx h j (lowest_pass f (λ w. p w && not (eqb w x))))
      (λ q m. absurd (omega arith)) l
    where
      go : (x : ℕ) → x < n → p x ≡ true → (j : ℕ)
          → ((j : ℕ) → j < length (lowest n f (λ w. p w && not (eqb w x))) → (y : ℕ) × (y < n) × ((p y && not (eqb y x)) ≡ true) × (thing_at (lowest n f (λ w. p w && not (eqb w x))) j ≡ switch y))
          → j < suc (length (lowest n f (λ w. p w && not (eqb w x)))) → (y : ℕ) × (y < n) × (p y ≡ true) × (thing_at (switch x ∷ lowest n f (λ w. p w && not (eqb w x))) j ≡ switch y)
      go x lx h zero ih m = (x, lx, h, refl)
      go x lx h (suc j) ih m = let (y, ly, hy, q) = ih j (omega arith) in (y, ly, (and_true (p y) _ hy).0, q)

  pub lowest_all : (f : ℕ) (p : ℕ → Bool) → count p n ≤ f → (x : ℕ) → x < n → p x ≡ true → (j : ℕ) × (j < length (lowest n f p)) × (thing_at (lowest n f p) j ≡ switch x)
  unfolding lowest
  lowest_all zero p c x l h = absurd (omega (arith, count_some p n x l h))
  lowest_all (suc f) p c x l h =
      lowest_cases (λ l. (j : ℕ) × (j < length l) × (thing_at l j ≡ switch x)) f p
      (λ y ly hy. ⊎_elim
      (λ e. (0, omega arith, ap switch (sym e)))
      (λ d. let (j, lj, q) = lowest_all f (λ w. p w && not (eqb w y)) (omega (arith, count_rest p n y ly hy)) x l (true_and _ _ h (ap not (ne_eqb x y d))) in (suc j, omega (arith, lj), q))
      (same? x y))
      (λ q. clash h (any_false p n q x l))

module _ (net : Network) (s t : ℕ) (proper : Proper net) (ls : s < net.n) (lt : t < net.n) (d : s ≢ t) (k : ℕ) (nk : net.n ≤ k) (next : ℕ → ℕ) (m : Matching net.n t (Edge net s t) k next)
    (tr : Trace) (g : Traced net.n t (Edge net s t) k next tr) (miss : seen tr t ≡ false) (spread : Spread net s t next tr) where
  next_t : next t ≡ t
  next_t = ⊎_elim (λ (_, q). sym q) (λ e. absurd (e.2 refl)) (m.edge t (omega arith))

  next_s : next s ≡ s
  next_s = ⊎_elim (λ (_, q). sym q) (λ e. absurd (e.1 refl)) (m.edge s (omega arith))

  not_t : (x : ℕ) → seen tr x ≡ true → x ≢ t
  not_t x h q = clash (subst (λ (z : ℕ). seen tr z ≡ true) q h) miss

  -- what is left was entered
  left_entered : (u : ℕ) → u < net.n → seen tr (next u) ≡ true → seen tr u ≡ true
  left_entered u l h =
      ⊎_elim
      (λ e. subst (λ (z : ℕ). seen tr z ≡ true) (ap next e ∙ next_s ∙ sym e) h)
      (λ f. spread u u (inl (l, refl)) (λ e. not_t (next u) h (ap next e ∙ next_t)) f (λ e. absurd (f e)) (inr h))
      (same? u s)

  abbrev cut : ℕ → Bool
  cut = cut_of next tr

  pub cut_few : count cut net.n ≤ k - net.n
  cut_few =
      omega (
        arith,
        count_onto next (λ a. seen tr (next a)) net.n k (seen tr)
            (λ x l h. let (a, la, q) = m.onto x l (not_t x h) (not_t x h) in (a, la, subst (λ (z : ℕ). seen tr z ≡ true) (sym q) h, q)),
        count_stretch (λ a. seen tr (next a)) net.n k nk,
        count_apart (λ a. seen tr (next a)) cut net.n (λ x l h h'. clash h (not-true _ (and_true (seen tr x) _ h').1)),
        count_le (λ x. seen tr (next x) || cut x) (seen tr) net.n (λ x l h. ⊎_elim (left_entered x l) (λ q. (and_true (seen tr x) _ q).0) (or_true (seen tr (next x)) _ h)),
      )

  pub cut_other : (x : ℕ) → cut x ≡ true → (x ≢ s) × (x ≢ t)
  cut_other x h =
      let (a, b) = and_true (seen tr x) _ h in
      (λ e. clash (subst (λ (z : ℕ). seen tr z ≡ true) (e ∙ sym next_s ∙ ap next (sym e)) a) (not-true _ b), not_t x a)

  -- a walk that does not use the direct link passes through the cut
  crossed : (w : List ℕ) → Walk net s t w → ((j : ℕ) → suc j < length w → at w j ≡ s → at w (suc j) ≢ t) → (x : ℕ) × (x < net.n) × (cut x ≡ true) × In w x
  crossed w wk direct =
      ⊎_elim
      (λ h.
      let (j, l, q) = any_true (λ j. cut (at w j)) (length w) h in
      (at w j, traced_below net.n t (Edge net s t) k next tr g (at w j) (and_true (seen tr (at w j)) _ q).0, q, (j, l, refl)))
      (λ h. absurd (ends (on (any_false (λ j. cut (at w j)) (length w) h) (pred (length w)) (omega (arith, wk.some)))))
      (which (any (λ j. cut (at w j)) (length w)))
    where
      -- s, or entered and left
      Behind : ℕ → Type 0
      Behind x = (x ≡ s) ⊎ ((seen tr x ≡ true) × (seen tr (next x) ≡ true))

      ends : Behind (at w (pred (length w))) → ⊥
      ends = ⊎_elim (λ e. d (sym e ∙ wk.to)) (λ (h, _). not_t _ h wk.to)

      on : ((j : ℕ) → j < length w → cut (at w j) ≡ false) → (j : ℕ) → j < length w → Behind (at w j)
      on none zero l = inl wk.from
      on none (suc j) l =
          let i : Behind (at w j) = on none j (omega arith) in
          let b : ℕ = at w (suc j) in
          ⊎_elim
          (λ e. inl e)
          (λ f.
          let h : seen tr b ≡ true = spread (at w j) b (inr (adjacent_joined net _ _ (wk.linked j l)))
          (⊎_elim (λ e z. d (sym e ∙ z)) (λ (x, _) z. not_t _ x z) i) f (direct j l) (⊎_elim (λ e. inl e) (λ (_, y). inr y) i) in
          inr (h, ⊎_elim (λ y. y) (λ y. clash (true_and _ _ h (ap not y)) (none (suc j) l)) (which (seen tr (next b)))))
          (same? b s)

  -- the answer without a direct link, and with one
  pub separates_plain : joined net s t ≡ false → k ≤ net.n + 2 → Separates net s t (lowest net.n 2 cut)
  separates_plain nj kl =
      record {
        at_most = lowest_few net.n 2 cut;
        others = λ j l. let (x, lx, px, q) = lowest_pass net.n 2 cut j l in rw q (lx, (cut_other x px).0, (cut_other x px).1);
        parts = λ w wk.
            let (x, lx, px, hx) = crossed w wk (λ j l p q. clash (subst (λ (z : ℕ). joined net z t ≡ true) p (subst (λ (z : ℕ). joined net (at w j) z ≡ true) q (adjacent_joined net _ _ (wk.linked j l)))) nj) in
            let (j, lj, q) = lowest_all net.n 2 cut (omega (arith, cut_few)) x lx px in
            (j, lj, rw q hx);
      }

  pub separates_direct : joined net s t ≡ true → k ≤ net.n + 1 → Separates net s t (link (link_of net s t) ∷ lowest net.n 1 cut)
  separates_direct j kl =
      record {
        at_most = omega (arith, lowest_few net.n 1 cut);
        others = others;
        parts = λ w wk. ⊎_elim
            (λ h. (0, omega arith, passes_along net w _ h))
            (λ h.
            let (x, lx, px, hx) = crossed w wk (λ i l p q. clash
            (along_passes net w (link_of net s t) (
              i,
              l,
              joins_cases net _ _ _
                  (subst (λ (z : ℕ). joins net (link_of net s t) (at w i) z ≡ true) (sym q) (subst (λ (z : ℕ). joins net (link_of net s t) z t ≡ true) (sym p) (link_found net s t j).1)),
            ))
            h) in
            let (i, li, q) = lowest_all net.n 1 cut (omega (arith, cut_few)) x lx px in
            (suc i, omega (arith, li), rw q hx))
            (which (passes net w (link_of net s t)));
      }
    where
      others : (i : ℕ) → i < suc (length (lowest net.n 1 cut)) → Other net s t (thing_at (link (link_of net s t) ∷ lowest net.n 1 cut) i)
      others zero l = let (m, q) = link_found net s t j in (m, joins_cases net _ s t q)
      others (suc i) l = let (x, lx, px, q) = lowest_pass net.n 1 cut i (omega arith) in rw q (lx, (cut_other x px).0, (cut_other x px).1)
