-- Completeness: every ear of a Mondschein sequence passes every check, and every link is used.
-- `complete` gives the facts of the checks one by one.
use mathlib.Core.Path.{◌≡◌, refl, sym, ap₂, ◌∙◌, subst}
use mathlib.Core.Logic.{◌⊎◌, inl, inr, ⊎_elim, ◌≢◌}
use mathlib.Core.Bool.{true, false, ◌||◌, cond}
use mathlib.Core.List.{List}
use Prim.Native.Nat.{ℕ, zero, suc, pred, ◌≤◌, ◌<◌}
use native.Mathlib.Omega.{arith}
use lib.Dec.{eqb}
use lib.ListN.{length, take, length-take}
use borrow.Author.Tests.{eqb-true, eqb-false, ne_eqb}
use Rattle.mondschein.specs.Network.{Network, at, holds, size, joins, joined, passes, link_of, Proper, Ears, ear_at, born, birth, trail, used, is_new}
use Rattle.mondschein.specs.Mondschein.{On, End, Inner, Long, Contains, EarDecomposition, Mondschein}
use Rattle.mondschein.proofs.Logic.{which, clash, less?, trichotomy, or_left, true_or}
use Rattle.mondschein.proofs.Search.{any_true, true_any}
use Rattle.mondschein.proofs.Lists.{at_same, holds_in, in_holds, out_holds, simple_length}
use Rattle.mondschein.proofs.Links.{joins_cases, joins_sym, adjacent_joined, passes_along, along_passes, trail_passes, link_found}
use Rattle.mondschein.proofs.Births.{Passing, earlier, born_take, take_born, birth_is, birth_le, birth_unique}
use Rattle.mondschein.proofs.Inner.{where?, later_new, new_later, inner_new, new_inner, new_long, inner_birth, birth_inner}

module _ (net : Network) (proper : Proper net) (P : Ears) (M : Mondschein net P) where
  abbrev D : EarDecomposition net P
  D = M.decomposition

  linked : (i : ℕ) → i < length P → (k : ℕ) → suc k < length (ear_at P i) → joined net (at (ear_at P i) k) (at (ear_at P i) (suc k)) ≡ true
  linked i b k l = adjacent_joined net _ _ (D.linked i b k l)

  used_before : (i l : ℕ) → used net (take i P) l ≡ true → (j : ℕ) × (j < i) × (j < length P) × Contains net P j l
  unfolding used
  used_before i l h =
      let (j, m, t) = any_true (λ j. passes net (trail (eqb j 0) (ear_at (take i P) j)) l) (length (take i P)) h in
      let (a, b) : (j < i) × (j < length P) = omega (arith, m, length-take i P) in
      (j, a, b, passes_along net _ l (subst (λ (d : List ℕ). passes net (trail (eqb j 0) d) l ≡ true) (earlier P i j a) t))

  unused : (i : ℕ) → i < length P → (k : ℕ) → suc k < length (ear_at P i) → used net (take i P) (link_of net (at (ear_at P i) k) (at (ear_at P i) (suc k))) ≡ false
  unused i b k l =
      let e = ear_at P i in
      let (m, q) = link_found net (at e k) (at e (suc k)) (linked i b k l) in
      ⊎_elim
      (λ h.
      let (j, a, c, t) = used_before i _ h in
      let (_, _, _, only) = D.partition _ m in
      let z : i ≡ j = only i b (passes_along net _ _ (trail_passes net (eqb i 0) e k _ l q)) ∙ sym (only j c t) in
      absurd (omega (arith, a, z)))
      (λ f. f)
      (which (used net (take i P) (link_of net (at e k) (at e (suc k)))))

  -- the ends of a later ear are born before it, and what stands between them is not
  end_born : (i : ℕ) → i < length P → 0 < i → (x : ℕ) → On P i x → End P i x → born (take i P) x ≡ true
  end_born i b z x o e = let (j, m, t) = (D.meets i b z x o).1 e in take_born P i x j m (omega arith) (in_holds (ear_at P j) x t)

  ends_born : (i : ℕ) → i < length P → eqb i 0 ≡ false → (born (take i P) (at (ear_at P i) 0) ≡ true) × (born (take i P) (at (ear_at P i) (pred (length (ear_at P i)))) ≡ true)
  ends_born i b f =
      let z : 0 < i = omega (arith, eqb-false i 0 f) in
      let c = D.paths i b z in
      (end_born i b z _ (0, omega arith, refl) (inl refl), end_born i b z _ (pred (length (ear_at P i)), omega arith, refl) (inr refl))

  inner_unborn : (i : ℕ) → i < length P → eqb i 0 ≡ false → (k : ℕ) → 0 < k → suc k < length (ear_at P i) → born (take i P) (at (ear_at P i) k) ≡ false
  inner_unborn i b f k l m =
      ⊎_elim
      (λ t.
      let (j, a, c, h) = born_take P i _ t in
      ⊎_elim
      (λ q. absurd (let z = D.simple i b 0 k (omega arith) (omega arith) q in omega arith))
      (λ q. absurd (let z = D.simple i b (pred (length (ear_at P i))) k (omega arith) (omega arith) q in omega arith))
      ((D.meets i b (omega (arith, eqb-false i 0 f)) _ (k, omega arith, refl)).0 (j, a, holds_in (ear_at P j) _ h)))
      (λ g. g)
      (which (born (take i P) (at (ear_at P i) k)))

  -- last's birth ear
  abbrev u : ℕ
  u = M.final

  born_in_lem : (x : ℕ) → x < net.n → (birth P x < length P) × (holds (ear_at P (birth P x)) x ≡ true)
  born_in_lem x m =
      let (i, b, h) = D.spans x m in
      let l : birth P x < length P = omega (arith, birth_le P x i b (in_holds (ear_at P i) x h)) in
      (l, (birth_is P x).hit l)

  inner_in : (x : ℕ) → x < net.n → Inner P (birth P x) x
  inner_in x m =
      let (l, h) = born_in_lem x m in
      birth_inner P D.meets (birth P x) x l (holds_in (ear_at P (birth P x)) x h) (λ (j, a, t). clash (in_holds (ear_at P j) x t) ((birth_is P x).before j a))

  inner_long : (i x : ℕ) → i < length P → Inner P i x → Long P i
  inner_long i x b h = new_long P i x b D.cycle.0 (inner_new P i x h)

  -- nothing is born after last
  birth_most : (x : ℕ) → x < net.n → birth P x ≤ u
  birth_most x m = M.last_long.1 (birth P x) (inner_long (birth P x) x (born_in_lem x m).0 (inner_in x m))

  -- last is alone at the new indices of its ear
  new_last : (i k : ℕ) → u ≡ i → i < length P → k < length (ear_at P i) → is_new (eqb i 0) (length (ear_at P i)) k ≡ true → at (ear_at P i) k ≡ net.last
  new_last i k z b l f = M.alone _ (subst (λ (j : ℕ). Inner P j (at (ear_at P i) k)) (sym z) (new_inner P i _ (D.simple i b) (k, l, f, refl)))

  -- its ear has no link root-last
  no_link_lem : (i k : ℕ) → u ≡ i → i < length P → suc k < length (ear_at P i)
      → ((at (ear_at P i) k ≡ net.root) × (at (ear_at P i) (suc k) ≡ net.last)) ⊎ ((at (ear_at P i) k ≡ net.last) × (at (ear_at P i) (suc k) ≡ net.root)) → ⊥
  no_link_lem i k z b l w =
      let e = ear_at P i in
      let (m, q) = link_found net (at e k) (at e (suc k)) (linked i b k l) in
      let t : Contains net P u (link_of net (at e k) (at e (suc k))) =
      subst (λ (j : ℕ). Contains net P j (link_of net (at e k) (at e (suc k)))) (sym z) (passes_along net _ _ (trail_passes net (eqb i 0) e k _ l q)) in
      M.avoiding _ m
      (joins_cases net _ _ _
      (⊎_elim
      (λ (x, y). ap₂ (joins net _) (sym x) (sym y) ∙ q)
      (λ (x, y). joins_sym net _ _ _ ∙ ap₂ (joins net _) (sym x) (sym y) ∙ q)
      w))
      t

  no_root : (i k : ℕ) → u ≡ i → i < length P → k < length (ear_at P i) → at (ear_at P i) k ≢ net.root
  unfolding is_new
  no_root zero k z b l r = proper.distinct.1 (sym r ∙ new_last zero k z b l refl)
  no_root (suc i) k z b l r =
      let e = ear_at P (suc i) in
      let last_birth : birth P net.last ≡ suc i = birth_unique P u net.last M.birth ∙ z in
      let (h, v, f, q) = inner_new P (suc i) net.last (subst (λ (j : ℕ). Inner P j net.last) last_birth (inner_in net.last proper.named.2)) in
      let (a, c) = later_new i (length e) h f in
      ⊎_elim
      (λ (w : k ≡ 0). no_link_lem (suc i) 0 z b (omega (arith, a, c)) (inl (at_same e 0 k (sym w) ∙ r, new_last (suc i) 1 z b (omega (arith, a, c)) (new_later i (length e) 1 (omega arith) (omega (arith, a, c))))))
      (⊎_elim
      (λ (w : k ≡ pred (length e)).
      let p = pred (pred (length e)) in
      let n : suc p ≡ k = omega (arith, a, c) in
      no_link_lem (suc i) p z b (omega (arith, a, c)) (inr (new_last (suc i) p z b (omega (arith, a, c)) (new_later i (length e) p (omega (arith, a, c)) (omega (arith, a, c))), at_same e (suc p) k n ∙ r)))
      (λ (x, y). proper.distinct.1 (sym r ∙ new_last (suc i) k z b l (new_later i (length e) k x y))))
      (where? (length e) k l)

  last_birth : (i k : ℕ) → i < length P → k < length (ear_at P i) → is_new (eqb i 0) (length (ear_at P i)) k ≡ true → at (ear_at P i) k ≡ net.last → u ≡ i
  last_birth i k b l f q = sym (birth_unique P u net.last M.birth) ∙ inner_birth P D.meets i net.last b (new_inner P i _ (D.simple i b) (k, l, f, q))

  all_here : (i x : ℕ) → u ≡ i → x < net.n → (born (take i P) x || holds (ear_at P i) x) ≡ true
  all_here i x z m =
      let h = born_in_lem x m in
      ⊎_elim
      (λ (w : birth P x < i). or_left _ (holds (ear_at P i) x) (take_born P i x (birth P x) w h.0 h.1))
      (λ (w : i ≤ birth P x). true_or (born (take i P) x) _ (subst (λ (j : ℕ). holds (ear_at P j) x ≡ true) (let y : birth P x ≡ i = omega (arith, birth_most x m) in y) h.1))
      (less? (birth P x) i)

  later_neighbour : (i : ℕ) → i < length P → (k : ℕ) → k < length (ear_at P i) → is_new (eqb i 0) (length (ear_at P i)) k ≡ true → at (ear_at P i) k ≢ net.last
      → (x : ℕ) × (x < net.n) × (joined net (at (ear_at P i) k) x ≡ true) × (born (take i P) x ≡ false) × (holds (ear_at P i) x ≡ false)
  later_neighbour i b k l f d =
      let e = ear_at P i in
      let h = new_inner P i (at e k) (D.simple i b) (k, l, f, refl) in
      let long = inner_long i _ b h in
      let n : i < u =
      ⊎_elim
      (λ w. w)
      (⊎_elim (λ (w : u < i). absurd (omega (arith, M.last_long.1 i long))) (λ w. absurd (d (new_last i k (sym w) b l f))))
      (trichotomy i u) in
      let (y, a, j, o) = M.non_separating i u (omega (arith, n)) long M.last_long.0 (at e k) h in (
        y,
        a,
        adjacent_joined net _ y j,
        ⊎_elim (λ t. let (j', m, c, w) = born_take P i y t in absurd (o (j', omega (arith, m), holds_in (ear_at P j') y w))) (λ g. g) (which (born (take i P) y)),
        out_holds e y (λ t. o (i, omega arith, t)),
      )

  pub complete : Passing net P
  complete i b =
      record {
        at_least = enough i b;
        fits = simple_length net.n (ear_at P i) (D.simple i b) (D.inside i b);
        below = λ k l. D.inside i b (at (ear_at P i) k) (k, l, refl);
        simple = D.simple i b;
        linked = linked i b;
        unused = unused i b;
        cycle = λ t. subst (λ (j : ℕ). (at (ear_at P j) 0 ≡ net.root) × (at (ear_at P j) (pred (length (ear_at P j))) ≡ net.first)) (sym (eqb-true i 0 t)) M.through;
        ends = ends_born i b;
        inner = inner_unborn i b;
        alone = λ k l f q.
            let z = last_birth i k b l f q in (
              λ j m g. D.simple i b j k m l (new_last i j z b m g ∙ sym q),
              λ x m _. all_here i x z m,
              no_root i 0 z b (omega arith),
              no_root i (pred (length (ear_at P i))) z b (omega arith),
            );
        neighbour = later_neighbour i b;
      }
    where
      enough : (i : ℕ) → i < length P → cond (eqb i 0) 3 2 ≤ length (ear_at P i)
      enough zero b = D.cycle.0
      enough (suc i) b = rw (ne_eqb (suc i) 0 (λ q. omega arith)) (D.paths (suc i) b (omega arith))

  pub complete_used : (l : ℕ) → l < size net → used net P l ≡ true
  unfolding used
  complete_used l m = let (i, b, h, _) = D.partition l m in true_any (λ i. passes net (trail (eqb i 0) (ear_at P i)) l) (length P) i b (along_passes net _ l h)
