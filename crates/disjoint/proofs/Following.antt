-- The walks of a matching: from each matched copy of s they lead to t, never twice through one switch, and meet nowhere else.
-- The direct link is a walk beside them.
use mathlib.Core.Path.{◌≡◌, refl, sym, ap, ◌∙◌, subst}
use mathlib.Core.Logic.{◌⊎◌, inl, inr, ⊎_elim, ◌≢◌}
use mathlib.Core.Bool.{true}
use mathlib.Core.List.{List, [], ◌∷◌}
use Prim.Native.Nat.{ℕ, zero, suc, pred, ◌≤◌, ◌<◌}
use native.Mathlib.Omega.{arith}
use lib.Dec.{eqb}
use lib.ListN.{length}
use borrow.Author.Tests.{eqb-true, eqb-false, eq-eqb, ne_eqb}
use Rattle.mondschein.specs.Network.{low, any, Network, at, In, Simple, Joins, Along, joins, joined, Proper}
use Rattle.mondschein.specs.Order.{walk_by}
use Rattle.mondschein.specs.Routes.{steps}
use Rattle.mondschein.proofs.Logic.{which, less?, same?}
use Rattle.mondschein.proofs.Search.{low_is, any_true, any_false, low_found, pigeon}
use Rattle.mondschein.proofs.Lists.{holds_in, at_same}
use Rattle.mondschein.proofs.Links.{joins_cases, cases_joins, joined_adjacent, along_passes, joins_ends, joins_sym, passes_held}
use Rattle.disjoint.specs.Paths.{Path, Disjoint}
use Rattle.disjoint.specs.Matching.{path_of}
use Rattle.disjoint.proofs.Alternating.{Matching}
use Rattle.disjoint.proofs.Edges.{joined_below, real_old, real_new, Edge}

-- a turns of p
unfoldable pub it : (ℕ → ℕ) → ℕ → ℕ → ℕ
it p zero u = u
it p (suc a) u = p (it p a u)

it_shift : (p : ℕ → ℕ) (a u : ℕ) → it p a (p u) ≡ it p (suc a) u
unfolding it
it_shift p zero u = refl
it_shift p (suc a) u = ap p (it_shift p a u)

steps_it : (p : ℕ → ℕ) (a u : ℕ) → steps p a u ≡ it p a u
unfolding it steps
steps_it p zero u = refl
steps_it p (suc a) u = steps_it p a (p u) ∙ it_shift p a u

-- a walk that comes to r after j steps, and not before
walk_is : (r : ℕ) (p : ℕ → ℕ) (k v j : ℕ) → j ≤ k → ((a : ℕ) → a < j → steps p a v ≢ r) → steps p j v ≡ r
    → (length (walk_by r p k v) ≡ suc j) × ((a : ℕ) → a ≤ j → at (walk_by r p k v) a ≡ steps p a v)
unfolding walk_by steps
walk_is r p zero v zero l d e = (refl, only)
  where
    only : (a : ℕ) → a ≤ 0 → at (v ∷ []) a ≡ steps p a v
    only zero m = refl
    only (suc a) m = absurd (omega arith)
walk_is r p zero v (suc j) l d e = absurd (omega arith)
walk_is r p (suc k) v zero l d e = rw (eq-eqb v r e) (refl, only)
  where
    only : (a : ℕ) → a ≤ 0 → at (v ∷ []) a ≡ steps p a v
    only zero m = refl
    only (suc a) m = absurd (omega arith)
walk_is r p (suc k) v (suc j) l d e = rw (ne_eqb v r (d 0 (omega arith))) (go (walk_is r p k (p v) j (omega arith) (λ a m. d (suc a) (omega arith)) e))
  where
    go : (length (walk_by r p k (p v)) ≡ suc j) × ((a : ℕ) → a ≤ j → at (walk_by r p k (p v)) a ≡ steps p a (p v)) → (suc (length (walk_by r p k (p v))) ≡ suc (suc j)) × ((a : ℕ) → a ≤ suc j → at (v ∷ walk_by r p k (p v)) a ≡ steps p a v)
    go (x, y) = (ap suc x, each)
      where
        each : (a : ℕ) → a ≤ suc j → at (v ∷ walk_by r p k (p v)) a ≡ steps p a v
        each zero m = refl
        each (suc a) m = y a (omega arith)

module _ (net : Network) (s t : ℕ) where
  -- two walks that share no switch but the ends share no link, where one does not use the direct link
  pub disjoint_by : (w w' : List ℕ) → Simple w → ((l : ℕ) → Joins net l s t → Along net w l → ⊥) → ((x : ℕ) → In w x → In w' x → (x ≡ s) ⊎ (x ≡ t)) → Disjoint net s t w w'
  disjoint_by w w' simple direct share = record { links = links; switches = share }
    where
      links : (l : ℕ) → Along net w l → Along net w' l → ⊥
      links i h h' =
          let (k, m, j) = h in
          let q = cases_joins net i _ _ j in
          let (x, y) = passes_held net w' i (at w k) (at w (suc k)) (along_passes net w' i h') q in
          let diff : at w k ≢ at w (suc k) = λ e. let z = simple k (suc k) (omega arith) m e in absurd (omega arith) in
          ⊎_elim
          (λ a. ⊎_elim
          (λ b. diff (a ∙ sym b))
          (λ b. direct i (joins_cases net i s t (subst (λ (v : ℕ). joins net i v t ≡ true) a (subst (λ (v : ℕ). joins net i (at w k) v ≡ true) b q))) h)
          (share (at w (suc k)) (suc k, m, refl) (holds_in w' _ y)))
          (λ a. ⊎_elim
          (λ b. direct i (joins_cases net i s t (joins_sym net i s t ∙ subst (λ (v : ℕ). joins net i v s ≡ true) a (subst (λ (v : ℕ). joins net i (at w k) v ≡ true) b q))) h)
          (λ b. diff (a ∙ sym b))
          (share (at w (suc k)) (suc k, m, refl) (holds_in w' _ y)))
          (share (at w k) (k, omega arith, refl) (holds_in w' _ x))

  turned : (w w' : List ℕ) → Disjoint net s t w w' → Disjoint net s t w' w
  turned w w' a = record { links = λ l h h'. a.links l h' h; switches = λ x h h'. a.switches x h' h }

  module _ (proper : Proper net) (ls : s < net.n) (d : s ≢ t) (k : ℕ) (nk : net.n ≤ k) (next : ℕ → ℕ) (m : Matching net.n t (Edge net s t) k next) where
    next_below : (u : ℕ) → u < k → next u < net.n
    next_below u l = ⊎_elim (λ (a, b). subst (λ (z : ℕ). z < net.n) b a) (λ q. (joined_below net proper _ _ q.0).1) (m.edge u l)

    module _ (u : ℕ) (nu : net.n ≤ u) (uk : u < k) where
      pub below : (a : ℕ) → it next a u < k
      unfolding it
      below zero = uk
      below (suc a) = omega (arith, next_below (it next a u) (below a))

      inner : (a : ℕ) → it next (suc a) u < net.n
      unfolding it
      inner a = next_below (it next a u) (below a)

      not_s : (a : ℕ) → it next a u ≢ s
      unfolding it
      not_s zero q = omega arith
      not_s (suc a) q = ⊎_elim (λ (_, b). not_s a (b ∙ q)) (λ e. e.3 q) (m.edge (it next a u) (below a))

      -- what follows t is t
      from_t : (a : ℕ) → it next a u ≡ t → it next (suc a) u ≡ t
      unfolding it
      from_t a q = ⊎_elim (λ (_, b). sym b ∙ q) (λ e. absurd (e.2 q)) (m.edge (it next a u) (below a))

    -- two walks are never at one switch other than t
    module _ (u : ℕ) (nu : net.n ≤ u) (uk : u < k) (v : ℕ) (nv : net.n ≤ v) (vk : v < k) where
      pub meet : (a b : ℕ) → it next a u ≡ it next b v → it next a u ≢ t → (a ≡ b) × (u ≡ v)
      unfolding it
      meet zero zero q z = (refl, q)
      meet zero (suc b) q z = absurd (omega (arith, inner v nv vk b, q))
      meet (suc a) zero q z = absurd (omega (arith, inner u nu uk a, q))
      meet (suc a) (suc b) q z =
          let r = meet a b (m.one (it next a u) (it next b v) (below u nu uk a) (below v nv vk b) q z) (λ y. z (from_t u nu uk a y)) in
          (ap suc r.0, r.1)

    module _ (u : ℕ) (nu : net.n ≤ u) (uk : u < k) where
      -- how many switches stand between the ends
      abbrev stop : ℕ
      stop = low (λ a. eqb (it next (suc a) u) t) (suc net.n)

      stops : (stop < suc net.n) × (it next (suc stop) u ≡ t) × ((a : ℕ) → a < stop → it next (suc a) u ≢ t)
      stops =
          ⊎_elim
          (λ h.
          let (a, l, q) = any_true (λ a. eqb (it next (suc a) u) t) (suc net.n) h in
          let (x, y) = low_found (λ a. eqb (it next (suc a) u) t) (suc net.n) a l q in
          (x, eqb-true _ _ y, λ b lb. eqb-false _ _ ((low_is (λ a. eqb (it next (suc a) u) t) (suc net.n)).before b lb)))
          (λ h.
          let p = pigeon (suc net.n) net.n (λ a. it next (suc a) u) (λ a l. inner u nu uk a)
          (λ a b la lb q. let z = (meet u nu uk u nu uk (suc a) (suc b) q (eqb-false _ _ (any_false (λ a. eqb (it next (suc a) u) t) (suc net.n) h a la))).0 in omega arith) in
          absurd (omega (arith, p)))
          (which (any (λ a. eqb (it next (suc a) u) t) (suc net.n)))

      abbrev w : List ℕ
      w = path_of net.n s t next u

      path_is : (length w ≡ suc (suc stop)) × ((a : ℕ) → a ≤ stop → at w (suc a) ≡ it next (suc a) u)
      unfolding path_of
      path_is =
          let st = stops in
          let (x, y) = walk_is t next net.n (next u) stop (omega (arith, st.0))
          (λ a l q. st.2 a l (sym (it_shift next a u) ∙ sym (steps_it next a (next u)) ∙ q))
          (steps_it next stop (next u) ∙ it_shift next stop u ∙ st.1) in
          (ap suc x, λ a l. y a l ∙ steps_it next a (next u) ∙ it_shift next a u)

      path_start : at w 0 ≡ s
      unfolding path_of
      path_start = refl

      -- every place but the first holds what the matching leads to
      places : (j : ℕ) → suc j < length w → (at w (suc j) ≡ it next (suc j) u) × (j ≤ stop)
      places j l = let b : j ≤ stop = omega (arith, path_is.0) in (path_is.1 j b, b)

      at_s : (j : ℕ) → j < length w → at w j ≡ s → j ≡ 0
      at_s zero l q = refl
      at_s (suc j) l q = absurd (not_s u nu uk (suc j) (sym (places j l).0 ∙ q))

      linked : (j : ℕ) → suc j < length w → joined net (at w j) (at w (suc j)) ≡ true
      unfolding it
      linked zero l =
          rw (path_start, (places zero l).0)
          (⊎_elim (λ (a, _). absurd (omega arith)) (λ e. subst (λ (z : ℕ). joined net z (next u) ≡ true) (real_new net.n s u nu) e.0) (m.edge u uk))
      linked (suc j) l =
          let (p, q) = places (suc j) l in
          let x : ℕ = it next (suc j) u in
          let ne : x ≢ t = stops.2 j (omega (arith, q)) in
          rw ((places j (omega arith)).0, p)
          (⊎_elim
          (λ (a, b). let z = (meet u nu uk u nu uk (suc j) (suc (suc j)) b ne).0 in absurd (omega arith))
          (λ e. subst (λ (z : ℕ). joined net z (next x) ≡ true) (real_old net.n s x (inner u nu uk j)) e.0)
          (m.edge x (below u nu uk (suc j))))

      last_place : at w (pred (length w)) ≡ t
      last_place = at_same w _ _ (let z : pred (length w) ≡ suc stop = omega (arith, path_is.0) in z) ∙ path_is.1 stop (omega arith) ∙ stops.1

      once : (i j : ℕ) → i < length w → j < length w → at w i ≡ at w j → i ≡ j
      once zero zero li lj q = refl
      once zero (suc j) li lj q = sym (at_s (suc j) lj (sym q ∙ path_start))
      once (suc i) zero li lj q = at_s (suc i) li (q ∙ path_start)
      once (suc i) (suc j) li lj q =
          let (x, bx) = places i li in
          let (y, by) = places j lj in
          let r : it next (suc i) u ≡ it next (suc j) u = sym x ∙ q ∙ y in
          ⊎_elim
          (λ e. ap suc (ends i bx e ∙ sym (ends j by (sym r ∙ e))))
          (λ f. (meet u nu uk u nu uk (suc i) (suc j) r f).0)
          (same? (it next (suc i) u) t)
        where
          ends : (a : ℕ) → a ≤ stop → it next (suc a) u ≡ t → a ≡ stop
          ends a l e = ⊎_elim (λ (h : a < stop). absurd (stops.2 a h e)) (λ (h : stop ≤ a). omega arith) (less? a stop)

      pub path : Path net s t w
      path =
          record {
            over = record { some = omega (arith, path_is.0); from = path_start; to = last_place; linked = λ j l. joined_adjacent net _ _ (linked j l) };
            simple = once;
          }

      -- the second switch is not t
      leaves : (j : ℕ) → suc j < length w → at w j ≡ s → at w (suc j) ≢ t
      unfolding it
      leaves j l p q =
          let z : j ≡ 0 = at_s j (omega arith) p in
          let y : next u ≡ t = sym (places 0 (omega arith)).0 ∙ at_same w 1 (suc j) (omega arith) ∙ q in
          ⊎_elim (λ (a, _). omega arith) (λ e. e.4 nu y) (m.edge u uk)

      no_direct : (i : ℕ) → Joins net i s t → Along net w i → ⊥
      no_direct i h (j, b, q) =
          ⊎_elim
          (λ (x, y). leaves j b x y)
          (λ (x, y). let z = at_s (suc j) b y in omega arith)
          (joins_ends net i (at w j) (at w (suc j)) s t (cases_joins net i _ _ q) (cases_joins net i s t h))

      held : (x : ℕ) → In w x → (x ≡ s) ⊎ ((a : ℕ) × (x ≡ it next a u))
      held x (zero, l, q) = inl (sym q ∙ path_start)
      held x (suc j, l, q) = inr (suc j, sym q ∙ (places j l).0)

    -- two walks from different copies
    pub disjoint : (u : ℕ) → net.n ≤ u → u < k → (v : ℕ) → net.n ≤ v → v < k → u ≢ v → Disjoint net s t (path_of net.n s t next u) (path_of net.n s t next v)
    disjoint u nu uk v nv vk uv =
        disjoint_by (path_of net.n s t next u) (path_of net.n s t next v) (path u nu uk).simple (no_direct u nu uk)
        (λ x h h'. ⊎_elim
        (λ e. inl e)
        (λ (a, p). ⊎_elim
        (λ e. inl e)
        (λ (b, q). ⊎_elim
        (λ e. inr e)
        (λ f. absurd (uv (meet u nu uk v nv vk a b (sym p ∙ q) (λ z. f (p ∙ z))).1))
        (same? x t))
        (held v nv vk x h'))
        (held u nu uk x h))

    ends : (x : ℕ) → In (s ∷ t ∷ []) x → (x ≡ s) ⊎ (x ≡ t)
    ends x (zero, l, q) = inl (sym q)
    ends x (suc zero, l, q) = inr (sym q)
    ends x (suc (suc k), l, q) = absurd (omega arith)

    -- the direct link and a walk
    pub beside : (u : ℕ) → net.n ≤ u → u < k → Disjoint net s t (s ∷ t ∷ []) (path_of net.n s t next u)
    beside u nu uk =
        turned (path_of net.n s t next u) (s ∷ t ∷ [])
        (disjoint_by (path_of net.n s t next u) (s ∷ t ∷ []) (path u nu uk).simple (no_direct u nu uk)
        (λ x h h'. ends x h'))

    -- the direct link as a walk
    pub direct_path : joined net s t ≡ true → Path net s t (s ∷ t ∷ [])
    direct_path h = record { over = record { some = omega arith; from = refl; to = refl; linked = λ j l. joined_adjacent net _ _ (linked' j l) }; simple = once' }
      where
        linked' : (j : ℕ) → suc j < 2 → joined net (at (s ∷ t ∷ []) j) (at (s ∷ t ∷ []) (suc j)) ≡ true
        linked' zero l = h
        linked' (suc j) l = absurd (omega arith)

        once' : (i j : ℕ) → i < 2 → j < 2 → at (s ∷ t ∷ []) i ≡ at (s ∷ t ∷ []) j → i ≡ j
        once' zero zero li lj q = refl
        once' zero (suc zero) li lj q = absurd (d q)
        once' zero (suc (suc j)) li lj q = absurd (omega arith)
        once' (suc zero) zero li lj q = absurd (d (sym q))
        once' (suc zero) (suc zero) li lj q = refl
        once' (suc zero) (suc (suc j)) li lj q = absurd (omega arith)
        once' (suc (suc i)) j li lj q = absurd (omega arith)
