-- Note 8 on every proper network, for two different switches: the answer is right, it gives three walks exactly where three exist, and
-- three such walks hold at most N + 4 numbers.
use mathlib.Core.Path.{◌≡◌, refl, sym, ap, ap₂, ◌∙◌, subst, fun_ext}
use mathlib.Core.Logic.{inl, ⊎_elim, ◌≢◌}
use mathlib.Core.Bool.{Bool, true, false, not, ◌&&◌, cond}
use mathlib.Core.List.{List, ◌∷◌}
use Prim.Native.Nat.{ℕ, zero, suc, ◌+◌, ◌≤◌, ◌<◌}
use native.Mathlib.Omega.{arith}
use lib.ListN.{length}
use Rattle.mondschein.specs.Network.{Network, at, joined, link_of, Proper}
use Rattle.mondschein.specs.Routes.{Thing, switch, link, Hits}
use Rattle.mondschein.proofs.Logic.{same?}
use Rattle.rows.specs.Rows.{marked}
use Rattle.disjoint.specs.Paths.{thing_at, Routes, walks, parted, Disjoint, ThreePaths, Other, Separates, Right, Excludes, AtMost, RightAnswers}
use Rattle.disjoint.specs.Matching.{lowest, Explored, augment, Tried, all, short, up_from, selves, in_cut, explore, matched, tries, answer_by, routes_of}
use Rattle.disjoint.proofs.Alternating.{Trace, seen, alternate, Matching, Traced, augmented}
use Rattle.disjoint.proofs.Edges.{Edge}
use Rattle.disjoint.proofs.Exploring.{cut_of, Spread, Explores, explored, explored_closed}
use Rattle.disjoint.proofs.Following.{path, disjoint, beside, direct_path}
use Rattle.disjoint.proofs.Separating.{separates_plain, separates_direct}
use Rattle.disjoint.proofs.Fitting.{paths_fit}
use Rattle.disjoint.proofs.Refining.{trace, augment_length, augment_is, lefts_below}

module _ (net : Network) (s t : ℕ) where
  -- two disjoint walks do not meet one and the same thing
  alone : (x : Thing) (w w' : List ℕ) → Other net s t x → Disjoint net s t w w' → Hits net x w → Hits net x w' → ⊥
  alone (switch x) w w' o a h h' = ⊎_elim o.1 o.2 (a.switches x h h')
  alone (link l) w w' o a h h' = a.links l h h'

pub excludes : Excludes
excludes net s t things p w₁ w₂ w₃ r =
    let (a, la, ha) = p.parts w₁ r.path₁.over in
    let (b, lb, hb) = p.parts w₂ r.path₂.over in
    let (c, lc, hc) = p.parts w₃ r.path₃.over in
    ⊎_elim
    (λ q. alone net s t (thing_at things b) w₁ w₂ (p.others b lb) r.disjoint₁₂ (subst (λ (z : ℕ). Hits net (thing_at things z) w₁) q ha) hb)
    (λ d. ⊎_elim
    (λ q. alone net s t (thing_at things c) w₁ w₃ (p.others c lc) r.disjoint₁₃ (subst (λ (z : ℕ). Hits net (thing_at things z) w₁) q ha) hc)
    (λ d'. ⊎_elim
    (λ q. alone net s t (thing_at things c) w₂ w₃ (p.others c lc) r.disjoint₂₃ (subst (λ (z : ℕ). Hits net (thing_at things z) w₂) q hb) hc)
    (λ d''. absurd (omega (arith, p.at_most)))
    (same? b c))
    (same? a c))
    (same? a b)

pub up_from_at : (c i j : ℕ) → j < c → at (up_from c i) j ≡ i + j
unfolding up_from
up_from_at zero i j l = absurd (omega arith)
up_from_at (suc c) i zero l = omega arith
up_from_at (suc c) i (suc j) l = up_from_at c (suc i) j (omega arith) ∙ (let z : suc i + j ≡ i + suc j = omega arith in z)

pub up_from_length : (c i : ℕ) → length (up_from c i) ≡ c
unfolding up_from
up_from_length zero i = refl
up_from_length (suc c) i = ap suc (up_from_length c (suc i))

module _ (net : Network) (s t : ℕ) (proper : Proper net) (ls : s < net.n) (lt : t < net.n) (d : s ≢ t) where
  abbrev Matches : ℕ → List ℕ → Type 0
  Matches k next = Matching net.n t (Edge net s t) k (at next)

  -- where a search for copy k did not come to t
  record Stuck (top : ℕ) (next mark : List ℕ) : Type 0 where
    k : ℕ
    tr : Trace
    from : net.n ≤ k
    before : k < top
    match : Matches k next
    traced : Traced net.n t (Edge net s t) k (at next) tr
    miss : seen tr t ≡ false
    spread : Spread net s t (at next) tr
    marks : (x : ℕ) → marked mark x ≡ seen tr x

  abbrev Good : ℕ → Tried → Type 0
  Good top (all next) = Matches top next
  Good top (short next mark) = Stuck top next mark

  tried : (i k top : ℕ) → k + i ≡ top → top ≤ 1027 → net.n ≤ k → (next : List ℕ) → length next ≡ 1027 → Matches k next → Good top (tries net s t i k next)
  unfolding tries matched
  tried zero k top e room nk next len m = subst (λ (z : ℕ). Matches z next) (let z : k ≡ top = omega arith in z) m
  tried (suc i) k top e room nk next len m = go (marked h.mark t) refl (tried i (suc k) top (omega arith) room (omega arith))
    where
      h : Explored
      h = explore net s t k next

      tr : Trace
      tr = trace h

      x : Explores net s t proper ls lt k nk (at next) h
      x = explored net s t proper ls lt k nk next m

      after : List ℕ
      after = augment k h.heads h.lefts h.count next t

      is : at after ≡ alternate k tr (at next) t
      is = augment_is k h.heads h.lefts h.count next t (omega arith) (lefts_below net.n t (Edge net s t) k (at next) h.heads h.lefts h.count x.traced)

      go : (b : Bool) → marked h.mark t ≡ b
          → ((n : List ℕ) → length n ≡ 1027 → Matches (suc k) n → Good top (tries net s t i (suc k) n))
          → Good top (cond b (tries net s t i (suc k) (cond b after next)) (short next h.mark))
      go true q ih =
          ih after (augment_length k h.heads h.lefts h.count next t ∙ len)
          (subst (λ (f : ℕ → ℕ). Matching net.n t (Edge net s t) (suc k) f) (sym is) (augmented net.n t (Edge net s t) k (at next) m tr x.traced (sym (x.marks t) ∙ q)))
      go false q ih =
          let q' : seen tr t ≡ false = sym (x.marks t) ∙ q in
          record {
            k = k;
            tr = tr;
            from = nk;
            before = omega arith;
            match = m;
            traced = x.traced;
            miss = q';
            spread = explored_closed net s t proper ls lt k nk next m q;
            marks = x.marks;
          }

  begun : Matches net.n selves
  begun =
      record {
        one = λ a b la lb q _. sym (same a la) ∙ q ∙ same b lb;
        edge = λ a l. inl (l, sym (same a l));
        onto = λ x l _ _. (x, l, same x l);
        free = λ _ _ _. refl;
      }
    where
      same : (a : ℕ) → a < net.n → at selves a ≡ a
      same a l = up_from_at 1027 0 a (omega (arith, proper.switches)) ∙ (let z : 0 + a ≡ a = omega arith in z)

  -- the marks name the same switches as the trace
  same_cut : (top : ℕ) (next mark : List ℕ) (g : Stuck top next mark) → cut_of (at next) g.tr ≡ in_cut next mark
  same_cut top next mark g = fun_ext (λ w. ap₂ (λ (a b : Bool). a && not b) (sym (g.marks w)) (sym (g.marks (at next w))))

  plain : joined net s t ≡ false → (r : Tried) → Good (net.n + 3) r → Right net s t (answer_by net s t false r)
  unfolding answer_by
  plain j (all next) m =
      let k : ℕ = net.n + 3 in
      let nk : net.n ≤ k = omega arith in
      let a : ℕ = net.n in
      let b : ℕ = suc a in
      let c : ℕ = suc b in
      record {
        path₁ = path net s t proper ls d k nk (at next) m a (omega arith) (omega arith);
        path₂ = path net s t proper ls d k nk (at next) m b (omega arith) (omega arith);
        path₃ = path net s t proper ls d k nk (at next) m c (omega arith) (omega arith);
        disjoint₁₂ = disjoint net s t proper ls d k nk (at next) m a (omega arith) (omega arith) b (omega arith) (omega arith) (omega arith);
        disjoint₁₃ = disjoint net s t proper ls d k nk (at next) m a (omega arith) (omega arith) c (omega arith) (omega arith) (omega arith);
        disjoint₂₃ = disjoint net s t proper ls d k nk (at next) m b (omega arith) (omega arith) c (omega arith) (omega arith) (omega arith);
      }
  plain j (short next mark) g =
      subst (λ (p : ℕ → Bool). Separates net s t (lowest net.n 2 p)) (same_cut (net.n + 3) next mark g)
      (separates_plain net s t proper ls lt d g.k g.from (at next) g.match g.tr g.traced g.miss g.spread j (omega (arith, g.before)))

  joint : joined net s t ≡ true → (r : Tried) → Good (net.n + 2) r → Right net s t (answer_by net s t true r)
  unfolding answer_by
  joint j (all next) m =
      let k : ℕ = net.n + 2 in
      let nk : net.n ≤ k = omega arith in
      let a : ℕ = net.n in
      let b : ℕ = suc a in
      record {
        path₁ = direct_path net s t proper ls d k nk (at next) m j;
        path₂ = path net s t proper ls d k nk (at next) m a (omega arith) (omega arith);
        path₃ = path net s t proper ls d k nk (at next) m b (omega arith) (omega arith);
        disjoint₁₂ = beside net s t proper ls d k nk (at next) m a (omega arith) (omega arith);
        disjoint₁₃ = beside net s t proper ls d k nk (at next) m b (omega arith) (omega arith);
        disjoint₂₃ = disjoint net s t proper ls d k nk (at next) m a (omega arith) (omega arith) b (omega arith) (omega arith) (omega arith);
      }
  joint j (short next mark) g =
      subst (λ (p : ℕ → Bool). Separates net s t (link (link_of net s t) ∷ lowest net.n 1 p)) (same_cut (net.n + 2) next mark g)
      (separates_direct net s t proper ls lt d g.k g.from (at next) g.match g.tr g.traced g.miss g.spread j (omega (arith, g.before)))

  right : Right net s t (routes_of net s t)
  unfolding routes_of
  right = go (joined net s t) refl
    where
      go : (b : Bool) → joined net s t ≡ b → Right net s t (answer_by net s t b (tries net s t (cond b 2 3) net.n selves))
      go true j = joint j (tries net s t 2 net.n selves) (tried 2 net.n (net.n + 2) (omega arith) (omega (arith, proper.switches)) (omega arith) selves (up_from_length 1027 0) begun)
      go false j = plain j (tries net s t 3 net.n selves) (tried 3 net.n (net.n + 3) (omega arith) (omega (arith, proper.switches)) (omega arith) selves (up_from_length 1027 0) begun)

pub right_answers : RightAnswers routes_of
right_answers net proper s t ls lt d =
    let r = right net s t proper ls lt d in
    (r, (to (routes_of net s t) r, λ (w₁, w₂, w₃, h). back w₁ w₂ w₃ h (routes_of net s t) r))
  where
    to : (b : Routes) → Right net s t b → (w₁ w₂ w₃ : List ℕ) × (b ≡ walks w₁ w₂ w₃) → (w₁ w₂ w₃ : List ℕ) × ThreePaths net s t w₁ w₂ w₃
    to b h (x, y, z, q) = (x, y, z, subst (Right net s t) q h)

    back : (w₁ w₂ w₃ : List ℕ) → ThreePaths net s t w₁ w₂ w₃ → (b : Routes) → Right net s t b → (w₁ w₂ w₃ : List ℕ) × (b ≡ walks w₁ w₂ w₃)
    back w₁ w₂ w₃ r (walks x y z) h = (x, y, z, refl)
    back w₁ w₂ w₃ r (parted things) h = absurd (excludes net s t things h w₁ w₂ w₃ r)

pub at_most_lem : AtMost
at_most_lem net proper s t d w₁ w₂ w₃ r = paths_fit net s t proper d w₁ w₂ w₃ r
