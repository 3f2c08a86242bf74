-- Three routes from numbers: where births b and positions s in an order rank the switches so that tree 1 goes back in the order, tree 2
-- on in it, and tree 3 to later births, the three tables and their walks are as demand 3 says.
use mathlib.Core.Path.{◌≡◌, refl, sym, ap, ◌∙◌, subst}
use mathlib.Core.Logic.{◌⊎◌, inl, inr, ⊎_elim, ◌≢◌}
use mathlib.Core.Bool.{Bool, true, false, cond}
use mathlib.Core.List.{List, [], ◌∷◌}
use Prim.Native.Nat.{ℕ, zero, suc, pred, ◌-◌, ◌≤◌, ◌<◌}
use native.Mathlib.Omega.{arith}
use lib.Dec.{eqb, ltb}
use lib.ListN.{length}
use borrow.Author.Tests.{ltb-true, lt-ltb, le-ltb, eqb-true, eqb-false, eq-eqb, ne_eqb}
use Rattle.mondschein.specs.Network.{count, Network, at, holds, Adjacent, joins, passes, Proper}
use Rattle.mondschein.specs.Order.{walk_by}
use Rattle.mondschein.specs.Routes.{Tree, Walk, arrived, onward, steps, Thing, switch, link, Lies, Apart, Other, Hits, Whole, ThreeRoutes}
use Rattle.mondschein.proofs.Logic.{which, same?, clash}
use Rattle.mondschein.proofs.Search.{count_lt, count_bound}
use Rattle.mondschein.proofs.Lists.{holds_cons, holds_nil, holds_in, in_holds}
use Rattle.mondschein.proofs.Links.{passes_nil, passes_on, joins_ends, cases_joins, adjacent_below, passes_along, along_passes}

-- a table over the switches below n on which some number falls until the root
module _ (n r : ℕ) (p : ℕ → ℕ) where
  pub record Falls (rank : ℕ → ℕ) : Type 0 where
    pub inside : (x : ℕ) → x < n → x ≢ r → p x < n
    pub falls : (x : ℕ) → x < n → x ≢ r → rank (p x) < rank x

  by_rank : (rank : ℕ → ℕ) → Falls rank → (k v : ℕ) → v < n → rank v ≤ k → (j : ℕ) × (j ≤ k) × (steps p j v ≡ r)
  unfolding steps
  by_rank rank f zero v l b = ⊎_elim (λ e. (0, omega arith, e)) (λ d. absurd (omega (arith, f.falls v l d))) (same? v r)
  by_rank rank f (suc k) v l b =
      ⊎_elim
      (λ e. (0, omega arith, e))
      (λ d. let w = by_rank rank f k (p v) (f.inside v l d) (omega (arith, f.falls v l d)) in (suc w.0, omega (arith, w.1), w.2))
      (same? v r)

  -- how many switches have a smaller rank: it falls too, and is below n
  module _ (rank : ℕ → ℕ) (f : Falls rank) where
    smaller : ℕ → ℕ → Bool
    smaller x y = ltb (rank y) (rank x)

    squash : ℕ → ℕ
    squash x = count (smaller x) n

    squash_lt : (x y : ℕ) → x < n → rank x < rank y → squash x < squash y
    unfolding squash smaller
    squash_lt x y l h =
        count_lt (smaller x) (smaller y) n
        (λ k m t. lt-ltb (rank k) (rank y) (omega (arith, ltb-true (rank k) (rank x) t)))
        x l (le-ltb (rank x) (rank x) (omega arith)) (lt-ltb (rank x) (rank y) h)

    squash_bound : (x : ℕ) → x < n → squash x < n
    unfolding squash smaller
    squash_bound x l =
        omega (
          arith,
          count_lt (smaller x) (λ y. true) n (λ k m t. refl) x l (le-ltb (rank x) (rank x) (omega arith)) refl,
          count_bound (λ y. true) n,
        )

    pub reach : (v : ℕ) → v < n → (j : ℕ) × (j ≤ pred n) × (steps p j v ≡ r)
    reach v l =
        by_rank squash
        (record { inside = f.inside; falls = λ x m d. squash_lt (p x) x (f.inside x m d) (f.falls x m d) })
        (pred n) v l (omega (arith, squash_bound v l))

-- a walk begins at its switch
abbrev Begins : ℕ → ℕ → List ℕ → Type 0
Begins k v w = (at w 0 ≡ v) × (0 < length w) × (length w ≤ suc k)

module _ (r : ℕ) (p : ℕ → ℕ) where
  -- a walk is the root alone, or the switch and the walk of its parent
  walk_cases : (P : List ℕ → Type 0) (k v : ℕ) → (v ≡ r → P (v ∷ [])) → (v ≢ r → P (v ∷ walk_by r p k (p v))) → P (walk_by r p (suc k) v)
  unfolding walk_by
  walk_cases P k v stop on = go (eqb v r) (λ t. stop (eqb-true v r t)) (λ f. on (eqb-false v r f))
    where
      go : (b : Bool) → (b ≡ true → P (v ∷ [])) → (b ≡ false → P (v ∷ walk_by r p k (p v))) → P (cond b (v ∷ []) (v ∷ walk_by r p k (p v)))
      go true s o = s refl
      go false s o = o refl

  at_root : (v : ℕ) → v ≡ r → Walk r p v (v ∷ [])
  at_root v e = subst (λ (x : ℕ). Walk r p x (x ∷ [])) (sym e) arrived

  walk_first : (k v : ℕ) → Begins k v (walk_by r p k v)
  unfolding walk_by
  walk_first zero v = (refl, omega arith, omega arith)
  walk_first (suc k) v = walk_cases (Begins (suc k) v) k v (λ e. (refl, omega arith, omega arith)) (λ d. (refl, omega arith, omega (arith, (walk_first k (p v)).2)))

  -- it is document 01's walk where k steps reach the root
  walk_is : (k v j : ℕ) → j ≤ k → steps p j v ≡ r → Walk r p v (walk_by r p k v)
  unfolding walk_by steps
  walk_is zero v zero l e = at_root v e
  walk_is zero v (suc j) l e = absurd (omega arith)
  walk_is (suc k) v zero l e = walk_cases (Walk r p v) k v (at_root v) (λ d. absurd (d e))
  walk_is (suc k) v (suc j) l e = walk_cases (Walk r p v) k v (at_root v) (λ d. onward d (walk_is k (p v) j (omega arith) e))

  -- what is kept along the table holds of every switch of the walk, and of every link's two ends
  module _ (Q : ℕ → Type 0) (on : (x : ℕ) → Q x → x ≢ r → Q (p x)) where
    walk_holds : (k v : ℕ) → Q v → (x : ℕ) → holds (walk_by r p k v) x ≡ true → Q x
    unfolding walk_by
    walk_holds zero v q x h = ⊎_elim (λ e. subst Q e q) (holds_nil x) (holds_cons v [] x h)
    walk_holds (suc k) v q x h =
        walk_cases (λ w. holds w x ≡ true → Q x) k v
        (λ e h'. ⊎_elim (λ e'. subst Q e' q) (holds_nil x) (holds_cons v [] x h'))
        (λ d h'. ⊎_elim (λ e'. subst Q e' q) (walk_holds k (p v) (on v q d) x) (holds_cons v _ x h'))
        h

    walk_passes : (net : Network) (k v : ℕ) → Q v → (i : ℕ) → passes net (walk_by r p k v) i ≡ true → (x : ℕ) × Q x × (x ≢ r) × Q (p x) × (joins net i x (p x) ≡ true)
    unfolding walk_by
    walk_passes net zero v q i h = passes_nil net v i h
    walk_passes net (suc k) v q i h =
        walk_cases (λ w. passes net w i ≡ true → (x : ℕ) × Q x × (x ≢ r) × Q (p x) × (joins net i x (p x) ≡ true)) k v
        (λ e h'. passes_nil net v i h')
        (λ d h'.
        ⊎_elim
        (λ j. (v, q, d, on v q d, j))
        (walk_passes net k (p v) (on v q d) i)
        (passes_on net v (p v) (walk_by r p k (p v)) i (walk_first k (p v)).0 (walk_first k (p v)).1 h'))
        h

-- a walk has a switch, and at most one more than its limit
pub walk_bound : (root : ℕ) (p : ℕ → ℕ) (limit v : ℕ) → (0 < length (walk_by root p limit v)) × (length (walk_by root p limit v) ≤ suc limit)
unfolding walk_by
walk_bound root p zero v = omega arith
walk_bound root p (suc k) v = go (eqb v root) (walk_bound root p k (p v)).1
  where
    go : (b : Bool) → length (walk_by root p k (p v)) ≤ suc k
        → (0 < length (cond b (v ∷ []) (v ∷ walk_by root p k (p v)))) × (length (cond b (v ∷ []) (v ∷ walk_by root p k (p v))) ≤ suc (suc k))
    go true h = omega arith
    go false h = omega arith

-- tables that agree below n have the same walks there
pub walk_ext : (r n : ℕ) (p q : ℕ → ℕ) → ((x : ℕ) → x < n → p x ≡ q x) → ((x : ℕ) → x < n → x ≢ r → p x < n) → (k v : ℕ) → v < n → walk_by r p k v ≡ walk_by r q k v
unfolding walk_by
walk_ext r n p q e inside zero v l = refl
walk_ext r n p q e inside (suc k) v l =
    ⊎_elim
    (λ (t : v ≡ r). rw (eq-eqb v r t))
    (λ d. rw (ne_eqb v r d) (ap (λ (w : List ℕ). v ∷ w) (walk_ext r n p q e inside k (p v) (inside v l d) ∙ ap (walk_by r q k) (e v l))))
    (same? v r)

-- two walks from v whose switches meet only at the ends, and whose first links are not both v's link to the root, share no link
apart : (net : Network) (v : ℕ) (p q : ℕ → ℕ) (P Q : ℕ → Type 0)
    → P v → ((x : ℕ) → P x → x ≢ net.root → P (p x))
    → Q v → ((x : ℕ) → Q x → x ≢ net.root → Q (q x))
    → ((x : ℕ) → P x → Q x → (x ≡ v) ⊎ (x ≡ net.root))
    → p v ≢ v → (p v ≡ net.root → q v ≡ net.root → ⊥)
    → Apart net v (walk_by net.root p (pred net.n) v) (walk_by net.root q (pred net.n) v)
apart net v p q P Q pv pon qv qon meet moves roots =
    record {
      links = λ i g h. clash_links i (walk_passes r p P pon net m v pv i (along_passes net _ i g)) (walk_passes r q Q qon net m v qv i (along_passes net _ i h));
      switches = λ x g h. meet x (walk_holds r p P pon m v pv x (in_holds _ x g)) (walk_holds r q Q qon m v qv x (in_holds _ x h));
    }
  where
    r : ℕ
    r = net.root

    m : ℕ
    m = pred net.n

    clash_links : (i : ℕ) → (x : ℕ) × P x × (x ≢ net.root) × P (p x) × (joins net i x (p x) ≡ true) → (y : ℕ) × Q y × (y ≢ net.root) × Q (q y) × (joins net i y (q y) ≡ true) → ⊥
    clash_links i (x, px, xr, ppx, jx) (y, qy, yr, qqy, jy) =
        ⊎_elim
        (λ w.
        ⊎_elim
        (λ xv. ⊎_elim (λ h. moves (cc)) (λ h. roots (cc) (cc)) (meet (p x) ppx (subst Q (sym w.1) qqy)))
        xr
        (meet x px (subst Q (sym w.0) qy)))
        (λ w.
        ⊎_elim
        (λ xv. ⊎_elim (λ yv. moves (cc)) yr (meet y (subst P w.1 ppx) qy))
        xr
        (meet x px (subst Q (sym w.0) qqy)))
        (joins_ends net i x (p x) y (q y) jx jy)

module _ (net : Network) (v : ℕ) where
  hits? : (f : Thing) (w : List ℕ) → Hits net f w ⊎ (Hits net f w → ⊥)
  hits? (switch x) w = ⊎_elim (λ t. inl (holds_in w x t)) (λ g. inr (λ h. clash (in_holds w x h) g)) (which (holds w x))
  hits? (link l) w = ⊎_elim (λ t. inl (passes_along net w l t)) (λ g. inr (λ h. clash (along_passes net w l h) g)) (which (passes net w l))

  -- what fails hits at most one of two walks that are apart
  once : (w w' : List ℕ) → Apart net v w w' → (f : Thing) → Other net v f → Hits net f w → Hits net f w' → ⊥
  once w w' a (switch x) (e, e') h h' = ⊎_elim e e' (a.switches x h h')
  once w w' a (link l) o h h' = a.links l h h'

  whole? : (f f' : Thing) (w : List ℕ) → Whole net f f' w ⊎ (Hits net f w ⊎ Hits net f' w)
  whole? f f' w = ⊎_elim (λ h. inr (inl h)) (λ g. ⊎_elim (λ h. inr (inr h)) (λ g'. inl (g, g')) (hits? f' w)) (hits? f w)

  one_whole_lem : (w : ℕ → List ℕ) → ((t t' : ℕ) → Tree t → Tree t' → t ≢ t' → Apart net v (w t) (w t')) → (f f' : Thing) → Other net v f → Other net v f'
      → (t : ℕ) × Tree t × Whole net f f' (w t)
  one_whole_lem w a f f' o o' =
      ⊎_elim
      (λ g. (1, omega arith, g))
      (λ h. ⊎_elim (λ g. (2, omega arith, g)) (λ h'. (3, omega arith, rest h h')) (whole? f f' (w 2)))
      (whole? f f' (w 1))
    where
      two : (t t' : ℕ) → Tree t → Tree t' → t ≢ t' → (g : Thing) → Other net v g → Hits net g (w t) → Hits net g (w t') → ⊥
      two t t' m m' d = once (w t) (w t') (a t t' m m' d)

      rest : Hits net f (w 1) ⊎ Hits net f' (w 1) → Hits net f (w 2) ⊎ Hits net f' (w 2) → Whole net f f' (w 3)
      rest (inl h) (inl h') = absurd (two 1 2 (omega arith) (omega arith) (λ z. omega arith) f o h h')
      rest (inl h) (inr h') = (two 1 3 (omega arith) (omega arith) (λ z. omega arith) f o h, two 2 3 (omega arith) (omega arith) (λ z. omega arith) f' o' h')
      rest (inr h) (inl h') = (two 2 3 (omega arith) (omega arith) (λ z. omega arith) f o h', two 1 3 (omega arith) (omega arith) (λ z. omega arith) f' o' h)
      rest (inr h) (inr h') = absurd (two 1 2 (omega arith) (omega arith) (λ z. omega arith) f' o' h h')

-- the trees one by one
pub by_tree : (Q : ℕ → Type 0) → Q 1 → Q 2 → Q 3 → (t : ℕ) → Tree t → Q t
by_tree Q a b c zero m = absurd (omega arith)
by_tree Q a b c (suc zero) m = a
by_tree Q a b c (suc (suc zero)) m = b
by_tree Q a b c (suc (suc (suc zero))) m = c
by_tree Q a b c (suc (suc (suc (suc t)))) m = absurd (omega arith)

-- the numbers behind three routes
pub record Numbered (net : Network) (b s : ℕ → ℕ) (p : ℕ → ℕ → ℕ) : Type 0 where
  pub proper : Proper net
  pub fixed : (t : ℕ) → Tree t → p t net.root ≡ net.root
  pub linked : (t : ℕ) → Tree t → (x : ℕ) → x < net.n → x ≢ net.root → Adjacent net x (p t x)
  -- tree 1 goes back in the order, tree 2 on in it, and neither to a later ear; tree 3 goes to a later ear
  pub back : (x : ℕ) → x < net.n → x ≢ net.root → s (p 1 x) < s x
  pub onward : (x : ℕ) → x < net.n → x ≢ net.root → ((x ≡ net.first) × (p 2 x ≡ net.root)) ⊎ (s x < s (p 2 x))
  pub older₁ : (x : ℕ) → x < net.n → x ≢ net.root → b (p 1 x) ≤ b x
  pub older₂ : (x : ℕ) → x < net.n → x ≢ net.root → b (p 2 x) ≤ b x
  pub later : (x : ℕ) → x < net.n → x ≢ net.root → ((x ≡ net.last) × (p 3 x ≡ net.root)) ⊎ (b x < b (p 3 x))
  -- the root comes first
  pub s_root : s net.root ≡ 0
  pub b_root : b net.root ≡ 0
  -- positions and births have a bound
  pub limit : ℕ
  pub s_limit : (x : ℕ) → x < net.n → s x ≤ limit
  pub b_limit : (x : ℕ) → x < net.n → b x ≤ limit
  -- first and last have no second link to the root
  pub first_inner : p 1 net.first ≢ net.root
  pub last_inner : p 1 net.last ≢ net.root

module _ (net : Network) (b s : ℕ → ℕ) (p : ℕ → ℕ → ℕ) (N : Numbered net b s p) where
  inside : (t : ℕ) → Tree t → (x : ℕ) → x < net.n → x ≢ net.root → p t x < net.n
  inside t m x l d = (adjacent_below net N.proper x (p t x) (N.linked t m x l d)).1

  -- trees 2 and 3: how far it is to the limit, and one more
  left : (ℕ → ℕ) → ℕ → ℕ
  left f x = cond (eqb x net.root) 0 (suc (N.limit - f x))

  left_falls : (f : ℕ → ℕ) (x y : ℕ) → x ≢ net.root → (y ≡ net.root) ⊎ ((f x < f y) × (f y ≤ N.limit)) → left f y < left f x
  unfolding left
  left_falls f x y d (inl e) = rw (ne_eqb x net.root d, eq-eqb y net.root e) (omega arith)
  left_falls f x y d (inr w) =
      ⊎_elim
      (λ (t : eqb y net.root ≡ true). rw (t, ne_eqb x net.root d) (omega arith))
      (λ (t : eqb y net.root ≡ false). rw (t, ne_eqb x net.root d) (omega arith))
      (which (eqb y net.root))

  -- on each table some number falls
  falling : (t : ℕ) → Tree t → (rank : ℕ → ℕ) × Falls net.n net.root (p t) rank
  falling =
      by_tree (λ t. (rank : ℕ → ℕ) × Falls net.n net.root (p t) rank)
      (s, record { inside = inside 1 (omega arith); falls = N.back }) (
        left s,
        record {
          inside = inside 2 (omega arith);
          falls = λ x l d. left_falls s x (p 2 x) d (⊎_elim (λ w. inl w.1) (λ w. inr (w, N.s_limit (p 2 x) (inside 2 (omega arith) x l d))) (N.onward x l d));
        },
      ) (
        left b,
        record {
          inside = inside 3 (omega arith);
          falls = λ x l d. left_falls b x (p 3 x) d (⊎_elim (λ w. inl w.1) (λ w. inr (w, N.b_limit (p 3 x) (inside 3 (omega arith) x l d))) (N.later x l d));
        },
      )

  reaches : (t : ℕ) → Tree t → (v : ℕ) → v < net.n → (j : ℕ) × (j ≤ pred net.n) × (steps (p t) j v ≡ net.root)
  reaches t m v l = let (rank, f) = falling t m in reach net.n net.root (p t) rank f v l

  abbrev w : ℕ → ℕ → List ℕ
  w t v = walk_by net.root (p t) (pred net.n) v

  module _ (v : ℕ) (l : v < net.n) (d : v ≢ net.root) where
    abbrev On₁ : ℕ → Type 0
    On₁ x = (x < net.n) × (b x ≤ b v) × ((x ≡ v) ⊎ (s x < s v))

    abbrev On₂ : ℕ → Type 0
    On₂ x = (x < net.n) × (b x ≤ b v) × ((x ≡ v) ⊎ ((x ≡ net.root) ⊎ (s v < s x)))

    abbrev On₃ : ℕ → Type 0
    On₃ x = (x < net.n) × ((x ≡ v) ⊎ ((x ≡ net.root) ⊎ (b v < b x)))

    on₁ : (x : ℕ) → On₁ x → x ≢ net.root → On₁ (p 1 x)
    on₁ x (m, o, w) e = (
      inside 1 (omega arith) x m e,
      omega (arith, N.older₁ x m e),
      inr (⊎_elim (λ h. subst (λ (y : ℕ). s (p 1 x) < s y) h (N.back x m e)) (λ h. omega (arith, N.back x m e)) w),
    )

    on₂ : (x : ℕ) → On₂ x → x ≢ net.root → On₂ (p 2 x)
    on₂ x (m, o, w) e = (
      inside 2 (omega arith) x m e,
      omega (arith, N.older₂ x m e),
      inr
          (⊎_elim
          (λ z. inl z.1)
          (λ z. inr (⊎_elim (λ h. subst (λ (y : ℕ). s y < s (p 2 x)) h z) (⊎_elim (λ h. absurd (e h)) (λ h. omega arith)) w))
          (N.onward x m e)),
    )

    on₃ : (x : ℕ) → On₃ x → x ≢ net.root → On₃ (p 3 x)
    on₃ x (m, w) e = (
      inside 3 (omega arith) x m e,
      inr
          (⊎_elim
          (λ z. inl z.1)
          (λ z. inr (⊎_elim (λ h. subst (λ (y : ℕ). b y < b (p 3 x)) h z) (⊎_elim (λ h. absurd (e h)) (λ h. omega arith)) w))
          (N.later x m e)),
    )

    meet₁₂ : (x : ℕ) → On₁ x → On₂ x → (x ≡ v) ⊎ (x ≡ net.root)
    meet₁₂ x (m, o, w) (m', o', w') = ⊎_elim inl (λ h. ⊎_elim inl (⊎_elim inr (λ h'. absurd (omega arith))) w') w

    meet₃ : (x : ℕ) → b x ≤ b v → On₃ x → (x ≡ v) ⊎ (x ≡ net.root)
    meet₃ x o (m, w) = ⊎_elim inl (⊎_elim inr (λ h. absurd (omega arith))) w

    moves₁ : p 1 v ≢ v
    moves₁ e = omega (arith, N.back v l d, ap s e)

    moves₂ : p 2 v ≢ v
    moves₂ e = ⊎_elim (λ z. d (sym e ∙ z.1)) (λ z. omega (arith, z, ap s e)) (N.onward v l d)

    -- v's second entry is the root only at first, and its third only at last
    second : p 2 v ≡ net.root → v ≡ net.first
    second e = ⊎_elim (λ z. z.0) (λ z. absurd (omega (arith, z, ap s e, N.s_root))) (N.onward v l d)

    third : p 3 v ≡ net.root → v ≡ net.last
    third e = ⊎_elim (λ z. z.0) (λ z. absurd (omega (arith, z, ap b e, N.b_root))) (N.later v l d)

    apart₁₂ : Apart net v (w 1 v) (w 2 v)
    apart₁₂ = apart net v (p 1) (p 2) On₁ On₂ (l, omega arith, inl refl) on₁ (l, omega arith, inl refl) on₂ meet₁₂ moves₁ (λ e e'. N.first_inner (ap (p 1) (sym (second e')) ∙ e))

    apart₁₃ : Apart net v (w 1 v) (w 3 v)
    apart₁₃ = apart net v (p 1) (p 3) On₁ On₃ (l, omega arith, inl refl) on₁ (l, inl refl) on₃ (λ x h h'. meet₃ x h.1 h') moves₁ (λ e e'. N.last_inner (ap (p 1) (sym (third e')) ∙ e))

    apart₂₃ : Apart net v (w 2 v) (w 3 v)
    apart₂₃ = apart net v (p 2) (p 3) On₂ On₃ (l, omega arith, inl refl) on₂ (l, inl refl) on₃ (λ x h h'. meet₃ x h.1 h') moves₂ (λ e e'. N.proper.distinct.2 (sym (second e) ∙ third e'))

    apart_sym : (u u' : List ℕ) → Apart net v u u' → Apart net v u' u
    apart_sym u u' a = record { links = λ i g h. a.links i h g; switches = λ x g h. a.switches x h g }

    apart_all : (t t' : ℕ) → Tree t → Tree t' → t ≢ t' → Apart net v (w t v) (w t' v)
    apart_all t t' m m' =
        by_tree (λ t. (t' : ℕ) → Tree t' → t ≢ t' → Apart net v (w t v) (w t' v))
        (by_tree (λ t'. 1 ≢ t' → Apart net v (w 1 v) (w t' v)) (λ z. absurd (z refl)) (λ z. apart₁₂) (λ z. apart₁₃))
        (by_tree (λ t'. 2 ≢ t' → Apart net v (w 2 v) (w t' v)) (λ z. apart_sym _ _ apart₁₂) (λ z. absurd (z refl)) (λ z. apart₂₃))
        (by_tree (λ t'. 3 ≢ t' → Apart net v (w 3 v) (w t' v)) (λ z. apart_sym _ _ apart₁₃) (λ z. apart_sym _ _ apart₂₃) (λ z. absurd (z refl)))
        t m t' m'

  no_common_lem : (l : ℕ) → Lies net (p 1) l → Lies net (p 2) l → Lies net (p 3) l → ⊥
  no_common_lem i (x, l, d, j) (y, m, e, k) (z, o, f, g) =
      ⊎_elim
      (λ c. ⊎_elim
      (λ h. N.last_inner (cc))
      (λ h. omega (arith, h, N.older₁ x l d, ap b c.0, ap b c.1))
      (N.later z o f))
      (λ c. ⊎_elim
      (λ h. d (cc))
      (λ h. ⊎_elim
      (λ c'. ⊎_elim
      (λ h'. N.first_inner (cc))
      (λ h'. omega (arith, h', N.back x l d, ap s c'.0, ap s c'.1))
      (N.onward y m e))
      (λ c'. omega (arith, h, N.older₂ y m e, ap b c.0, ap b c.1, ap b c'.0, ap b c'.1))
      (joins_ends net i x (p 1 x) y (p 2 y) (cases_joins net i _ _ j) (cases_joins net i _ _ k)))
      (N.later z o f))
      (joins_ends net i x (p 1 x) z (p 3 z) (cases_joins net i _ _ j) (cases_joins net i _ _ g))

  pub three_routes : ThreeRoutes net p w
  three_routes =
      record {
        trees = λ t m. record { rooted = N.fixed t m; linked = N.linked t m; reaches = reaches t m };
        walks = λ t m v l. let (j, k, e) = reaches t m v l in walk_is net.root (p t) (pred net.n) v j k e;
        at_most = λ t m v l. omega (arith, (walk_first net.root (p t) (pred net.n) v).2);
        apart = λ t t' m m' e v l d. apart_all v l d t t' m m' e;
        one_whole = λ v l d. one_whole_lem net v (λ t. w t v) (apart_all v l d);
        no_common = λ l _ h. no_common_lem l (h 1 (omega arith)) (h 2 (omega arith)) (h 3 (omega arith));
      }
