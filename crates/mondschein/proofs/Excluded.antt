-- What three routes exclude, sentence by sentence: tables and walks of which one of these is true are none.
-- Each fact rests on one sentence of `ThreeRoutes` alone.
use mathlib.Core.Path.{◌≡◌, refl}
use mathlib.Core.Logic.{◌⊎◌, ◌≢◌, ⊎_elim}
use mathlib.Core.List.{List}
use Prim.Native.Nat.{ℕ, pred, ◌≤◌, ◌<◌}
use native.Mathlib.Omega.{arith}
use lib.ListN.{length}
use Rattle.mondschein.specs.Network.{Network, at, In, size, Joins, Adjacent, Along}
use Rattle.mondschein.specs.Routes.{Tree, Walk, arrived, onward, steps, switch, link, ThreeRoutes}

-- a walk begins at its switch
walk_begins : {root : ℕ} {p : ℕ → ℕ} {v : ℕ} {l : List ℕ} → Walk root p v l → at l 0 ≡ v
walk_begins arrived = refl
walk_begins (onward d w) = refl

module _ (net : Network) (p : ℕ → ℕ → ℕ) (w : ℕ → ℕ → List ℕ) (r : ThreeRoutes net p w) where
  module _ (t v : ℕ) (m : Tree t) (l : v < net.n) where
    -- trees: another entry of the root, an entry that is no neighbour, a switch from which N - 1 steps do not reach the root
    pub root_elsewhere : p t net.root ≢ net.root → ⊥
    root_elsewhere d = d (r.trees t m).rooted

    pub entry_not_joined : v ≢ net.root → (Adjacent net v (p t v) → ⊥) → ⊥
    entry_not_joined d a = a ((r.trees t m).linked v l d)

    pub root_not_reached : ((k : ℕ) → k ≤ pred net.n → steps (p t) k v ≢ net.root) → ⊥
    root_not_reached d = let (k, b, q) = (r.trees t m).reaches v l in d k b q

    -- walks: one that begins at another switch; one of N links
    pub walk_from_elsewhere : at (w t v) 0 ≢ v → ⊥
    walk_from_elsewhere d = d (walk_begins (r.walks t m v l))

    pub walk_of_n_links : pred (length (w t v)) ≡ net.n → ⊥
    walk_of_n_links q = omega (arith, r.at_most t m v l)

    -- two walks: a link in both, a switch in both that is no end
    module _ (t' : ℕ) (m' : Tree t') (d : t ≢ t') (e : v ≢ net.root) where
      pub link_in_two_walks : (i : ℕ) → Along net (w t v) i → Along net (w t' v) i → ⊥
      link_in_two_walks i = (r.apart t t' m m' d v l e).links i

      pub switch_in_two_walks : (x : ℕ) → In (w t v) x → In (w t' v) x → x ≢ v → x ≢ net.root → ⊥
      switch_in_two_walks x a b f g = ⊎_elim f g ((r.apart t t' m m' d v l e).switches x a b)

  -- two failed things that hit every walk of a switch: switches other than it and the root, links
  module _ (v : ℕ) (l : v < net.n) (d : v ≢ net.root) where
    pub every_walk_hit_by_switches : (x y : ℕ) → x ≢ v → x ≢ net.root → y ≢ v → y ≢ net.root → ((t : ℕ) → Tree t → In (w t v) x ⊎ In (w t v) y) → ⊥
    every_walk_hit_by_switches x y f f' g g' h = let (t, m, c) = r.one_whole v l d (switch x) (switch y) (f, f') (g, g') in ⊎_elim c.0 c.1 (h t m)

    pub every_walk_hit_by_links : (i j : ℕ) → ((t : ℕ) → Tree t → Along net (w t v) i ⊎ Along net (w t v) j) → ⊥
    every_walk_hit_by_links i j h = let (t, m, c) = r.one_whole v l d (link i) (link j) tt tt in ⊎_elim c.0 c.1 (h t m)

    pub every_walk_hit_by_either : (x i : ℕ) → x ≢ v → x ≢ net.root → ((t : ℕ) → Tree t → In (w t v) x ⊎ Along net (w t v) i) → ⊥
    every_walk_hit_by_either x i f g h = let (t, m, c) = r.one_whole v l d (switch x) (link i) (f, g) tt in ⊎_elim c.0 c.1 (h t m)

  -- a link that joins, in each of the three trees, a switch to its entry
  pub link_in_three_trees : (i : ℕ) → i < size net → (v : ℕ → ℕ) → ((t : ℕ) → Tree t → (v t < net.n) × (v t ≢ net.root) × Joins net i (v t) (p t (v t))) → ⊥
  link_in_three_trees i b v h = r.no_common i b (λ t m. let (a, d, j) = h t m in (v t, a, d, j))
