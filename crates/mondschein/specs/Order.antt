-- Document 01, "Order, tables and walks", with document 02, Note 6: the order of switches, the three parent tables and the walks, as the
-- rules compute them. Routes.antt says the same as relations.
use Rattle.std.specs.Prelude.{Bool, ◌&&◌, ◌||◌, cond, ℕ, zero, suc, pred, eqb, ltb, length, take, drop}
use mathlib.Core.List.{List, [], ◌∷◌, ◌++◌, reverse, foldl}
use Rattle.mondschein.specs.Network.{low, any, Network, at, joined, Ears, ear_at, birth}

-- the position of x in the list, or its length
unfoldable pub position : List ℕ → ℕ → ℕ
position l x = low (λ k. eqb (at l k) x) (length l)

-- the ear is written from A, the end that comes earlier in the order so far, to B, the other
abbrev pub upward : List ℕ → List ℕ → Bool
upward o e = ltb (position o (at e 0)) (position o (at e (pred (length e))))

-- a later ear from A to B
unfoldable pub from_a : List ℕ → List ℕ → List ℕ
from_a o e = cond (upward o e) e (reverse e)

-- the numbers between the two ends
unfoldable pub between : List ℕ → List ℕ
between e = take (pred (pred (length e))) (drop 1 e)

-- the order after one more ear: its new switches, from A to B, inserted directly after A
unfoldable pub extend : List ℕ → List ℕ → List ℕ
extend [] e = e
extend (x ∷ o) e =
    let c = from_a (x ∷ o) e in
    let m = suc (position (x ∷ o) (at c 0)) in
    take m (x ∷ o) ++ (between c ++ drop m (x ∷ o))

unfoldable pub order : Ears → List ℕ
order es = foldl extend [] es

-- the order after the first i ears
abbrev pub order_after : Ears → ℕ → List ℕ
order_after es i = order (take i es)

-- ear i from A to B; the first ear as written, from root to first
unfoldable pub course : Ears → ℕ → List ℕ
course es zero = ear_at es zero
course es (suc i) = from_a (order (take (suc i) es)) (ear_at es (suc i))

-- tree 1: the neighbour along the birth ear towards A
unfoldable pub parent1 : Network → Ears → ℕ → ℕ
parent1 net es v = let c = course es (birth es v) in cond (eqb v net.root) v (at c (pred (position c v)))

-- tree 2: the neighbour towards B; first has parent root
unfoldable pub parent2 : Network → Ears → ℕ → ℕ
parent2 net es v = let c = course es (birth es v) in cond (eqb v net.root) v (cond (eqb v net.first) net.root (at c (suc (position c v))))

-- tree 3 takes a neighbour born later by a rule: the lowest number (document 01), or the lowest number of those whose own third walk is
-- shortest (document 02, Note 6)
pub data Rule : Type 0 where
  lowest : Rule
  shortest : Rule

-- births numbered in any way
module _ (net : Network) (birth_of : ℕ → ℕ) where
  -- x is a neighbour of v born later
  abbrev pub is_later : ℕ → ℕ → Bool
  is_later v x = joined net v x && ltb (birth_of v) (birth_of x)

  -- from v at most k links, each to a neighbour born later, lead to last
  unfoldable pub reaches : ℕ → ℕ → Bool
  reaches zero v = eqb v net.last
  reaches (suc k) v = eqb v net.last || any (λ x. is_later v x && reaches k x) net.n

  -- the fewest such links, or N; the shortest third walk of v has one link more, from last to root
  unfoldable pub distance : ℕ → ℕ
  distance v = low (λ k. reaches k v) net.n

  -- the neighbour that the rule takes, or N: under Note 6 it is one link nearer to last
  unfoldable pub taken : Rule → ℕ → ℕ
  taken lowest v = low (is_later v) net.n
  taken shortest v = low (λ x. is_later v x && eqb (suc (distance x)) (distance v)) net.n

  -- tree 3: last has parent root
  unfoldable pub parent3_of : Rule → ℕ → ℕ
  parent3_of rule v = cond (eqb v net.root) v (cond (eqb v net.last) net.root (taken rule v))

-- table t, 1 to 3
unfoldable pub parent_of : Rule → Network → Ears → ℕ → ℕ → ℕ
parent_of rule net es t v = cond (eqb t 1) (parent1 net es v) (cond (eqb t 2) (parent2 net es v) (parent3_of net (birth es) rule v))

-- the walk of v by the table p, cut after k links
unfoldable pub walk_by : ℕ → (ℕ → ℕ) → ℕ → ℕ → List ℕ
walk_by root p zero v = v ∷ []
walk_by root p (suc k) v = cond (eqb v root) (v ∷ []) (v ∷ walk_by root p k (p v))

-- the walk of v in tree t: N - 1 links are enough
unfoldable pub walk_of : Rule → Network → Ears → ℕ → ℕ → List ℕ
walk_of rule net es t v = walk_by net.root (parent_of rule net es t) (pred net.n) v
