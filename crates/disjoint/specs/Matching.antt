-- The answer to document 02, Note 8, as it is computed: Menger's theorem by a bipartite matching. Left numbers below N are switches as they
-- are left, N, N + 1 and N + 2 three copies of s; right numbers are switches as they are entered. next u is entered after u was left: a
-- switch on no walk is followed by itself, so that every switch but t is entered once. One more walk is one more copy of s that is matched,
-- along an augmenting path that an alternating search finds.
use Rattle.std.specs.Prelude.{Bool, true, false, not, ◌&&◌, ◌||◌, cond, List, [], ◌∷◌, ℕ, zero, suc, ◌*◌, eqb, ltb, set, replicate}
use Rattle.mondschein.specs.Network.{low, any, Network, at, size, joined, link_of}
use Rattle.mondschein.specs.Order.{walk_by}
use Rattle.mondschein.specs.Routes.{Thing, switch, link}
use Rattle.network.specs.Load.{network_of}
use Rattle.network.specs.Index.{far_end}
use Rattle.rows.specs.Rows.{marked, assigned}
use Rattle.disjoint.specs.Paths.{Routes, walks, parted}

-- a network with no named switches
abbrev pub unnamed : ℕ → List ℕ → Network
unnamed n links = network_of n links 0 0 0

-- the lowest f switches that pass, as things
unfoldable pub lowest : ℕ → ℕ → (ℕ → Bool) → List Thing
lowest n zero p = []
lowest n (suc f) p = cond (any p n) (switch (low p n) ∷ lowest n f (λ w. p w && not (eqb w (low p n)))) []

-- the walk from s to t that begins with copy u
unfoldable pub path_of : ℕ → ℕ → ℕ → (ℕ → ℕ) → ℕ → List ℕ
path_of n s t next u = s ∷ walk_by t next n (next u)

-- t is not left, s is not entered, and the direct link is not used
unfoldable pub usable : ℕ → ℕ → ℕ → ℕ → Bool
usable s t v w = not (eqb v t) && (not (eqb w s) && not (eqb v s && eqb w t))

-- the left number of switch v in the search from copy k: that copy for s
unfoldable pub left : ℕ → ℕ → ℕ → ℕ
left s k v = cond (eqb v s) k v

-- what a search has done: the marks of what it entered; entry j entered heads j after lefts j was left
pub record Explored : Type 0 where
  pub mark : List ℕ
  pub heads : List ℕ
  pub lefts : List ℕ
  pub count : ℕ

abbrev pub explored_of : List ℕ → List ℕ → List ℕ → ℕ → Explored
explored_of mark heads lefts c = record { mark = mark; heads = heads; lefts = lefts; count = c }

-- one entry more
unfoldable pub entered : Explored → ℕ → ℕ → Explored
entered h w u = explored_of (set h.mark w 1) (set h.heads h.count w) (set h.lefts h.count u) (suc h.count)

-- nothing was entered; places for 1,024 marks and as many entries
abbrev pub blank : Explored
blank = explored_of (replicate 1024 0) (replicate 1024 0) (replicate 1024 0) 0

-- the switch that turn q leaves: s, then the one that entry q - 1 followed on before the search
unfoldable pub leaving : ℕ → List ℕ → List ℕ → ℕ → ℕ
leaving s previous heads zero = s
leaving s previous heads (suc q) = at previous (at heads q)

module _ (s t k : ℕ) where
  -- w is entered from v, unless w or t was entered before
  abbrev pub enterable : ℕ → ℕ → Explored → Bool
  enterable v w h = usable s t v w && (not (marked h.mark t) && (not (marked h.mark w) && ltb h.count 1024))

  unfoldable pub enter : ℕ → ℕ → Explored → Explored
  enter v w h = cond (enterable v w h) (entered h w (left s k v)) h

module _ (net : Network) (s t k : ℕ) where
  -- along those of the f half-links from e on that leave v
  unfoldable pub leave_by : ℕ → ℕ → ℕ → Explored → Explored
  leave_by v zero e h = h
  leave_by v (suc f) e h = leave_by v f (suc e) (cond (eqb (at net.links e) v) (enter s t k v (far_end net e) h) h)

  -- all that can be entered from v: its neighbours, and v itself; a copy of s is not left again
  unfoldable pub leave : ℕ → Explored → Explored
  leave v h = cond (ltb v net.n) (enter s t k v v (leave_by v (2 * size net) 0 h)) h

  -- f turns from turn q on, until t is entered or all entries had theirs: the entries are the queue
  unfoldable pub turns : List ℕ → ℕ → ℕ → Explored → Explored
  turns previous zero q h = h
  turns previous (suc f) q h = cond (ltb h.count q || marked h.mark t) h (turns previous f (suc q) (leave (leaving s previous h.heads q) h))

-- along the augmenting path, from entry j - 1 down to entry 0: w is to be entered anew, until copy k is matched
unfoldable pub augment : ℕ → List ℕ → List ℕ → ℕ → List ℕ → ℕ → List ℕ
augment k hs us zero next w = next
augment k hs us (suc j) next w =
    cond (eqb (at hs j) w) (cond (eqb (at us j) k) (set next k w) (augment k hs us j (set next (at us j) w) (at next (at us j)))) (augment k hs us j next w)

-- all copies are matched, or the matching and the marks of a search that did not come to t
pub data Tried : Type 0 where
  all : List ℕ → Tried
  short : List ℕ → List ℕ → Tried

abbrev pub tried_of : Bool → List ℕ → List ℕ → Tried
tried_of true mark next = short next mark
tried_of false mark next = all next

-- c numbers from i on
unfoldable pub up_from : ℕ → ℕ → List ℕ
up_from zero i = []
up_from (suc c) i = i ∷ up_from c (suc i)

-- the matching to begin with: every number is followed by itself
abbrev pub selves : List ℕ
selves = up_from 1027 0

-- the left number that each right number follows on, of those below k
abbrev pub inverse : List ℕ → ℕ → List ℕ
inverse next k = assigned (replicate 1024 0) (at next) (λ u. u) k

-- w is in the cut of König's theorem: it was entered and not left
abbrev pub in_cut : List ℕ → List ℕ → ℕ → Bool
in_cut next mark w = marked mark w && not (marked mark (at next w))

module _ (net : Network) (s t : ℕ) where
  -- the search from copy k
  unfoldable pub explore : ℕ → List ℕ → Explored
  explore k next = turns net s t k (inverse next k) (suc net.n) 0 blank

  -- the matching after it
  unfoldable pub matched : ℕ → List ℕ → List ℕ
  matched k next = let h = explore k next in cond (marked h.mark t) (augment k h.heads h.lefts h.count next t) next

  -- i more copies, the next of them k
  unfoldable pub tries : ℕ → ℕ → List ℕ → Tried
  tries zero k next = all next
  tries (suc i) k next = cond (marked (explore k next).mark t) (tries i (suc k) (matched k next)) (short next (explore k next).mark)

  -- the answer, by whether s and t are joined: then the direct link is one of the walks, or one of the things
  unfoldable pub answer_by : Bool → Tried → Routes
  answer_by true (all next) = walks (s ∷ t ∷ []) (path_of net.n s t (at next) net.n) (path_of net.n s t (at next) (suc net.n))
  answer_by true (short next mark) = parted (link (link_of net s t) ∷ lowest net.n 1 (in_cut next mark))
  answer_by false (all next) =
      walks (path_of net.n s t (at next) net.n) (path_of net.n s t (at next) (suc net.n)) (path_of net.n s t (at next) (suc (suc net.n)))
  answer_by false (short next mark) = parted (lowest net.n 2 (in_cut next mark))

  -- three walks from s to t, or what parts them
  unfoldable pub routes_of : Routes
  routes_of = answer_by (joined net s t) (tries (cond (joined net s t) 2 3) net.n selves)
