-- Laws of paths and connected sets: a set is connected where from every switch of it but one, the centre, it goes on to a switch of lower
-- rank, and not where it falls into two parts with no link between them; a path inside a set is one inside any larger set.
use mathlib.Core.Path.{◌≡◌, subst}
use mathlib.Core.Logic.{◌⊎◌, ⊎_elim}
use Prim.Native.Nat.{ℕ, zero, suc, ◌<◌}
use native.Mathlib.Omega.{arith}
use Rattle.mondschein.specs.Network.{Network, Adjacent}
use Rattle.mondschein.proofs.Links.{joined_adjacent, adjacent_joined, joined_sym}
use Rattle.connectivity.specs.Connected.{Path, here, onward, Connected}

module _ (Inside : ℕ → Type 0) (Linked : ℕ → ℕ → Type 0) where
  join : {x y z : ℕ} → Path Inside Linked x y → Path Inside Linked y z → Path Inside Linked x z
  join (here i) v = v
  join (onward i n w) v = onward i n (join w v)

  begins : {x y : ℕ} → Path Inside Linked x y → Inside x
  begins (here i) = i
  begins (onward i n w) = i

  -- no path leads out of a set that no step inside leaves
  pub path_kept : (A : ℕ → Type 0) → ((x y : ℕ) → A x → Inside y → Linked x y → A y) → {x y : ℕ} → Path Inside Linked x y → A x → A y
  path_kept A step (here i) a = a
  path_kept A step (onward i n w) a = path_kept A step w (step _ _ a (begins w) n)

  module _ (back : (x y : ℕ) → Linked x y → Linked y x) where
    turn : {x y z : ℕ} → Path Inside Linked x y → Path Inside Linked x z → Path Inside Linked y z
    turn (here i) v = v
    turn (onward i n w) v = turn w (onward (begins w) (back _ _ n) v)

    -- every switch has a path to one centre
    meet_at : (c : ℕ) → ((x : ℕ) → Inside x → Path Inside Linked x c) → Connected Inside Linked
    meet_at c to x y i j = join (to x i) (turn (to y j) (here j))

    -- from every switch but the centre it goes on to one of lower rank
    pub gather : (c : ℕ) (rank : ℕ → ℕ) → ((x : ℕ) → Inside x → (x ≡ c) ⊎ ((y : ℕ) × Inside y × Linked x y × (rank y < rank x))) → Connected Inside Linked
    gather c rank down = meet_at c (λ x i. go (suc (rank x)) x (omega arith) i)
      where
        go : (k x : ℕ) → rank x < k → Inside x → Path Inside Linked x c
        go zero x l i = absurd (omega arith)
        go (suc k) x l i =
            ⊎_elim
            (λ e. subst (λ (z : ℕ). Path Inside Linked x z) e (here i))
            (λ (y, j, n, m). onward i n (go k y (omega arith) j))
            (down x i)

-- a path inside a set is one inside any larger set
pub path_larger : (Inside Outside : ℕ → Type 0) (Linked : ℕ → ℕ → Type 0) → ((x : ℕ) → Inside x → Outside x) → {x y : ℕ} → Path Inside Linked x y → Path Outside Linked x y
path_larger Inside Outside Linked f (here i) = here (f _ i)
path_larger Inside Outside Linked f (onward i n w) = onward (f _ i) n (path_larger Inside Outside Linked f w)

-- links lead both ways
pub adjacent_sym : (net : Network) (x y : ℕ) → Adjacent net x y → Adjacent net y x
adjacent_sym net x y h = joined_adjacent net y x (joined_sym net x y (adjacent_joined net x y h))
