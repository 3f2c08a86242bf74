-- Document 02, Note 7, on rows: the ducts of a tree's links from the table, marks along a walk, and the sums of a report after the switches
-- of a session, for any rows and any sums. A sum that could grow no more would stay; those of a report begun empty never come to that.
use Rattle.std.specs.Prelude.{◌≡◌, Bool, cond, List, ℕ, zero, suc, pred, ◌+◌, ◌≤◌, eqb, ltb, set, take, replicate}
use Rattle.mondschein.specs.Network.{Network, at, size, link_of}
use Rattle.network.specs.Load.{table_of}
use Rattle.rows.specs.Rows.{assigned}

-- the duct of the lowest link that joins a and b, and 0 where none does
unfoldable pub duct_between : Network → List ℕ → ℕ → ℕ → ℕ
duct_between net ducts a b = at (take (size net) ducts) (link_of net a b)

-- for each of 1,024 switches the duct of the link to its entry in the row
unfoldable pub duct_row : List ℕ → List ℕ → List ℕ → List ℕ
duct_row links ducts row = assigned (replicate 1024 0) (λ v. v) (λ v. duct_between (table_of links) ducts v (at row v)) 1024

-- no link lies in a duct above `top`
abbrev pub NoneAbove : ℕ → List ℕ → Type 0
NoneAbove top ducts = (i : ℕ) → at ducts i ≤ top

-- where the row leads from a to b, d is the duct of that link
abbrev pub duct_told : List ℕ → ℕ → ℕ → ℕ → List ℕ → List ℕ
duct_told row a b d ducts = cond (eqb (at row a) b) (set ducts a d) ducts

-- the duct of each link along the walk of v is marked, cut after k links; p is a row of parents, duct one of ducts
unfoldable pub marks_after : ℕ → (ℕ → ℕ) → (ℕ → ℕ) → ℕ → ℕ → List ℕ → List ℕ
marks_after root p duct zero v marks = marks
marks_after root p duct (suc k) v marks = cond (eqb v root) marks (marks_after root p duct k (p v) (set marks (duct v) 1))

-- one more, up to the largest number of 32 bits
unfoldable pub more : ℕ → ℕ
more x = cond (ltb x 4294967295) (suc x) x

-- along how many of three walks duct d is marked
abbrev pub marks_at : List ℕ → List ℕ → List ℕ → ℕ → ℕ
marks_at marks₁ marks₂ marks₃ d = at marks₁ d + at marks₂ d + at marks₃ d

-- it is exactly c of them
unfoldable pub losing : List ℕ → List ℕ → List ℕ → ℕ → ℕ → Bool
losing marks₁ marks₂ marks₃ c d = eqb (marks_at marks₁ marks₂ marks₃ d) c

-- one more at each duct from 1 to k that passes
unfoldable pub raised : (ℕ → Bool) → List ℕ → ℕ → List ℕ
raised p sums zero = sums
raised p sums (suc k) = cond (p (suc k)) (set (raised p sums k) (suc k) (more (at (raised p sums k) (suc k)))) (raised p sums k)

-- what a report asks of a closed session: the row of parents of each tree, and the ducts of the links from a switch to its parent
pub record Trees : Type 0 where
  pub n : ℕ
  pub root : ℕ
  pub row1 : List ℕ
  pub row2 : List ℕ
  pub row3 : List ℕ
  pub ducts1 : List ℕ
  pub ducts2 : List ℕ
  pub ducts3 : List ℕ

abbrev pub trees : ℕ → ℕ → List ℕ → List ℕ → List ℕ → List ℕ → List ℕ → List ℕ → Trees
trees n root row₁ row₂ row₃ ducts₁ ducts₂ ducts₃ =
    record { n = n; root = root; row1 = row₁; row2 = row₂; row3 = row₃; ducts1 = ducts₁; ducts2 = ducts₂; ducts3 = ducts₃ }

module _ (t : Trees) where
  -- the ducts along the walk of v in a tree
  abbrev pub marks_of : List ℕ → List ℕ → ℕ → List ℕ
  marks_of row ducts v = marks_after t.root (at row) (at ducts) (pred t.n) v (replicate 256 0)

  -- duct d costs switch v exactly c walks
  abbrev pub costs : ℕ → ℕ → ℕ → Bool
  costs c v = losing (marks_of t.row1 t.ducts1 v) (marks_of t.row2 t.ducts2 v) (marks_of t.row3 t.ducts3 v) c

  -- one more at each duct from 1 to `top` that costs v exactly c walks; the root is not counted
  unfoldable pub switch_after : ℕ → ℕ → ℕ → List ℕ → List ℕ
  switch_after top c v sums = cond (eqb v t.root) sums (raised (costs c v) sums top)

  -- the same for the switches below v, in turn
  unfoldable pub switches_after : ℕ → ℕ → List ℕ → ℕ → List ℕ
  switches_after top c sums zero = sums
  switches_after top c sums (suc v) = switch_after top c v (switches_after top c sums v)

-- the three trees of n switches, with the ducts that a table tells
abbrev pub trees_of : ℕ → ℕ → List ℕ → List ℕ → List ℕ → List ℕ → List ℕ → Trees
trees_of n root links ducts row₁ row₂ row₃ = trees n root row₁ row₂ row₃ (duct_row links ducts row₁) (duct_row links ducts row₂) (duct_row links ducts row₃)

-- the sums for exactly c walks after all switches: by duct, one more for each switch other than the root that loses exactly c
unfoldable pub losses_after : Trees → ℕ → List ℕ → List ℕ
losses_after t c sums = switches_after t 255 c sums t.n

-- what the loops leave of both sums: after duct `top`, after switch v, and after the switches below v
abbrev pub RaisesBoth : List ℕ → List ℕ → List ℕ → ℕ → List ℕ → List ℕ → List ℕ → List ℕ → Type 0
RaisesBoth marks₁ marks₂ marks₃ top two three two' three' =
    (two' ≡ raised (losing marks₁ marks₂ marks₃ 2) two top) × (three' ≡ raised (losing marks₁ marks₂ marks₃ 3) three top)

abbrev pub AddsSwitch : Trees → ℕ → ℕ → List ℕ → List ℕ → List ℕ → List ℕ → Type 0
AddsSwitch t top v two three two' three' = (two' ≡ switch_after t top 2 v two) × (three' ≡ switch_after t top 3 v three)

abbrev pub AddsSwitches : Trees → ℕ → ℕ → List ℕ → List ℕ → List ℕ → List ℕ → Type 0
AddsSwitches t top v two three two' three' = (two' ≡ switches_after t top 2 two v) × (three' ≡ switches_after t top 3 three v)

-- both sums after all switches
abbrev pub AddsLosses : Trees → List ℕ → List ℕ → List ℕ → List ℕ → Type 0
AddsLosses t two three two' three' = (two' ≡ losses_after t 2 two) × (three' ≡ losses_after t 3 three)
