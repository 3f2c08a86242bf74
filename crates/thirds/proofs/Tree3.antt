-- Laws of the row of tree 3: its length, its entries under each rule, and that it asks neither for first nor for what stood there before.
-- A birth that is at most 1,024 is read as it is kept.
use Rattle.std.proofs.Common.{◌≡◌, sym, ◌∙◌, List, ℕ, ◌≤◌, ◌<◌, arith, length, ext_get_or}
use Rattle.mondschein.specs.Network.{Network, at}
use Rattle.mondschein.specs.Order.{Rule, lowest, shortest, parent3_of}
use Rattle.mondschein.proofs.Reaching.{parent3_named}
use Rattle.network.specs.Load.{network_of}
use Rattle.rows.proofs.Assigned.{assigned_length, assigned_ext, assigned_each}
use Rattle.thirds.specs.Tree3.{birth_read, tree3_of}

module _ (net : Network) (births row : List ℕ) where
  pub tree3_length : (rule : Rule) → length (tree3_of rule net births row) ≡ length row
  unfolding tree3_of
  tree3_length lowest = assigned_length row (λ v. v) (parent3_of net (at births) lowest) (length row)
  tree3_length shortest = assigned_length row (λ v. v) (parent3_of net (birth_read births) shortest) (length row)

  pub lowest_at : (x : ℕ) → x < length row → at (tree3_of lowest net births row) x ≡ parent3_of net (at births) lowest x
  unfolding tree3_of
  lowest_at x h = assigned_each row (parent3_of net (at births) lowest) (length row) x h h

  pub shortest_at : (x : ℕ) → x < length row → at (tree3_of shortest net births row) x ≡ parent3_of net (birth_read births) shortest x
  unfolding tree3_of
  shortest_at x h = assigned_each row (parent3_of net (birth_read births) shortest) (length row) x h h

-- what stood in the row before does not matter
pub tree3_again : (rule : Rule) (net : Network) (births row : List ℕ) → tree3_of shortest net births (tree3_of rule net births row) ≡ tree3_of shortest net births row
tree3_again rule net births row =
    let again = tree3_of rule net births row in
    let same = tree3_length net births row rule in
    ext_get_or 0 (tree3_of shortest net births again) (tree3_of shortest net births row)
    (tree3_length net births again shortest ∙ same ∙ sym (tree3_length net births row shortest))
    (λ x l.
    let below : x < length again = omega (arith, tree3_length net births again shortest) in
    shortest_at net births again x below ∙ sym (shortest_at net births row x (omega (arith, same))))

pub tree3_named : (n : ℕ) (links : List ℕ) (root first first' last : ℕ) (births row : List ℕ)
    → tree3_of shortest (network_of n links root first last) births row ≡ tree3_of shortest (network_of n links root first' last) births row
unfolding tree3_of
tree3_named n links root first first' last births row =
    assigned_ext row (λ v. v) _ _ (parent3_named n links root first first' last (birth_read births) shortest) (length row)

pub birth_read_lem : (births : List ℕ) (v : ℕ) → at births v ≤ 1024 → birth_read births v ≡ at births v
unfolding birth_read
birth_read_lem births v h = omega (arith, h)
