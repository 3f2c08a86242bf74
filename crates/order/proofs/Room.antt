-- Laws of a list placed at the start of an array: the array keeps its length, and a list that has room is counted and read back whole.
-- Cited where the order is held to the order of the accepted ears.
use Rattle.std.proofs.Common.{◌≡◌, refl, Bool, true, false, cond, List, ◌++◌, ℕ, ◌≤◌, arith, leb, length, take, drop, length-append, length-drop, leb-true, le-leb}
use Rattle.std.proofs.Math.Seq.{take-append_seam}
use Rattle.order.specs.Placed.{placed, placed_count}

pub placed_length : (l row : List ℕ) → length (placed l row) ≡ length row
unfolding placed
placed_length l row = go (leb (length l) (length row)) refl
  where
    go : (b : Bool) → leb (length l) (length row) ≡ b → length (cond b (l ++ drop (length l) row) row) ≡ length row
    go true h = omega (arith, leb-true (length l) (length row) h, length-append l (drop (length l) row), length-drop (length l) row)
    go false h = refl

module _ (l row : List ℕ) (old : ℕ) (room : length l ≤ length row) where
  pub placed_count_lem : placed_count l row old ≡ length l
  unfolding placed_count
  placed_count_lem = rw (le-leb (length l) (length row) room)

  pub placed_back : take (placed_count l row old) (placed l row) ≡ l
  unfolding placed
  placed_back = rw (placed_count_lem, le-leb (length l) (length row) room) (take-append_seam l (drop (length l) row))
