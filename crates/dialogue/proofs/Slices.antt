-- Laws of the lent slices: one whose part from a place on was lent and has come back, and what the lines of a block leave of all.
-- Replies stand one after another in one of them; past them it holds what it held.
use mathlib.Core.Path.{◌≡◌, sym, ap, ◌∙◌}
use mathlib.Core.Logic.{⊎_elim}
use mathlib.Core.List.{List, ◌++◌, append-nil}
use Prim.Native.Nat.{ℕ, min, ◌+◌, ◌-◌, ◌≤◌}
use native.Mathlib.Omega.{arith}
use lib.ListN.{length, take, drop, drop_of_length-le, length-take, length-drop, length-append}
use lib.Seq.{take_all, take-append-add, drop-append-add, drop-drop}
use Rattle.mondschein.proofs.Logic.{less?}
use Rattle.collect.specs.Answering.{Keeps}
use Rattle.rows.proofs.Prefixes.{least_take}

-- the part of a slice from w on
abbrev pub part_from : List ℕ → ℕ → List ℕ
part_from o w = take (length o - w) (drop w o)

-- a slice whose part from w on was lent, and has come back as p
abbrev pub back : List ℕ → ℕ → List ℕ → List ℕ
back o w p = take w o ++ (p ++ drop (length o - w) (drop w o))

-- what is past all of a list is past its length
least_drop : {r : ℕ} (k : ℕ) (l : List ℕ) → r ≡ min k (length l) → drop r l ≡ drop k l
least_drop {r} k l q =
    ⊎_elim
    (λ h. ap (λ (n : ℕ). drop n l) (let z : r ≡ k = omega arith in z))
    (λ h. drop_of_length-le l {i = r} (omega arith) ∙ sym (drop_of_length-le l {i = k} (omega arith)))
    (less? k (length l))

-- what is kept from a place on is kept from a later one on
pub keeps_more : (w r : ℕ) (held holds : List ℕ) → Keeps w held holds → Keeps (w + r) held holds
keeps_more w r held holds e = sym (drop-drop r w holds) ∙ ap (drop r) e ∙ drop-drop r w held

module _ (o : List ℕ) (w : ℕ) (h : w ≤ length o) where
  part_all : part_from o w ≡ drop w o
  part_all = take_all (length o - w) (drop w o) (omega (arith, length-drop w o))

  part_length : length (part_from o w) ≡ length o - w
  part_length = ap length part_all ∙ length-drop w o

  back_end : (p : List ℕ) → back o w p ≡ take w o ++ p
  back_end p =
      ap (λ (l : List ℕ). take w o ++ (p ++ l)) (drop_of_length-le (drop w o) {i = length o - w} (omega (arith, length-drop w o)))
      ∙ ap (λ (l : List ℕ). take w o ++ l) (append-nil p)

  module _ (p : List ℕ) (q : length p ≡ length (part_from o w)) where
    pub back_length : length (back o w p) ≡ length o
    back_length = ap length (back_end p) ∙ omega (arith, length-append (take w o) p, length-take w o, q, part_length)

    -- of the part that came back, after what was written before: its first k bytes, and what is past them
    module _ (k r : ℕ) (e : r ≡ min k (length (back o w p) - w)) where
      shown : r ≡ min k (length p)
      shown = omega (arith, e, back_length, q, part_length)

      at_part : w + r ≡ length (take w o) + r
      at_part = omega (arith, length-take w o)

      pub back_taken : take (w + r) (back o w p) ≡ take w o ++ take k p
      back_taken =
          ap (take (w + r)) (back_end p)
          ∙ ap (λ (m : ℕ). take m (take w o ++ p)) at_part
          ∙ take-append-add (take w o) p r
          ∙ ap (λ (l : List ℕ). take w o ++ l) (least_take {r = r} k p shown)

      pub back_keeps : Keeps k (part_from o w) p → Keeps (w + r) o (back o w p)
      back_keeps kept =
          ap (drop (w + r)) (back_end p)
          ∙ ap (λ (m : ℕ). drop m (take w o ++ p)) at_part
          ∙ drop-append-add (take w o) p r
          ∙ least_drop k p shown
          ∙ kept
          ∙ sym (least_drop {r = r} k (part_from o w) (omega (arith, shown, q)))
          ∙ ap (drop r) part_all
          ∙ drop-drop r w o

-- the lent slices are long enough, and as long as they were; the numbers past those of an ear are what they were
pub record Lent (line₀ numbers₀ links₀ ducts₀ index₀ out₀ line numbers links ducts index out : List ℕ) : Type 0 where
  pub line_long : length line ≡ 6145
  pub numbers_long : 3072 ≤ length numbers
  pub links_long : length links ≡ 8192
  pub ducts_long : length ducts ≡ 4096
  pub out_long : 8192 ≤ length out
  pub line_same : length line ≡ length line₀
  pub numbers_same : length numbers ≡ length numbers₀
  pub links_same : length links ≡ length links₀
  pub ducts_same : length ducts ≡ length ducts₀
  pub index_same : length index ≡ length index₀
  pub out_same : length out ≡ length out₀
  pub numbers_kept : Keeps 3072 numbers₀ numbers
