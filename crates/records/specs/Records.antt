-- Link records (document 02, Note 7) as numbers: the flat table of their ends, and their ducts.
-- Link k of the table is record k, written as the record writes it: a, then b.
use Rattle.std.specs.Prelude.{cond, List, [], ◌∷◌, ℕ, ◌*◌, ltb, length, take, replicate}
use Rattle.mondschein.specs.Outcome.{over}
use Rattle.records.specs.declared.Link.{Link}
use Rattle.records.specs.declared.Flat.{Flat}

-- the two ends of each record in turn: document 01's link table
unfoldable pub ends_of : List Link → List ℕ
ends_of [] = []
ends_of (l ∷ ls) = l.a ∷ l.b ∷ ends_of ls

-- the duct of each record in turn, 0 for none
unfoldable pub ducts_of : List Link → List ℕ
ducts_of [] = []
ducts_of (l ∷ ls) = l.duct ∷ ducts_of ls

-- a list at the start of a row, and the rest of the row as it was; what does not fit is left out
abbrev pub fitted : List ℕ → List ℕ → List ℕ
fitted l row = take (length row) (over l row)

-- a flat table, by its two rows
abbrev pub flat_with : List ℕ → List ℕ → Flat
flat_with ends ducts = record { ends = ends; ducts = ducts }

-- the flat table of records, which has room for 4,096 of them
unfoldable pub flat_of : List Link → Flat
flat_of ls = flat_with (fitted (ends_of ls) (replicate 8192 0)) (fitted (ducts_of ls) (replicate 4096 0))

-- how many numbers the first m links of a flat table are; none where there is no room for so many
unfoldable pub numbers_of : ℕ → ℕ
numbers_of m = cond (ltb 4096 m) 0 (2 * m)
