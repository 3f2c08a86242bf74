-- What the contracts over the shape of an ear cite: the marks of its numbers, document 01's values and numbers for each answer to an
-- ear, and the part of the order of checks that it is asked.
use Rattle.std.specs.Prelude.{◌≡◌, Bool, false, List, [], ◌∷◌, ℕ, Result, ◌<◌, eqb, length, take, drop}
use Rattle.mondschein.specs.Network.{any, at}
use Rattle.mondschein.specs.Judge.{Answer, check_order, verdict_by}
use Rattle.network.specs.Load.{network_of}
use Rattle.rows.specs.Rows.{marked}
use Rattle.refusals.specs.Refusals.{answer_of}
use Rattle.refusals.specs.declared.Refusal.{Refusal}

-- nothing is marked
abbrev pub Unmarked : List ℕ → Type 0
Unmarked marks = (v : ℕ) → v < length marks → marked marks v ≡ false

-- the marks of the first k numbers of an ear, of the switches that have a place among them
abbrev pub MarksOf : List ℕ → ℕ → List ℕ → Type 0
MarksOf ear k marks = (v : ℕ) → v < length marks → marked marks v ≡ any (λ j. eqb (at ear j) v) k

-- what document 01 gives or refuses for an answer to an ear
abbrev pub ear_answer : Result ℕ Refusal → Answer
ear_answer = answer_of (λ (k : ℕ). k ∷ [])

-- the numbers of the checks that ask for the shape of an ear: those up to 11, and the last three of them, over its links
abbrev pub shape_order : List ℕ
shape_order = take 6 check_order

abbrev pub link_order : List ℕ
link_order = drop 3 shape_order

-- a is the answer of these checks, whatever they do not ask
module _ (links births used : List ℕ) (is_first : Bool) (e : List ℕ) (a : Answer) where
  abbrev pub LinkAnswer : Type 0
  LinkAnswer = (n root first last : ℕ) → a ≡ verdict_by link_order (network_of n links root first last) (marked births) (marked used) is_first e

  abbrev pub ShapeAnswer : ℕ → Type 0
  ShapeAnswer n = (root first last : ℕ) → a ≡ verdict_by shape_order (network_of n links root first last) (marked births) (marked used) is_first e
