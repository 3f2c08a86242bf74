-- Document 01, "Lines of threeways": the form that the bytes of a line are read as, part by part from the left, and the statement that
-- this is so exactly for its writing, which proofs/ReadExactly.antt proves. A part that is not where it must be leaves nothing to read on.
use Rattle.std.specs.Prelude.{◌≡◌, Bool, true, false, cond, List, [], ◌∷◌, ℕ, zero, suc, ◌+◌, ◌-◌, ◌*◌, ◌≤◌, eqb, ltb, length}
use Rattle.std.proofs.Math.Option.{Option, none, some}
use Rattle.lines.specs.Writing.{ascii, NET, ROOT, FIRST, LAST, LINK, DUCT, OPEN, EAR, CLOSE, WALK, CLEAR, Form, net, link, ducted, opening, ear, closing, walk, clearing, writing, numbers_of, duct_of}

-- what follows a part; nothing, where the part does not stand here
unfoldable pub after : List ℕ → List ℕ → List ℕ
after [] s = s
after (b ∷ part) [] = []
after (b ∷ part) (x ∷ s) = cond (eqb x b) (after part s) []

-- something is left
abbrev pub more : List ℕ → Bool
more [] = false
more (x ∷ s) = true

-- the closing bracket is left, and nothing else
abbrev pub ends : List ℕ → Bool
ends [] = false
ends (x ∷ []) = eqb x 41
ends (x ∷ y ∷ s) = false

-- a number that was read, and what follows it
pub record Taken : Type 0 where
  pub value : ℕ
  pub rest : List ℕ

-- no number stands here
abbrev pub nothing : Taken
nothing = record { value = 0; rest = [] }

-- the digits that stand here, after digits of value v; a number over 65535 is none
unfoldable pub digits : ℕ → List ℕ → Taken
digits v [] = record { value = v; rest = [] }
digits v (x ∷ s) =
    cond (ltb x 48) (record { value = v; rest = x ∷ s })
    (cond (ltb 57 x) (record { value = v; rest = x ∷ s })
    (cond (ltb 65535 (v * 10 + (x - 48))) nothing (digits (v * 10 + (x - 48)) s)))

-- the number that stands here; one that begins with the digit 0 has no other
unfoldable pub number : List ℕ → Taken
number [] = nothing
number (x ∷ s) =
    cond (ltb x 48) nothing
    (cond (ltb 57 x) nothing
    (cond (eqb x 48) (record { value = 0; rest = s }) (digits (x - 48) s)))

-- one space, and a number
abbrev pub spaced_number : List ℕ → Taken
spaced_number s = number (after (ascii " ") s)

-- one space, and a word with one number in brackets
unfoldable pub named_number : List ℕ → List ℕ → Taken
named_number word s =
    let n = spaced_number (after word (after (ascii " (") s)) in
    record { value = n.value; rest = after (ascii ")") n.rest }

-- numbers that were read, and what follows them
pub record TakenList : Type 0 where
  pub list : List ℕ
  pub rest : List ℕ

-- a number, where one stands here, and the numbers after it; where none does, the bytes s are left
abbrev pub numbers_from : List ℕ → Taken → TakenList → TakenList
numbers_from s n others = cond (more n.rest) (record { list = n.value ∷ others.list; rest = others.rest }) (record { list = []; rest = s })

-- at most so many numbers, each after one space
unfoldable pub numbers_in : ℕ → List ℕ → TakenList
numbers_in zero s = record { list = []; rest = s }
numbers_in (suc k) s = numbers_from s (spaced_number s) (numbers_in k (spaced_number s).rest)

-- the numbers that stand here, each after one space
unfoldable pub ear_numbers : List ℕ → TakenList
ear_numbers s = numbers_in (length s) s

-- the opening bracket, and a word
abbrev pub after_word : List ℕ → List ℕ → List ℕ
after_word word s = after word (after (ascii "(") s)

-- what follows the word net
unfoldable pub net_form : List ℕ → Option Form
net_form s =
    let n = spaced_number s in
    let root = named_number ROOT n.rest in
    let first = named_number FIRST root.rest in
    let last = named_number LAST first.rest in
    cond (ends last.rest) (some (net n.value root.value first.value last.value)) none

-- two numbers that were read, and what follows them
pub record TakenPair : Type 0 where
  pub a : ℕ
  pub b : ℕ
  pub rest : List ℕ

-- the two numbers that stand here, each after one space
unfoldable pub pair_numbers : List ℕ → TakenPair
pair_numbers s =
    let a = spaced_number s in
    let b = spaced_number a.rest in
    record { a = a.value; b = b.value; rest = b.rest }

-- what follows a word with two numbers
abbrev pub pair_form : (ℕ → ℕ → Form) → List ℕ → Option Form
pair_form form s = cond (ends (pair_numbers s).rest) (some (form (pair_numbers s).a (pair_numbers s).b)) none

-- what follows the two numbers of a link that has a duct; a duct over 255 is none
unfoldable pub duct_form : ℕ → ℕ → List ℕ → Option Form
duct_form a b s =
    let duct = named_number DUCT s in
    cond (ltb 255 duct.value) none (cond (ends duct.rest) (some (ducted a b duct.value)) none)

-- what follows the word link
unfoldable pub link_form : List ℕ → Option Form
link_form s = let p = pair_numbers s in cond (ends p.rest) (some (link p.a p.b)) (duct_form p.a p.b p.rest)

-- what follows a word with no number
abbrev pub bare_form : Form → List ℕ → Option Form
bare_form form s = cond (ends s) (some form) none

-- what follows the word ear
abbrev pub ear_form : List ℕ → Option Form
ear_form s = cond (ends (ear_numbers s).rest) (some (ear (ear_numbers s).list)) none

-- the form that a word without numbers begins
unfoldable pub bare_forms : List ℕ → Option Form
bare_forms s =
    cond (more (after_word OPEN s)) (bare_form opening (after_word OPEN s))
    (cond (more (after_word CLOSE s)) (bare_form closing (after_word CLOSE s))
    (bare_form clearing (after_word CLEAR s)))

-- the form that a word other than ear begins
unfoldable pub other_forms : List ℕ → Option Form
other_forms s =
    cond (more (after_word LINK s)) (link_form (after_word LINK s))
    (cond (more (after_word WALK s)) (pair_form walk (after_word WALK s))
    (cond (more (after_word NET s)) (net_form (after_word NET s))
    (bare_forms s)))

-- the form that a line's word begins
unfoldable pub any_form : List ℕ → Option Form
any_form s = cond (more (after_word EAR s)) (ear_form (after_word EAR s)) (other_forms s)

-- the form that a line is read as: at most 6,144 bytes
unfoldable pub reading : List ℕ → Option Form
reading s = cond (ltb 6144 (length s)) none (any_form s)

-- every number is at most 65535
unfoldable pub Narrow : List ℕ → Type 0
Narrow [] = Unit
Narrow (n ∷ ns) = (n ≤ 65535) × Narrow ns

-- a line is the writing of a form, within the limits
pub record IsWriting (f : Form) (s : List ℕ) : Type 0 where
  pub bytes : s ≡ writing f
  pub narrow : Narrow (numbers_of f)
  pub duct : duct_of f ≤ 255
  pub short : length s ≤ 6144

-- a line is read as a form exactly when it is the form's writing, within the limits
abbrev pub ReadExactly : Type 0
ReadExactly = (s : List ℕ) (f : Form) → (reading s ≡ some f → IsWriting f s) × (IsWriting f s → reading s ≡ some f)
