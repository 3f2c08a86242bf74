-- Document 01, "Lines of threeways": the lines of an input, and what is printed for them, one line after another.
-- The input comes byte by byte; a line ends at its line feed, or at the byte that shows that it is too long.
use Rattle.std.specs.Prelude.{◌≡◌, Bool, true, false, ◌||◌, cond, ℕ, suc, eqb, ltb, length, take, drop}
use mathlib.Core.List.{List, [], ◌∷◌, ◌++◌, foldl}
use Rattle.transcript.specs.declared.Held.{Held}

-- one more byte at the beginning of the first line
abbrev pub begun : ℕ → List (List ℕ) → List (List ℕ)
begun b [] = (b ∷ []) ∷ []
begun b (l ∷ ls) = (b ∷ l) ∷ ls

-- the lines of an input: a line feed ends a line, and the final line may lack it
unfoldable pub lines_of : List ℕ → List (List ℕ)
lines_of [] = []
lines_of (b ∷ s) = cond (eqb b 10) ([] ∷ lines_of s) (begun b (lines_of s))

-- nothing stands in the line
abbrev pub blank : List ℕ → Bool
blank [] = true
blank (b ∷ l) = false

-- what a line leads to: the state after it, what is printed, and whether no more is read
pub record Turn (A : Type 0) : Type 0 where
  pub after : A
  pub printed : List ℕ
  pub stops : Bool

-- a dialogue, by what line number k with these bytes leads to
module _ {A : Type 0} (turn : A → ℕ → List ℕ → Turn A) where
  -- what the lines print, from line number k on
  unfoldable pub printed_from : A → ℕ → List (List ℕ) → List ℕ
  printed_from a k [] = []
  printed_from a k (l ∷ ls) = (turn a k l).printed ++ cond (turn a k l).stops [] (printed_from (turn a k l).after (suc k) ls)

  -- the transcript of an input: only the first 65,535 lines are read
  unfoldable pub transcript : A → List ℕ → List ℕ
  transcript a input = printed_from a 1 (take 65535 (lines_of input))

-- what is known between two bytes: the state, the number of the line that comes, its bytes so far, what was printed, and whether
-- no more is read
pub record Reader (A : Type 0) : Type 0 where
  pub state : A
  pub number : ℕ
  pub line : List ℕ
  pub output : List ℕ
  pub stopped : Bool

-- what is known but for what was printed
abbrev pub unprinted : {A : Type 0} → Reader A → Reader A
unprinted r = record { state = r.state; number = r.number; line = r.line; output = []; stopped = r.stopped }

-- a reader with another line
abbrev pub with_line : {A : Type 0} → Reader A → List ℕ → Reader A
with_line r l = record { state = r.state; number = r.number; line = l; output = r.output; stopped = r.stopped }

-- no more is read: a line stopped the dialogue, or 65,535 lines were read
abbrev pub over : {A : Type 0} → Reader A → Bool
over r = r.stopped || ltb 65535 r.number

-- a line with one more byte; 6,145 are enough, for they show that it is too long
abbrev pub lengthened : List ℕ → ℕ → List ℕ
lengthened l b = take 6145 (l ++ (b ∷ []))

-- the line is too long
abbrev pub too_long : List ℕ → Bool
too_long l = ltb 6144 (length l)

module _ {A : Type 0} (turn : A → ℕ → List ℕ → Turn A) where
  abbrev pub started : A → Reader A
  started a = record { state = a; number = 1; line = []; output = []; stopped = false }

  -- the line ends here
  unfoldable pub ended : Reader A → Reader A
  ended r =
      let t = turn r.state r.number r.line in
      cond (over r) r
      (record { state = t.after; number = suc r.number; line = []; output = r.output ++ t.printed; stopped = t.stops })

  -- the line is now l: it goes on, or ends where it is too long
  abbrev pub lengthens : Reader A → List ℕ → Reader A
  lengthens r l = cond (too_long l) (ended (with_line r l)) (with_line r l)

  -- one more byte: a line ends at its line feed, or at the byte that shows that it is too long
  unfoldable pub fed : Reader A → ℕ → Reader A
  fed r b = cond (over r) r (cond (eqb b 10) (ended r) (lengthens r (lengthened r.line b)))

  -- the end of the input: a final line without line feed
  unfoldable pub finished : Reader A → Reader A
  finished r = cond (blank r.line) r (ended r)

  -- the bytes of an input one after another, and its end, print the transcript
  abbrev pub PrintsTranscript : Type 0
  PrintsTranscript = (a : A) (input : List ℕ) → (finished (foldl fed (started a) input)).output ≡ transcript turn a input

  -- where no more is read, nothing that follows changes anything, nor does the end of the input
  abbrev pub StaysOver : Type 0
  StaysOver = (r : Reader A) → over r ≡ true → ((input : List ℕ) → foldl fed r input ≡ r) × (finished r ≡ r)

-- what a block leaves of a line: its bytes so far, the block after it, and whether it ends there
pub record LineHeld : Type 0 where
  pub line : List ℕ
  pub rest : List ℕ
  pub ends : Bool

-- the line l goes on with a block
unfoldable pub held_line : List ℕ → List ℕ → LineHeld
held_line l [] = record { line = l; rest = []; ends = false }
held_line l (b ∷ s) =
    cond (eqb b 10) (record { line = l; rest = s; ends = true })
    (cond (too_long (lengthened l b)) (record { line = lengthened l b; rest = s; ends = true }) (held_line (lengthened l b) s))

-- a block taken line by line is its bytes taken one after another
abbrev pub LineByLine : {A : Type 0} → (A → ℕ → List ℕ → Turn A) → Type 0
LineByLine {A} turn = (r : Reader A) (block : List ℕ) → foldl (fed turn) r block
    ≡ (let h = held_line r.line block in
    cond (over r) r (cond h.ends (foldl (fed turn) (ended turn (with_line r h.line)) h.rest) (with_line r h.line)))

-- what a block leaves of a line, with the line and the block in slices
abbrev pub held_in : Held → List ℕ → List ℕ → LineHeld
held_in r line block = record { line = take r.held line; rest = drop r.next block; ends = r.ends }
