-- Document 01, "Lines of threeways": the replies and their bytes, each ended by a line feed, and what a lent slice holds once bytes
-- were written into it.
use Rattle.std.specs.Prelude.{◌≡◌, List, [], ◌∷◌, ◌++◌, map, ℕ, ◌+◌, length, take, drop}
use Rattle.mondschein.specs.Outcome.{over}
use Rattle.lines.specs.Writing.{ascii, WALK, decimal, spaced, bracketed}

-- the replies
pub data Reply : Type 0 where
  opened : (switches links : ℕ) → Reply
  new : (count : ℕ) → Reply
  refused : (number place : ℕ) → Reply
  closed : Reply
  walked : (switch tree : ℕ) (switches : List ℕ) → Reply
  cleared : Reply
  unread : (line : ℕ) → Reply

-- the opening bracket, a word and numbers, each after one space
abbrev pub head : List ℕ → List ℕ → List ℕ
head word numbers = ascii "(" ++ (word ++ spaced (map decimal numbers))

-- parts in brackets, and a line feed
abbrev pub line : List (List ℕ) → List ℕ
line parts = bracketed parts ++ ascii "\n"

-- the bytes of a reply
abbrev pub reply : Reply → List ℕ
reply (opened n m) = line (ascii "opened" ∷ decimal n ∷ decimal m ∷ [])
reply (new count) = line (ascii "new" ∷ decimal count ∷ [])
reply (refused number place) = line (ascii "refused" ∷ decimal number ∷ decimal place ∷ [])
reply closed = line (ascii "closed" ∷ [])
reply (walked switch tree switches) = line (WALK ∷ decimal switch ∷ decimal tree ∷ bracketed (map decimal switches) ∷ [])
reply cleared = line (ascii "cleared" ∷ [])
reply (unread number) = line (ascii "unread" ∷ decimal number ∷ [])

-- bytes written into a slice from index at on: the index after them, and what the slice holds, elsewhere what it held
pub record Wrote (at : ℕ) (bytes held : List ℕ) (next : ℕ) (holds : List ℕ) : Type 0 where
  pub ended : next ≡ at + length bytes
  pub slice : holds ≡ take at held ++ (bytes ++ drop (at + length bytes) held)

-- a slice that begins with the bytes, r of them, and holds else what it held
abbrev pub Printed : List ℕ → List ℕ → ℕ → List ℕ → Type 0
Printed bytes held r holds = (r ≡ length bytes) × (holds ≡ over bytes held)
