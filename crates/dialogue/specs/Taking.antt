-- What the contracts over blocks cite: the lines of a block taken from a place on, the whole of it, and the end of the input; and the
-- statements that these promises, block after block, print what threeways prints.
use Rattle.std.specs.Prelude.{◌≡◌, true, ℕ, ◌≤◌, length, drop}
use mathlib.Core.List.{List, [], ◌∷◌, ◌++◌, foldl}
use Rattle.in_place.specs.declared.Session.{Session}
use Rattle.in_place.specs.Session.{empty_session}
use Rattle.transcript.specs.Transcript.{unprinted, over, started, fed, finished}
use Rattle.transcript.specs.Transcript.{Reader as Transcript-as-Reader}
use Rattle.collect.specs.declared.Reader.{Reader}
use Rattle.collect.specs.Dialogue.{Dialogue, fresh, turn, threeways}
use Rattle.collect.specs.Answering.{reader_in, start_reader}

-- the lines of a block are taken from a place on: what is known where they end, with what they print, leads on as what was known before
abbrev pub TakesLines : Reader → Session → List ℕ → List ℕ → List ℕ → List ℕ → ℕ → Reader → Session → List ℕ → List ℕ → List ℕ → ℕ → List ℕ → Type 0
TakesLines r s links ducts line block from x s' links' ducts' line' next output =
    (printed : List ℕ) → foldl (fed turn) (reader_in r s links ducts line printed) (drop from block) ≡ foldl (fed turn) (reader_in x s' links' ducts' line' (printed ++ output)) (drop next block)

-- the end of the input: what is known after it, with what it prints
abbrev pub Finishes : Reader → Session → List ℕ → List ℕ → List ℕ → Reader → Session → List ℕ → List ℕ → List ℕ → List ℕ → Type 0
Finishes r s links ducts line x s' links' ducts' line' output = (printed : List ℕ) → reader_in x s' links' ducts' line' (printed ++ output) ≡ finished turn (reader_in r s links ducts line printed)

-- a block is taken: what is known after it, but for what was printed, is what its bytes lead to, one after another
abbrev pub Takes : Reader → Session → List ℕ → List ℕ → List ℕ → List ℕ → Reader → Session → List ℕ → List ℕ → List ℕ → Type 0
Takes r s links ducts line block x s' links' ducts' line' = reader_in x s' links' ducts' line' [] ≡ unprinted (foldl (fed turn) (reader_in r s links ducts line []) block)

-- what the bytes of an input lead to, from the start
abbrev pub from_start : List ℕ → Transcript-as-Reader Dialogue
from_start input = foldl (fed turn) (started turn fresh) input

-- there is an input that leads to what is known, but for what was printed
pub record Led (x : Reader) (s : Session) (links ducts line : List ℕ) : Type 0 where
  pub input : List ℕ
  pub known : reader_in x s links ducts line [] ≡ unprinted (from_start input)

-- the same where no more is read
pub record LedOver (x : Reader) (s : Session) (links ducts line : List ℕ) : Type 0 where
  pub led : Led x s links ducts line
  pub over : over (from_start led.input) ≡ true

-- the same at the end of the input
pub record LedToEnd (x : Reader) (s : Session) (links ducts line : List ℕ) : Type 0 where
  pub input : List ℕ
  pub known : reader_in x s links ducts line [] ≡ unprinted (finished turn (from_start input))

-- blocks, one after another
unfoldable pub joined : List (List ℕ) → List ℕ
joined [] = []
joined (b ∷ bs) = b ++ joined bs

-- an input taken from its start: the blocks that were taken whole, the block in hand and the place in it, what is known there, and all that
-- was printed. A call of take_lines goes on in the block in hand; one that is taken whole is followed by another.
pub data Taken : List (List ℕ) → List ℕ → ℕ → Reader → Session → List ℕ → List ℕ → List ℕ → List ℕ → Type 0 where
  start : {links ducts line : List ℕ} → Taken [] [] 0 start_reader empty_session links ducts line []
  call : {blocks : List (List ℕ)} {block : List ℕ} {at : ℕ} {r : Reader} {s : Session} {links ducts line output : List ℕ} {x : Reader} {s' : Session} {links' ducts' line' : List ℕ} {next : ℕ} (printed : List ℕ)
      → Taken blocks block at r s links ducts line output → TakesLines r s links ducts line block at x s' links' ducts' line' next printed → Taken blocks block next x s' links' ducts' line' (output ++ printed)
  another : {blocks : List (List ℕ)} {block : List ℕ} {at : ℕ} {r : Reader} {s : Session} {links ducts line output : List ℕ} (new : List ℕ)
      → Taken blocks block at r s links ducts line output → length block ≤ at → Taken (blocks ++ (block ∷ [])) new 0 r s links ducts line output

-- what was printed for the blocks of an input, whatever the pieces in which each was taken, and at its end, is what threeways prints for
-- their bytes
abbrev pub PrintsBlocks : Type 0
PrintsBlocks = (blocks : List (List ℕ)) (block : List ℕ) (at : ℕ) (r : Reader) (s : Session) (links ducts line output : List ℕ) (x : Reader) (s' : Session) (links' ducts' line' last : List ℕ)
    → Taken blocks block at r s links ducts line output → length block ≤ at → Finishes r s links ducts line x s' links' ducts' line' last
    → output ++ last ≡ threeways (joined blocks ++ block)

-- where no more is read, it is what threeways prints for their bytes and any that follow
abbrev pub PrintsEarly : Type 0
PrintsEarly = (blocks : List (List ℕ)) (block : List ℕ) (at : ℕ) (r : Reader) (s : Session) (links ducts line output : List ℕ)
    → Taken blocks block at r s links ducts line output → over (reader_in r s links ducts line output) ≡ true → (following : List ℕ)
    → output ≡ threeways ((joined blocks ++ block) ++ following)
