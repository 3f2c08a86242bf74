-- What the contract over a line cites: what is known once it ends and has what it asks of the session, and its reply.
-- It is what the end of a line leads to, of document 01's dialogue.
use Rattle.std.specs.Prelude.{◌≡◌, List, ◌++◌, ℕ}
use Rattle.in_place.specs.declared.Session.{Session}
use Rattle.transcript.specs.Transcript.{ended}
use Rattle.collect.specs.declared.Reader.{Reader}
use Rattle.collect.specs.Dialogue.{turn}
use Rattle.collect.specs.Answering.{reader_in}

-- the line that is held ends: what is known after it, the session and its reply, whatever was printed before
abbrev pub TakesLine : Reader → Session → List ℕ → List ℕ → List ℕ → Reader → Session → List ℕ → List ℕ → List ℕ → Type 0
TakesLine r s links ducts line x s' links' ducts' bytes =
    (printed : List ℕ) → reader_in x s' links' ducts' line (printed ++ bytes) ≡ ended turn (reader_in r s links ducts line printed)
