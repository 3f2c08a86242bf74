-- What the contracts of the program and of the end of its input cite: how a run ends, and what is known there.
-- No contract can say what was read: there is an input that leads to it.
use Rattle.std.specs.Prelude.{List, ℕ}
use Rattle.in_place.specs.declared.Session.{Session}
use Rattle.collect.specs.declared.Reader.{Reader}
use Rattle.dialogue.specs.Taking.{Led, LedOver, LedToEnd}
use Rattle.blocks.specs.declared.End.{End}
use Rattle.blocks.specs.declared.End.TheVariants.{Input, Over, NotRead, NotWritten}

-- what is known where a run ends: at the end of the input, where no more is read, and where a read failed; nothing is said where a write
-- failed
unfoldable pub EndsWith : End → Reader → Session → List ℕ → List ℕ → List ℕ → Type 0
EndsWith Input x s links ducts line = LedToEnd x s links ducts line
EndsWith Over x s links ducts line = LedOver x s links ducts line
EndsWith NotRead x s links ducts line = Led x s links ducts line
EndsWith NotWritten x s links ducts line = Unit
