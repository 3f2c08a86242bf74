-- Loading a flat table of link records into the memory is loading their ends and their ducts.
-- It is so of the session that the memory means (Rattle.session.proofs.Records).
use mathlib.Core.Path.{◌≡◌, ap}
use mathlib.Core.List.{List}
use Prim.Native.Nat.{ℕ}
use lib.ListN.{length, take}
use Rattle.mondschein.specs.Outcome.{Outcome}
use Rattle.machine.specs.Machine.{load}
use Rattle.network.specs.Load.{network_of}
use Rattle.records.specs.declared.Link.{Link}
use Rattle.records.specs.Records.{ends_of, ducts_of, flat_of, numbers_of}
use Rattle.in_place.specs.declared.Session.{Session}
use Rattle.session.specs.Calls.{called}
use Rattle.session.proofs.Records.{records_loaded}
use Rattle.memory.specs.Memory.{Memory, session_at, in_memory, wrong_in, sized}
use Rattle.memory.specs.Program.{called_in, called_with}

pub records_in_memory : (mem : Memory) (n : ℕ) (ls : List Link) (root first last : ℕ)
    → called_with mem (load (network_of n (take (numbers_of (length ls)) (flat_of ls).ends) root first last) (flat_of ls).ducts)
    ≡ called_with mem (load (network_of n (ends_of ls) root first last) (ducts_of ls))
unfolding called_in called
records_in_memory mem n ls root first last =
    ap (λ (o : Outcome Session). sized (wrong_in mem) mem (in_memory mem o)) (records_loaded (session_at mem) n ls root first last)
