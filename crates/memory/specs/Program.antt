-- The memory of struct threeways_session with the calls for C as a program of document 01, of which Demands.antt of the machine states what
-- is promised; and that the memory of a session means that session.
use Rattle.std.specs.Prelude.{◌≡◌, List, ℕ}
use Rattle.mondschein.specs.Judge.{refused}
use Rattle.mondschein.specs.Outcome.{Outcome}
use Rattle.mondschein.specs.WholeList.{next_refused, offering, ears_in}
use Rattle.machine.specs.Machine.{Call, load, ear, ears, close, bring_over, clear, Program}
use Rattle.in_place.specs.declared.Session.{Session}
use Rattle.in_place.specs.Session.{zeros}
use Rattle.in_place.specs.Queries.{parent_by, walked_by}
use Rattle.session.specs.Calls.{called}
use Rattle.session.specs.Program.{kept_order, size_in, duct_in}
use Rattle.zones.specs.Statements.{ZonesCall}
use Rattle.zoning.specs.Zoning.{zoned_by}
use Rattle.memory.specs.Memory.{Memory, numbers_by, memory_by, session_at, memory_of, in_memory, wrong_in, sized}

-- a call of the session that the memory means
abbrev pub single_in : Memory → Call → Outcome Memory
single_in mem c = in_memory mem (called (session_at mem) c)

-- one call; in a list each ear is a call of its own, and a refused one leaves the memory to the letter
unfoldable pub called_in : Memory → Call → Outcome Memory
called_in mem (load net ducts) = single_in mem (load net ducts)
called_in mem (ear e) = single_in mem (ear e)
called_in mem (ears l) = offering (λ mem e. single_in mem (ear e)) mem (ears_in l)
called_in mem (close rule) = single_in mem (close rule)
called_in mem bring_over = single_in mem bring_over
called_in mem clear = single_in mem clear

-- what a function for C does that writes the session: 255, or the call
abbrev pub called_with : Memory → Call → Outcome Memory
called_with mem c = sized (wrong_in mem) mem (called_in mem c)

-- all zeros
abbrev pub no_memory : Memory
no_memory = memory_by (numbers_by 0 0 0 0 0 0 0 0) (zeros 8192) (zeros 4096) (zeros 4096) (zeros 1024) (zeros 1024) (zeros 1024) (zeros 1024) (zeros 1024)

abbrev pub memory_program : Program
memory_program =
    record {
      Session = Memory;
      fresh = no_memory;
      after = λ mem c. (called_in mem c).after;
      answer = λ mem c. (called_in mem c).answer;
      parent = λ mem v t. parent_by (session_at mem) v t;
      walk = λ mem v t out. walked_by (session_at mem) v t out;
      order = λ mem. kept_order (session_at mem);
      size = λ mem. size_in (session_at mem);
      duct = λ mem. duct_in (session_at mem);
    }

-- the memory of a session means that session: nothing of it is lost
abbrev pub Keeps : Type 0
Keeps = (s : Session) → session_at (memory_of s) ≡ s

-- number 0 is no refusal, also not of an ear of a list, so that it tells success
pub record ZeroSucceeds : Type 0 where
  pub calls : (mem : Memory) (c : Call) (place : ℕ) → (called_in mem c).answer ≡ refused 0 place → ⊥
  pub lists : (mem : Memory) (l : List ℕ) (k place : ℕ) → (called_in mem (ears l)).answer ≡ next_refused k 0 place → ⊥
  pub parents : (mem : Memory) (v t place : ℕ) → parent_by (session_at mem) v t ≡ refused 0 place → ⊥
  pub walks : (mem : Memory) (v t : ℕ) (out : List ℕ) (place : ℕ) → (walked_by (session_at mem) v t out).answer ≡ refused 0 place → ⊥
  pub zones : (mem : Memory) (n₁ n₂ n₃ : ℕ) (out : List ℕ) (place : ℕ) → (zoned_by (session_at mem) n₁ n₂ n₃ out).answer ≡ refused 0 place → ⊥

-- the zones of the session that the memory means keep the promises of document 02, Note 4
abbrev pub ZonesInMemory : Type 0
ZonesInMemory = ZonesCall memory_program (λ mem. mem.numbers.n) (λ mem. zoned_by (session_at mem))
