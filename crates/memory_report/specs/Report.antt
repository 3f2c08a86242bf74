-- What the report of document 02, Note 7, promises for C, for any memory of struct threeways_report and of struct threeways_session: begun
-- empty, it adds the session that the memory means (Rattle.report.specs.Report), and 255 for rows or arrays of other lengths.
use Rattle.std.specs.Prelude.{◌≡◌, Bool, not, ◌||◌, List, [], ℕ, eqb, length}
use Rattle.mondschein.specs.Judge.{given, refused}
use Rattle.mondschein.specs.Outcome.{Outcome}
use Rattle.losses.specs.Statements.{ReportCall}
use Rattle.report.specs.declared.Report.{Report}
use Rattle.report.specs.Report.{empty_report, losing_two, losing_three, reported_by}
use Rattle.memory.specs.declared.Refusal.{Refusal}
use Rattle.memory.specs.Memory.{Memory, Row, LinkRow, session_at, wrong_in, sized, Returns}
use Rattle.memory.specs.Program.{memory_program}

-- rows by duct of other lengths than the struct's
unfoldable pub wrong_rows : ℕ → ℕ → Bool
wrong_rows two three = not (eqb two 256) || not (eqb three 256)

abbrev pub wrong_report : Report → Bool
wrong_report rep = wrong_rows (length rep.two) (length rep.three)

-- a report begun empty
abbrev pub begun : Outcome Report
begun = record { answer = given []; after = empty_report }

abbrev pub Begins : Report → Refusal → Report → Type 0
Begins rep r rep' = Returns (sized (wrong_report rep) rep begun) r rep'

-- the session that the memory means, added to a report
abbrev pub reported_in : Report → Memory → Outcome Report
reported_in rep mem = reported_by rep (session_at mem)

-- adding, whatever the used links, the births and the order hold
abbrev pub Adds : Report → (List ℕ → List ℕ → List ℕ → Memory) → Refusal → Report → Type 0
Adds rep mem r rep' = (used births order : List ℕ) → LinkRow used → Row births → Row order
    → (let mem = mem used births order in Returns (sized (wrong_report rep || wrong_in mem) rep (reported_in rep mem)) r rep')

-- the report over the memory keeps the promises of document 02, Note 7
abbrev pub ReportInMemory : Type 0
ReportInMemory = ReportCall memory_program Report empty_report reported_in losing_two losing_three

-- number 0 is no refusal of adding, so that it tells success
abbrev pub ZeroAdds : Type 0
ZeroAdds = (rep : Report) (mem : Memory) (place : ℕ) → (reported_in rep mem).answer ≡ refused 0 place → ⊥
