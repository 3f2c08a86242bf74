-- The call of document 02, Note 7, that adds a session to a report: what it answers and leaves of the report, for any report and any session;
-- and the equation of the same call in place. The session is only read.
use Rattle.std.specs.Prelude.{◌≡◌, List, [], ℕ, suc, ◌*◌, min, eqb, length, take, replicate, Result}
use Rattle.std.specs.Result.{result_unwrap_or}
use Rattle.mondschein.specs.Network.{at}
use Rattle.mondschein.specs.Judge.{Answer, given, refused, check}
use Rattle.mondschein.specs.Outcome.{Outcome, settle}
use Rattle.refusals.specs.declared.Refusal.{Refusal}
use Rattle.refusals.specs.Refusals.{answer_of}
use Rattle.machine.specs.Machine.{Call}
use Rattle.losses.specs.Statements.{report_after, added_after}
use Rattle.in_place.specs.declared.State.{State}
use Rattle.in_place.specs.declared.Session.{Session}
use Rattle.in_place.specs.Session.{by_stage}
use Rattle.in_place.specs.InPlace.{session_in}
use Rattle.session.specs.Program.{session_program}
use Rattle.reporting.specs.Reporting.{Trees, trees_of, losses_after}
use Rattle.report.specs.declared.Report.{Report}
use Rattle.report.specs.declared.Adding.{Adding}

abbrev pub report_of : ℕ → List ℕ → List ℕ → Report
report_of sessions two three = record { sessions = sessions; two = two; three = three }

-- a report begun empty
abbrev pub empty_report : Report
empty_report = report_of 0 (replicate 256 0) (replicate 256 0)

-- what it gives for duct d: the switches that lose exactly two walks, and all three
abbrev pub losing_two : Report → ℕ → ℕ
losing_two r d = at r.two d

abbrev pub losing_three : Report → ℕ → ℕ
losing_three r d = at r.three d

-- the three trees of a session, with the ducts of their links; a session that says to have more than 1,024 switches, which no calls leave, is
-- gone along no further
abbrev pub trees_in : Session → Trees
trees_in s = trees_of (min s.n 1024) s.root (take (2 * s.m) s.links) s.ducts s.tree1 s.tree2 s.tree3

-- the report with one session more
abbrev pub report_with : Report → Session → Report
report_with r s = report_of (suc r.sessions) (losses_after (trees_in s) 2 r.two) (losses_after (trees_in s) 3 r.three)

-- 25: so many are added that it would be a 65,536th
unfoldable pub full : ℕ → Answer
full sessions = check 25 1 (λ k. eqb sessions 65535) (given [])

-- adding a session: 19 on an empty session, 21 on an open one, then 25
unfoldable pub reported_by : Report → Session → Outcome Report
reported_by r s = settle r (report_with r s) (by_stage s.stage (refused 19 0) (refused 21 0) (full r.sessions))

-- document 02's numbers for each answer, and how many sessions are added after it
abbrev pub added_answer : Result ℕ Refusal → Answer
added_answer = answer_of (λ _. [])

abbrev pub sessions_after : Result ℕ Refusal → ℕ → ℕ
sessions_after = result_unwrap_or

-- what the call by value answers and leaves
abbrev pub adding_outcome : Adding → Outcome Report
adding_outcome a = record { answer = added_answer a.answer; after = a.report }

-- the call in place, whatever the arrays hold that it does not ask for
abbrev pub AddsIn : ℕ → List ℕ → List ℕ → State → List ℕ → List ℕ → List ℕ → List ℕ → List ℕ → Result ℕ Refusal → List ℕ → List ℕ → Type 0
AddsIn sessions two three st links ducts tree1 tree2 tree3 r two' three' =
    (used births order : List ℕ)
    → record { answer = added_answer r; after = report_of (sessions_after r sessions) two' three' }
    ≡ reported_by (report_of sessions two three) (session_in st links ducts used births order tree1 tree2 tree3)

-- the count that a report keeps, and that a granted answer tells, is how many sessions are added
abbrev pub CountsSessions : Type 0
CountsSessions = (css : List (List Call))
    → (report_after session_program Report empty_report reported_by losing_two losing_three css).sessions
    ≡ length (added_after session_program Report empty_report reported_by losing_two losing_three css)
