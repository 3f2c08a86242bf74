-- The report over the memory keeps the promises of document 02, Note 7: the memory after any list of calls means the session that they leave.
-- And number 0 is no refusal of adding.
use mathlib.Core.Path.{refl, sym, ◌∙◌, ap, subst}
use mathlib.Core.Logic.{⊎_elim}
use mathlib.Core.List.{[], ◌∷◌}
use Rattle.mondschein.specs.Network.{In, low, any, holds}
use Rattle.mondschein.specs.Outcome.{Outcome}
use Rattle.mondschein.proofs.Checks.{never}
use Rattle.machine.proofs.Implementation.{history_of}
use Rattle.losses.proofs.Calls.{report_through}
use Rattle.session.specs.Program.{session_program}
use Rattle.session.proofs.Implements.{implements as session-implements}
use Rattle.report.specs.declared.Report.{Report}
use Rattle.report.specs.Report.{empty_report, losing_two, losing_three, reported_by}
use Rattle.report.proofs.Calls.{report_call}
use Rattle.memory.specs.Memory.{session_at}
use Rattle.memory.specs.Program.{memory_program}
use Rattle.memory.proofs.Program.{meant, implements, not_zero, same_number}
use Rattle.memory_report.specs.Report.{ReportInMemory, ZeroAdds}

pub report_in_memory : ReportInMemory
report_in_memory =
    report_through session_program memory_program session_at meant
    (λ cs. history_of memory_program implements cs ∙ sym (history_of session_program session-implements cs))
    Report empty_report reported_by losing_two losing_three report_call

pub zero_adds : ZeroAdds
unfolding holds any low
zero_adds rep mem place z =
    ⊎_elim (λ q. never (sym z ∙ q))
    (λ (num, q, i). not_zero (19 ∷ 21 ∷ 25 ∷ [])
    (subst (In (19 ∷ 21 ∷ 25 ∷ [])) (same_number num 0 place (ap (λ (o : Outcome Report). o.answer) q) z) i) refl)
    (report_in_memory.demand1 rep mem)
