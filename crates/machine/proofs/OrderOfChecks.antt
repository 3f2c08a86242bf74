-- Note 3 of the machine: after any list of calls that leaves it open, the ears are accepted ones, and an ear is answered as after those.
-- What the order of checks changes there is shown in Rattle.mondschein.proofs.CheckOrder.
use mathlib.Core.Path.{sym, ap, subst}
use Rattle.mondschein.specs.Judge.{Answer}
use Rattle.mondschein.specs.CheckOrder.{ChangedAnswers}
use Rattle.mondschein.proofs.CheckOrder.{answers_changed}
use Rattle.machine.specs.Machine.{opened, ear, answers, machine}
use Rattle.machine.specs.Demands.{OrderOfChecks}
use Rattle.machine.proofs.History.{Reached, state_of_lem, reached_of}

pub order_of_checks_lem : OrderOfChecks machine
unfolding answers Reached
order_of_checks_lem cs p h e =
    subst (λ (a : Answer). ChangedAnswers p.net p.ears e a) (sym (ap (answers (ear e)) (state_of_lem cs (opened p) h)))
    (answers_changed p.net p.ears e (reached_of cs (opened p) h).1)
