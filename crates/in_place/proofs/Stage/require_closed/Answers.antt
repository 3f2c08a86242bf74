use Rattle.std.proofs.Common.{sym}
use Rattle.in_place.proofs.Answers.{on_empty_lem, on_open_lem, on_closed_lem}
use Rattle.in_place.proofs.Stage.require_closed.Goals as goal

pub returns-in-Empty : goal.returns-in-Empty
returns-in-Empty c = sym (on_empty_lem _ _ _ c.in-Empty.is)

pub returns-in-Open : goal.returns-in-Open
returns-in-Open c = sym (on_open_lem _ _ _ c.in-Open.is)

pub returns-in-Closed : goal.returns-in-Closed
returns-in-Closed c = sym (on_closed_lem _ _ _ c.in-Closed.is)
