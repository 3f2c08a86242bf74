use Rattle.std.proofs.Common.{[], ap}
use Rattle.mondschein.specs.Judge.{given}
use Rattle.mondschein.specs.Outcome.{settle, granted}
use Rattle.in_place.specs.declared.Session.{Session}
use Rattle.in_place.specs.Session.{cleared_by}
use Rattle.session.proofs.clear.Goals as goal

pub returns : goal.returns
unfolding cleared_by settle granted
returns c = ap (λ (s : Session). record { answer = given []; after = s }) c.empty.ensures
