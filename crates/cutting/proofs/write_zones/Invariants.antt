use Rattle.std.proofs.Common.{◌≡◌}
use Rattle.mondschein.specs.Network.{at}
use Rattle.rows.specs.Rows.{assigned}
use Rattle.cutting.specs.Cutting.{zone_by}
use Rattle.cutting.proofs.Steps.{Along}
use Rattle.cutting.proofs.write_zones.Given as goal

abbrev pub invariant-loop-switch : goal.invariant-loop-switch
invariant-loop-switch l =
    Along l.order l.births l.cut l.switch-index l.p × (l.out ≡ assigned l.initial.out (at l.order) (zone_by l.order l.births l.cut) l.switch-index)
