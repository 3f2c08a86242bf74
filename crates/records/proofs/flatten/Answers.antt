use Rattle.std.proofs.Common.{refl}
use Rattle.records.specs.Records.{ends_of, ducts_of}
use Rattle.records.proofs.Records.{fitting}
use Rattle.records.proofs.flatten.Goals as goal

pub loop-i-init : goal.loop-i-init
unfolding ends_of ducts_of fitting
loop-i-init c = (refl, refl)
