use Rattle.cutting.specs.Cutting.{Counted}
use Rattle.cutting.proofs.count_births.Given as goal

abbrev pub invariant-loop-birth : goal.invariant-loop-birth
invariant-loop-birth l = Counted l.births l.birth-index l.counts
