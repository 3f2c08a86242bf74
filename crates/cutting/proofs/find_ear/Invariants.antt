use Rattle.cutting.proofs.Counting.{Seeking}
use Rattle.cutting.proofs.find_ear.Given as goal

abbrev pub invariant-loop-i : goal.invariant-loop-i
invariant-loop-i l = Seeking l.births l.total l.i l.before
