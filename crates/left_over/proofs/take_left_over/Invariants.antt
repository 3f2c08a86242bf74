use Rattle.std.proofs.Common.{◌≡◌}
use Rattle.network.specs.Load.{table_of}
use Rattle.rows.specs.Rows.{assigned}
use Rattle.left_over.proofs.LeftOver.{mark_after}
use Rattle.left_over.proofs.take_left_over.Given as goal

abbrev pub invariant-loop-l : goal.invariant-loop-l
invariant-loop-l l = l.used ≡ assigned l.initial.used (λ j. j) (mark_after (table_of l.links) l.births l.initial.used) l.l
