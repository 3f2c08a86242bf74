use Rattle.shape.proofs.Marks.{unmarked_all}
use Rattle.unborn.proofs.first_cut_off.Goals as goal

pub mark_all-requires : goal.mark_all-requires
mark_all-requires c = unmarked_all 1024
