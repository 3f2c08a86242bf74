use Rattle.shape.proofs.Marks.{unmarked_all}
use Rattle.shape.proofs.first_repeated.Goals as goal

pub first_repeated_by-requires-2 : goal.first_repeated_by-requires-2
first_repeated_by-requires-2 c = unmarked_all 1024
