-- Document 01's values and numbers for each answer to close.
-- The contracts over check 23 and the calls that close cite them.
use Rattle.std.specs.Prelude.{[], Result}
use Rattle.mondschein.specs.Judge.{Answer}
use Rattle.refusals.specs.declared.Refusal.{Refusal}
use Rattle.refusals.specs.Refusals.{answer_of}

abbrev pub close_answer : Result (Unit {0}) Refusal → Answer
close_answer = answer_of (λ _. [])
