-- One call on a session by value, of those that write one, and what each answered, by document 01's values and numbers.
-- What each call does to a session is defined beside the session, in Rattle.in_place.specs.Session.
use Rattle.std.specs.Prelude.{[], ℕ, Result}
use Rattle.mondschein.specs.Judge.{given}
use Rattle.mondschein.specs.Outcome.{Outcome}
use Rattle.machine.specs.Machine.{Call, load, ear, ears, close, bring_over, clear}
use Rattle.refusals.specs.declared.Refusal.{Refusal}
use Rattle.network.specs.declared.Loaded.{Loaded}
use Rattle.network.specs.Load.{load_answer}
use Rattle.judge.specs.Ear.{ear_answer}
use Rattle.closing.specs.Closing.{close_answer}
use Rattle.in_place.specs.declared.Session.{Session}
use Rattle.in_place.specs.Session.{loaded_by, offered_by, listed_by, closed_by, brought_by, cleared_by}
use Rattle.offering.specs.declared.ListRefusal.{ListRefusal}
use Rattle.offering.specs.Offering.{ears_answer}
use Rattle.bringing.specs.Bringing.{bring_answer}
use Rattle.session.specs.declared.Answered.{Answered}

-- one call
unfoldable pub called : Session → Call → Outcome Session
called s (load net ducts) = loaded_by s net ducts
called s (ear e) = offered_by s e
called s (ears l) = listed_by s l
called s (close rule) = closed_by rule s
called s bring_over = brought_by s
called s clear = cleared_by s

-- what a call answered, by document 01's values and numbers, and the session it left
abbrev pub load_outcome : Answered (Result Loaded Refusal) → Outcome Session
load_outcome r = record { answer = load_answer r.answer; after = r.session }

abbrev pub ear_outcome : Answered (Result ℕ Refusal) → Outcome Session
ear_outcome r = record { answer = ear_answer r.answer; after = r.session }

abbrev pub ears_outcome : Answered (Result ℕ ListRefusal) → Outcome Session
ears_outcome r = record { answer = ears_answer r.answer; after = r.session }

abbrev pub close_outcome : Answered (Result (Unit {0}) Refusal) → Outcome Session
close_outcome r = record { answer = close_answer r.answer; after = r.session }

abbrev pub bring_outcome : Answered (Result (Unit {0}) Refusal) → Outcome Session
bring_outcome r = record { answer = bring_answer r.answer; after = r.session }

abbrev pub clear_outcome : Session → Outcome Session
clear_outcome r = record { answer = given []; after = r }
