use Rattle.in_place.specs.InPlace.{state_in, IndexedIn}
use Rattle.dialogue.proofs.Slices.{Lent}
use Rattle.dialogue.specs.Taking.{Led}
use Rattle.threeways.proofs.run.Given as goal

abbrev pub invariant-loop-turn : goal.invariant-loop-turn
invariant-loop-turn l = record {
  led : Led l.known l.s l.links l.ducts l.line;
  lent : Lent l.initial.line l.initial.numbers l.initial.links l.initial.ducts l.initial.index l.initial.out l.line l.numbers l.links l.ducts l.index l.out;
  indexed : IndexedIn (state_in l.s) l.s.links l.index;
}
