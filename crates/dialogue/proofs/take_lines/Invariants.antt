use Rattle.std.proofs.Common.{◌-◌, length}
use Rattle.in_place.specs.InPlace.{state_in, IndexedIn}
use Rattle.dialogue.proofs.Slices.{Lent}
use Rattle.dialogue.proofs.Blocks.{Reached}
use Rattle.dialogue.proofs.take_lines.Given as goal

abbrev pub invariant-loop-next : goal.invariant-loop-next
invariant-loop-next l = record {
  reached : Reached l.initial.reader l.initial.s l.initial.links l.initial.ducts l.initial.line l.block l.initial.next l.initial.out l.reader l.s l.links l.ducts l.line l.next l.out l.written;
  lent : Lent l.initial.line l.initial.numbers l.initial.links l.initial.ducts l.initial.index l.initial.out l.line l.numbers l.links l.ducts l.index l.out;
  indexed : IndexedIn (state_in l.s) l.s.links l.index;
}

abbrev pub decreases-loop-next : goal.decreases-loop-next
decreases-loop-next l = length l.block - l.next
