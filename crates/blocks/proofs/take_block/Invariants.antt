use Rattle.std.proofs.Common.{◌≤◌, ◌-◌, [], length}
use Rattle.in_place.specs.InPlace.{state_in, IndexedIn}
use Rattle.collect.specs.Answering.{reader_in}
use Rattle.dialogue.proofs.Slices.{Lent}
use Rattle.dialogue.proofs.Blocks.{StandsAt}
use Rattle.blocks.proofs.take_block.Given as goal

abbrev pub invariant-loop-from : goal.invariant-loop-from
invariant-loop-from l = record {
  stands : StandsAt (reader_in l.initial.known l.initial.s l.initial.links l.initial.ducts l.initial.line []) l.block l.known l.s l.links l.ducts l.line l.from;
  within : l.from ≤ length l.block;
  lent : Lent l.initial.line l.initial.numbers l.initial.links l.initial.ducts l.initial.index l.initial.out l.line l.numbers l.links l.ducts l.index l.out;
  indexed : IndexedIn (state_in l.s) l.s.links l.index;
}

abbrev pub decreases-loop-from : goal.decreases-loop-from
decreases-loop-from l = length l.block - l.from
