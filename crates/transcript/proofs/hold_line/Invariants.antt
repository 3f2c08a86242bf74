use Rattle.std.proofs.Common.{◌≡◌, ◌+◌, length, take, drop}
use Rattle.transcript.specs.Transcript.{held_line}
use Rattle.transcript.proofs.hold_line.Given as goal

abbrev pub invariant-loop-i : goal.invariant-loop-i
invariant-loop-i l = record {
  whole : length l.line ≡ 6145;
  same_line : held_line (take l.held l.initial.line) (drop l.from l.block) ≡ held_line (take l.count l.line) (drop (l.from + l.i) l.block);
}
