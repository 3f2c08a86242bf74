use Rattle.std.proofs.Common.{◌+◌, ◌*◌, ◌≤◌, map, take}
use Rattle.lines.specs.Writing.{decimal, spaced}
use Rattle.replies.specs.Replies.{Wrote}
use Rattle.replies.proofs.put_spaced.Given as goal

abbrev pub invariant-loop-number : goal.invariant-loop-number
invariant-loop-number l = record {
  short : l.next ≤ l.at + 6 * l.number-index;
  wrote : Wrote l.at (spaced (map decimal (take l.number-index l.numbers))) l.initial.out l.next l.out;
}
