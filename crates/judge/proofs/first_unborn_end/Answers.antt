use Rattle.std.proofs.Common.{arith}
use Rattle.rows.specs.Rows.{marked}
use Rattle.rows.proofs.Rows.{marked_hit, marked_miss}
use Rattle.judge.proofs.Place.{ends_first, ends_last, ends_none}
use Rattle.judge.proofs.first_unborn_end.Goals as goal

pub returns-then-entry-eq0-clause-lowest : goal.returns-then-entry-eq0-clause-lowest
returns-then-entry-eq0-clause-lowest c =
    ends_first c.args.ear.now (marked c.args.births.now) c.requires (marked_miss c.entry.ensures (omega arith))

pub returns-then-entry-eq0-2-clause-lowest : goal.returns-then-entry-eq0-2-clause-lowest
returns-then-entry-eq0-2-clause-lowest c =
    ends_last c.args.ear.now (marked c.args.births.now) c.requires (marked_hit c.entry.ensures (omega arith))
    (marked_miss c.entry-else-entry-eq0.ensures (omega arith))

pub returns-else-entry-eq0-2-clause-lowest : goal.returns-else-entry-eq0-2-clause-lowest
returns-else-entry-eq0-2-clause-lowest c =
    ends_none c.args.ear.now (marked c.args.births.now) c.requires (marked_hit c.entry.ensures (omega arith))
    (marked_hit c.entry-else-entry-eq0.ensures (omega arith))
