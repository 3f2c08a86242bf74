use Rattle.std.proofs.Common.{sym, arith}
use Rattle.zones.proofs.Births.{birth_in_lem}
use Rattle.cutting.proofs.Counting.{counted_begin, counted_le, counted_more}
use Rattle.cutting.proofs.count_births.Goals as goal

pub loop-birth-init : goal.loop-birth-init
loop-birth-init c = counted_begin c.args.births.now c.requires.1

pub overflow_add-entry : goal.overflow_add-entry
overflow_add-entry c = omega (arith, counted_le c.args.births.now _ c.loop-birth.invariant c.entry.ensures)

pub loop-birth-preserved : goal.loop-birth-preserved
loop-birth-preserved c =
    counted_more c.args.births.now c.loop-birth.invariant (sym (birth_in_lem _ _ c.loop-birth-test.true)) c.entry.ensures c.store.ensures
