use Rattle.std.proofs.Common.{sym, ◌∙◌, below_more, arith}
use Rattle.mondschein.proofs.Search.{low_stop, low_none}
use Rattle.shape.proofs.Marks.{marks_begin, marks_more}
use Rattle.shape.proofs.first_repeated_by.Goals as goal

pub loop-k-init : goal.loop-k-init
loop-k-init c = record { marks = marks_begin c.args.ear.now c.args.marks.now c.requires; before = λ j l. absurd (omega arith) }

pub returns-then-among-clause-lowest : goal.returns-then-among-clause-lowest
returns-then-among-clause-lowest c =
    sym (low_stop _ _ c.loop-k.k c.loop-k.invariant.before (omega arith) (sym c.among.ensures ∙ c.if-among.true))

pub loop-k-preserved : goal.loop-k-preserved
loop-k-preserved c = record {
  marks = marks_more c.args.ear.now c.loop-k.k c.loop-k.marks c.loop-k.invariant.marks c.mark.ensures;
  before = below_more _ _ c.loop-k.invariant.before (sym c.among.ensures ∙ c.if-among.false);
}

pub returns-clause-lowest : goal.returns-clause-lowest
returns-clause-lowest c = sym (low_none _ _ (λ j l. c.loop-k.invariant.before j (omega arith)))
