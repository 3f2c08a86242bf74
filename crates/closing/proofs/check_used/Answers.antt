use Rattle.std.proofs.Common.{sym, ap, not, arith, below_more}
use Rattle.mondschein.specs.Network.{size}
use Rattle.mondschein.specs.Judge.{closing}
use Rattle.mondschein.proofs.Search.{low_stop}
use Rattle.mondschein.proofs.Checks.{check_hit, check_pass}
use Rattle.rows.proofs.Rows.{marked_hit, marked_miss}
use Rattle.closing.proofs.check_used.Goals as goal

pub returns-then-mark_at-eq0 : goal.returns-then-mark_at-eq0
unfolding closing size
returns-then-mark_at-eq0 c =
    sym (check_hit 23 _ _ _ (sym (low_stop _ _ _ c.loop-i.invariant c.loop-i-test.true (ap not (marked_miss c.mark_at.ensures (omega arith))))) c.loop-i-test.true)

pub loop-i-preserved : goal.loop-i-preserved
loop-i-preserved c = below_more _ _ c.loop-i.invariant (ap not (marked_hit c.mark_at.ensures (omega arith)))

pub returns : goal.returns
unfolding closing size
returns c = sym (check_pass 23 _ _ _ (λ k l. c.loop-i.invariant k (omega arith)))
