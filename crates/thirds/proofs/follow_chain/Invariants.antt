use Rattle.std.proofs.Common.{◌-◌}
use Rattle.thirds.proofs.Following.{FollowsTo}
use Rattle.thirds.proofs.follow_chain.Given as goal

abbrev pub invariant-loop-h : goal.invariant-loop-h
invariant-loop-h l = FollowsTo l.n l.links l.nexts l.start l.h l.initial.row l.initial.dist l.row l.dist

abbrev pub decreases-loop-h : goal.decreases-loop-h
decreases-loop-h l = l.end - l.h
