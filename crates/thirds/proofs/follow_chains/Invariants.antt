use Rattle.std.proofs.Common.{◌-◌, length}
use Rattle.thirds.specs.Nearing.{FollowsChains}
use Rattle.thirds.proofs.follow_chains.Given as goal

abbrev pub invariant-loop-head : goal.invariant-loop-head
invariant-loop-head l =
    FollowsChains l.n l.links l.heads l.nexts (1024 - length l.yielded) l.initial.row l.initial.dist l.row l.dist
