use Rattle.std.proofs.Common.{◌≡◌, ◌+◌, ◌-◌}
use Rattle.disjoint.specs.Matching.{unnamed, tries}
use Rattle.augmenting.proofs.tries.Given as goal

abbrev pub invariant-loop-k : goal.invariant-loop-k
invariant-loop-k l = tries (unnamed l.n l.links) l.s l.t l.want l.n l.initial.next ≡ tries (unnamed l.n l.links) l.s l.t (l.n + l.want - l.k) l.k l.next
