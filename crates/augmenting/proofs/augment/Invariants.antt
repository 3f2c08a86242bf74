use Rattle.std.proofs.Common.{◌≡◌}
use Rattle.disjoint.specs.Matching.{augment}
use Rattle.augmenting.proofs.augment.Given as goal

abbrev pub invariant-loop-j : goal.invariant-loop-j
invariant-loop-j l = augment l.k l.heads l.lefts l.count l.initial.next l.t ≡ augment l.k l.heads l.lefts l.j l.next l.w
