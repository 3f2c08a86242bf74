use Rattle.std.proofs.Common.{◌≡◌, suc}
use Rattle.disjoint.specs.Matching.{unnamed, explored_of, turns}
use Rattle.augmenting.proofs.Searching.{ahead}
use Rattle.augmenting.proofs.turns.Given as goal

abbrev pub invariant-loop-q : goal.invariant-loop-q
invariant-loop-q l =
    turns (unnamed l.n l.links) l.s l.t l.k l.previous (suc l.n) 0 (explored_of l.initial.mark l.initial.heads l.initial.lefts 0) ≡ ahead (unnamed l.n l.links) l.s l.t l.k l.previous l.q (explored_of l.mark l.heads l.lefts l.count)
