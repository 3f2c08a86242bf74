use Rattle.std.proofs.Common.{◌≡◌, ◌-◌, ◌*◌}
use Rattle.mondschein.specs.Network.{size}
use Rattle.network.specs.Load.{table_of}
use Rattle.disjoint.specs.Matching.{explored_of, leave_by}
use Rattle.augmenting.proofs.Searching.{from, Stands}
use Rattle.augmenting.proofs.leave_by.Given as goal

abbrev pub invariant-loop-h : goal.invariant-loop-h
invariant-loop-h l =
    Stands (table_of l.links) l.s l.t l.k l.v l.h
    × (leave_by (table_of l.links) l.s l.t l.k l.v (2 * size (table_of l.links)) 0 (explored_of l.initial.mark l.initial.heads l.initial.lefts l.count) ≡ from (table_of l.links) l.s l.t l.k l.v l.h (explored_of l.mark l.heads l.lefts l.c))

abbrev pub decreases-loop-h : goal.decreases-loop-h
decreases-loop-h l = 2 * l.m - l.h
