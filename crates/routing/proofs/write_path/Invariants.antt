use Rattle.std.proofs.Common.{◌≡◌, ◌+◌, ◌-◌, ◌≤◌, length}
use Rattle.std.proofs.lemmas.List.Edits.{sets}
use Rattle.mondschein.specs.Network.{at}
use Rattle.mondschein.specs.Order.{walk_by}
use Rattle.routing.proofs.write_path.Given as goal

abbrev pub invariant-loop : goal.invariant-loop
invariant-loop l =
    (l.i + (l.n - l.counter) ≤ l.initial.i + l.n) × (sets l.initial.out l.initial.i (walk_by l.t (at l.next) l.n l.initial.v) ≡ sets l.out l.i (walk_by l.t (at l.next) (l.n - l.counter) l.v)) × (l.initial.i + length (walk_by l.t (at l.next) l.n l.initial.v) ≡ l.i + length (walk_by l.t (at l.next) (l.n - l.counter) l.v))
