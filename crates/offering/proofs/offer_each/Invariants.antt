use Rattle.std.proofs.Common.{◌≡◌, length}
use Rattle.in_place.specs.InPlace.{session_in}
use Rattle.offering.proofs.Lists.{Reaches}
use Rattle.offering.proofs.offer_each.Given as goal

abbrev pub invariant-loop-switches : goal.invariant-loop-switches
invariant-loop-switches l =
    record {
      reaches : Reaches l.list
          (λ ducts tree3. session_in l.initial.st l.links ducts l.initial.used l.initial.births l.initial.order l.initial.tree1 l.initial.tree2 tree3)
          (λ ducts tree3. session_in l.st l.links ducts l.used l.births l.order l.tree1 l.tree2 tree3) l.accepted l.rest;
      same_m : l.st.m ≡ l.initial.st.m;
    }

abbrev pub decreases-loop-switches : goal.decreases-loop-switches
decreases-loop-switches l = length l.rest
