-- The routes call of a session keeps the promises of document 02, Note 8: demand 1 on any session, and after every list of calls what the
-- note says of the network that is loaded.
use mathlib.Core.Path.{◌≡◌, refl, sym, ap, ◌∙◌, subst}
use mathlib.Core.Logic.{inr}
use mathlib.Core.List.{List}
use Prim.Native.Nat.{ℕ}
use native.Mathlib.Omega.{arith}
use Rattle.mondschein.specs.Network.{Network, Proper}
use Rattle.machine.specs.Machine.{State, empty, opened, closed, Call, history}
use Rattle.machine.proofs.History.{Reached, reached}
use Rattle.machine.proofs.Implementation.{history_of}
use Rattle.in_place.specs.declared.Stage.{Stage}
use Rattle.in_place.specs.declared.Stage.TheVariants as Stage·
use Rattle.in_place.specs.declared.Session.{Session}
use Rattle.in_place.specs.Session.{network_in}
use Rattle.session.specs.Program.{session_program}
use Rattle.session.specs.Refinement.{session_after}
use Rattle.session.proofs.Implements.{implements, state_held}
use Rattle.disjoint.specs.Replies.{routes_into, Promised}
use Rattle.disjoint.specs.Statements.{Ends, RoutesCall}
use Rattle.disjoint.proofs.Promising.{into_ends, promise}
use Rattle.routes.specs.Calls.{links_as, between_by}
use Rattle.routes.proofs.Answers.{between_empty, between_open, between_closed, held_routes}

-- on any session
ends : (s : Session) (a b : ℕ) (out : List ℕ) (t : Stage) → s.stage ≡ t → Ends out (between_by s a b out)
ends s a b out Stage·.Empty q = inr (inr (19, (1, omega arith, refl), between_empty s a b out q))
ends s a b out Stage·.Open q = subst (Ends out) (sym (between_open s a b out q)) (into_ends (links_as s.n s.m s.links) a b out)
ends s a b out Stage·.Closed q = subst (Ends out) (sym (between_closed s a b out q)) (into_ends (links_as s.n s.m s.links) a b out)

-- after a list of calls: the network that is loaded is proper, and the session holds it
reached_by : (cs : List Call) (st : State) → history session_program cs ≡ st → Reached st
reached_by cs st h = subst Reached (sym (history_of session_program implements cs) ∙ h) (reached cs)

module _ (cs : List Call) (net : Network) (proper : Proper net) (q : network_in (session_after cs) ≡ net) (a b : ℕ) (out : List ℕ) where
  abbrev s : Session
  s = session_after cs

  held : between_by s a b out ≡ routes_into (links_as s.n s.m s.links) a b out → Promised net a b out (between_by s a b out)
  held e = subst (Promised net a b out) (sym (e ∙ held_routes s net q proper a b out)) (promise net proper a b out)

pub routes_call : RoutesCall session_program between_by
unfolding Reached
routes_call =
    record {
      demand1 = λ s a b out. ends s a b out s.stage refl;
      on_empty = λ cs h a b out. between_empty (session_after cs) a b out (ap (λ (s : Session). s.stage) (state_held cs empty h));
      on_open = λ cs p h a b out.
          let (stage, holds, _) = state_held cs (opened p) h in
          held cs p.net (reached_by cs (opened p) h).0 holds.stored.network a b out (between_open (session_after cs) a b out stage);
      on_closed = λ cs p h a b out.
          let (stage, holds, _, _) = state_held cs (closed p) h in
          held cs p.net (reached_by cs (closed p) h).0.0 holds.stored.network a b out (between_closed (session_after cs) a b out stage);
    }
