-- A program that keeps the promises of the routes call, and another whose sessions stand for its sessions: where the same lists of calls lead
-- to sessions that stand for each other, with the same history, the other keeps them too.
use mathlib.Core.Path.{◌≡◌, sym, ap, ◌∙◌, subst}
use mathlib.Core.List.{List}
use Prim.Native.Nat.{ℕ}
use Rattle.machine.specs.Machine.{Call, Program, history, session}
use Rattle.disjoint.specs.Replies.{Told, Promised}
use Rattle.disjoint.specs.Statements.{RoutesCall}

pub routes_through : (prog other : Program) (means : other.Session → prog.Session) → ((cs : List Call) → means (session other cs) ≡ session prog cs)
    → ((cs : List Call) → history other cs ≡ history prog cs) → (routes : prog.Session → ℕ → ℕ → List ℕ → Told)
    → RoutesCall prog routes → RoutesCall other (λ s. routes (means s))
routes_through prog other means meant same routes R =
    record {
      demand1 = λ s. R.demand1 (means s);
      on_empty = λ cs h a b out. ap (λ (s : prog.Session). routes s a b out) (meant cs) ∙ R.on_empty cs (sym (same cs) ∙ h) a b out;
      on_open = λ cs p h a b out.
          subst (λ (s : prog.Session). Promised p.net a b out (routes s a b out)) (sym (meant cs)) (R.on_open cs p (sym (same cs) ∙ h) a b out);
      on_closed = λ cs p h a b out.
          subst (λ (s : prog.Session). Promised p.net a b out (routes s a b out)) (sym (meant cs)) (R.on_closed cs p (sym (same cs) ∙ h) a b out);
    }
