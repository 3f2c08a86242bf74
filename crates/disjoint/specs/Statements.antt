-- The statements of document 02, Note 8, of any program that has the call: demand 1 on any session, and what the note promises after every
-- list of calls. Those of the answer alone are in Paths.antt and Replies.antt. Proofs: proofs/Answering.antt, proofs/Promising.antt, and of the session in
-- Rattle.routes.proofs.Calls.
use Rattle.std.specs.Prelude.{◌≡◌, ◌⊎◌, List, [], ◌∷◌, ℕ, ◌+◌, ◌≤◌, length, drop}
use Rattle.mondschein.specs.Network.{In}
use Rattle.mondschein.specs.Routes.{Thing}
use Rattle.machine.specs.Machine.{Plan, Closed, empty, opened, closed, Call, Program, history, session}
use Rattle.disjoint.specs.Replies.{counts, things, Told, refusing, Promised}

-- a call ends with the counts of three walks, and leaves the slice past them; with at most two things, and leaves the slice; or with one of
-- three refusals, at place 0, and leaves the slice
abbrev pub Ends : List ℕ → Told → Type 0
Ends out r =
    ((a b c : ℕ) × (r.reply ≡ counts a b c) × (drop (a + b + c) r.after ≡ drop (a + b + c) out))
    ⊎ (((xs : List Thing) × (length xs ≤ 2) × (r ≡ record { reply = things xs; after = out }))
    ⊎ ((num : ℕ) × In (18 ∷ 19 ∷ 26 ∷ []) num × (r ≡ refusing num out)))

-- a program with the call: three routes between the switches a and b into the slice `out`, what it replies and the slice after it
module _ (prog : Program) (routes : prog.Session → ℕ → ℕ → List ℕ → Told) where
  pub record RoutesCall : Type 0 where
    -- demand 1, on any session and any arguments
    pub demand1 : (s : prog.Session) (a b : ℕ) (out : List ℕ) → Ends out (routes s a b out)
    -- after any list of calls, by its history: 19 where nothing is loaded, else what Note 8 says of the network that is loaded
    pub on_empty : (cs : List Call) → history prog cs ≡ empty → (a b : ℕ) (out : List ℕ) → routes (session prog cs) a b out ≡ refusing 19 out
    pub on_open : (cs : List Call) (p : Plan) → history prog cs ≡ opened p → (a b : ℕ) (out : List ℕ) → Promised p.net a b out (routes (session prog cs) a b out)
    pub on_closed : (cs : List Call) (p : Closed) → history prog cs ≡ closed p → (a b : ℕ) (out : List ℕ) → Promised p.net a b out (routes (session prog cs) a b out)
