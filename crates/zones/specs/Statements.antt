-- The statements of document 02, Note 4: of every Mondschein sequence, and of any program that has the call, demand 1 on any session and what
-- the note promises after every list of calls. Proofs: proofs/Zones.antt, proofs/Calls.antt.
use Rattle.std.specs.Prelude.{◌≡◌, ◌⊎◌, ◌↔◌, List, [], ◌∷◌, ℕ, ◌≤◌, ◌<◌, length, drop}
use Rattle.mondschein.specs.Network.{Network, at, In, Proper, Ears, long_birth}
use Rattle.mondschein.specs.Judge.{given, refused}
use Rattle.mondschein.specs.Outcome.{Outcome}
use Rattle.mondschein.specs.Order.{order}
use Rattle.mondschein.specs.Mondschein.{Mondschein}
use Rattle.machine.specs.Machine.{Plan, Closed, empty, opened, closed, Call, Program, history, session}
use Rattle.zones.specs.Zoning.{Sizes, Zoning}
use Rattle.zones.specs.Cut.{zones_by}

-- the zones found from the order of a Mondschein sequence, and from births numbered as by its long ears, are as the note says, for all sizes
abbrev pub Zones : Type 0
Zones = (net : Network) (es : Ears) → Proper net → Mondschein net es → (b : ℕ → ℕ) → ((v : ℕ) → v < net.n → b v ≡ long_birth es v)
    → (n₁ n₂ n₃ : ℕ) → Sizes net.n n₁ n₂ n₃ → Zoning net n₁ n₂ n₃ (at (zones_by net.n (order es) b n₁ n₂ net.n))

-- a program with the call: the zones of n₁, n₂ and n₃ switches into the slice `out`, what it answers and the slice after it; and N of a
-- session
module _ (prog : Program) (switches : prog.Session → ℕ) (zones : prog.Session → ℕ → ℕ → ℕ → List ℕ → Outcome (List ℕ)) where
  -- the call after the calls cs
  abbrev pub zones_after : List Call → ℕ → ℕ → ℕ → List ℕ → Outcome (List ℕ)
  zones_after cs = zones (session prog cs)

  pub record ZonesCall : Type 0 where
    -- demand 1, on any session and any arguments: it succeeds and leaves the slice past N places; or it gives one of four refusals, at place
    -- 0, and leaves the slice
    pub demand1 : (s : prog.Session) (n₁ n₂ n₃ : ℕ) (out : List ℕ)
        → (((zones s n₁ n₂ n₃ out).answer ≡ given []) × (drop (switches s) (zones s n₁ n₂ n₃ out).after ≡ drop (switches s) out))
        ⊎ ((num : ℕ) × (zones s n₁ n₂ n₃ out ≡ record { answer = refused num 0; after = out }) × In (18 ∷ 19 ∷ 21 ∷ 24 ∷ []) num)
    -- after any list of calls, by its history: the refusals from the state
    pub on_empty : (cs : List Call) → history prog cs ≡ empty → (n₁ n₂ n₃ : ℕ) (out : List ℕ) → (zones_after cs n₁ n₂ n₃ out).answer ≡ refused 19 0
    pub on_open : (cs : List Call) (p : Plan) → history prog cs ≡ opened p → (n₁ n₂ n₃ : ℕ) (out : List ℕ) → (zones_after cs n₁ n₂ n₃ out).answer ≡ refused 21 0
    -- on a closed session 24 is told exactly of sizes with a zero or a wrong sum
    pub wrong : (cs : List Call) (p : Closed) → history prog cs ≡ closed p → (n₁ n₂ n₃ : ℕ) (out : List ℕ)
        → ((zones_after cs n₁ n₂ n₃ out).answer ≡ refused 24 0) ↔ (Sizes p.net.n n₁ n₂ n₃ → ⊥)
    -- then 18 of a slice that is shorter than N
    pub too_short : (cs : List Call) (p : Closed) → history prog cs ≡ closed p → (n₁ n₂ n₃ : ℕ) (out : List ℕ)
        → Sizes p.net.n n₁ n₂ n₃ → length out < p.net.n → (zones_after cs n₁ n₂ n₃ out).answer ≡ refused 18 0
    -- and with room for N it succeeds: the first N places are the zones, by switch number, and the rest is left
    pub zoned : (cs : List Call) (p : Closed) → history prog cs ≡ closed p → (n₁ n₂ n₃ : ℕ) (out : List ℕ)
        → Sizes p.net.n n₁ n₂ n₃ → p.net.n ≤ length out → let r = zones_after cs n₁ n₂ n₃ out in
        (r.answer ≡ given []) × Zoning p.net n₁ n₂ n₃ (at r.after) × (drop p.net.n r.after ≡ drop p.net.n out)
