-- A program that keeps the promises of the zones call, and another whose sessions stand for its sessions: where the same lists of calls lead
-- to sessions that stand for each other, with the same history, the other keeps them too.
use mathlib.Core.Path.{◌≡◌, sym, ap, ◌∙◌, subst}
use mathlib.Core.Logic.{◌↔◌}
use mathlib.Core.List.{List, []}
use Prim.Native.Nat.{ℕ}
use lib.ListN.{drop}
use Rattle.mondschein.specs.Network.{at}
use Rattle.mondschein.specs.Judge.{given, refused}
use Rattle.mondschein.specs.Outcome.{Outcome}
use Rattle.machine.specs.Machine.{Call, Program, history, session}
use Rattle.zones.specs.Zoning.{Sizes, Zoning}
use Rattle.zones.specs.Statements.{ZonesCall}

pub zones_through : (prog other : Program) (means : other.Session → prog.Session) → ((cs : List Call) → means (session other cs) ≡ session prog cs)
    → ((cs : List Call) → history other cs ≡ history prog cs) → (switches : prog.Session → ℕ) (zones : prog.Session → ℕ → ℕ → ℕ → List ℕ → Outcome (List ℕ))
    → ZonesCall prog switches zones → ZonesCall other (λ s. switches (means s)) (λ s. zones (means s))
zones_through prog other means meant same switches zones Z =
    record {
      demand1 = λ s. Z.demand1 (means s);
      on_empty = λ cs h n₁ n₂ n₃ out. ap (λ (s : prog.Session). (zones s n₁ n₂ n₃ out).answer) (meant cs) ∙ Z.on_empty cs (sym (same cs) ∙ h) n₁ n₂ n₃ out;
      on_open = λ cs p h n₁ n₂ n₃ out. ap (λ (s : prog.Session). (zones s n₁ n₂ n₃ out).answer) (meant cs) ∙ Z.on_open cs p (sym (same cs) ∙ h) n₁ n₂ n₃ out;
      wrong = λ cs p h n₁ n₂ n₃ out.
          subst (λ (s : prog.Session). ((zones s n₁ n₂ n₃ out).answer ≡ refused 24 0) ↔ (Sizes p.net.n n₁ n₂ n₃ → ⊥)) (sym (meant cs))
          (Z.wrong cs p (sym (same cs) ∙ h) n₁ n₂ n₃ out);
      too_short = λ cs p h n₁ n₂ n₃ out S l.
          ap (λ (s : prog.Session). (zones s n₁ n₂ n₃ out).answer) (meant cs) ∙ Z.too_short cs p (sym (same cs) ∙ h) n₁ n₂ n₃ out S l;
      zoned = λ cs p h n₁ n₂ n₃ out S l.
          subst
          (λ (s : prog.Session). ((zones s n₁ n₂ n₃ out).answer ≡ given []) × Zoning p.net n₁ n₂ n₃ (at (zones s n₁ n₂ n₃ out).after)
          × (drop p.net.n (zones s n₁ n₂ n₃ out).after ≡ drop p.net.n out))
          (sym (meant cs)) (Z.zoned cs p (sym (same cs) ∙ h) n₁ n₂ n₃ out S l);
    }
