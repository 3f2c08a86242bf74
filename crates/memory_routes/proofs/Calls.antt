-- Three routes over the memory keep the promises of document 02, Note 8: the memory after any list of calls means the session that they leave.
-- Number 0 is no refusal, and the count of the first walk tells walks from things.
use mathlib.Core.Path.{◌≡◌, refl, sym, ◌∙◌, ap, subst}
use mathlib.Core.Logic.{◌≢◌, ⊎_elim, inl, inr}
use mathlib.Core.List.{List, [], ◌∷◌}
use Prim.Native.Nat.{ℕ, zero, suc, pred, ◌≤◌}
use native.Mathlib.Omega.{arith}
use lib.ListN.{length}
use Rattle.mondschein.specs.Network.{Network, at, In, low, any, holds}
use Rattle.machine.proofs.Implementation.{history_of}
use Rattle.disjoint.specs.Paths.{Walk}
use Rattle.disjoint.specs.Replies.{Reply, counts, things, refusal, Told}
use Rattle.disjoint.proofs.Calls.{routes_through}
use Rattle.session.specs.Program.{session_program}
use Rattle.session.proofs.Implements.{implements as session-implements}
use Rattle.routes.specs.Calls.{between_by}
use Rattle.routes.proofs.Calls.{routes_call}
use Rattle.memory.specs.Memory.{session_at}
use Rattle.memory.specs.Program.{memory_program}
use Rattle.memory.proofs.Program.{meant, implements, not_zero}
use Rattle.memory_routes.specs.Routes.{routed_of, RoutesInMemory, ZeroAnswers, WalksTold}

-- what tells the three replies apart
abbrev kind_of : Reply → ℕ
kind_of (counts a b c) = 1
kind_of (things xs) = 2
kind_of (refusal num place) = 3

no_refusal : {X : Type 0} {r : Reply} {num place k : ℕ} → r ≡ refusal num place → kind_of r ≡ k → k ≢ 3 → X
no_refusal z q n = absurd (n (sym q ∙ ap kind_of z))

same_number : {r : Reply} {num place num' place' : ℕ} → r ≡ refusal num place → r ≡ refusal num' place' → num ≡ num'
unfolding routed_of
same_number q z = ap (λ (r : Reply). (routed_of r).number) (sym q ∙ z)

-- what the session's call promises, the memory's does
pub routes_in_memory : RoutesInMemory
routes_in_memory =
    routes_through session_program memory_program session_at meant
    (λ cs. history_of memory_program implements cs ∙ sym (history_of session_program session-implements cs)) between_by routes_call

-- so number 0 is no refusal
pub zero_answers : ZeroAnswers
unfolding holds any low
zero_answers mem from to out place z =
    ⊎_elim (λ (a, b, c, q, l). no_refusal z (ap kind_of q) (λ (e : ◌≡◌ {A = ℕ} 1 3). absurd (omega arith)))
    (⊎_elim (λ (xs, l, q). no_refusal z (ap (λ (t : Told). kind_of t.reply) q) (λ (e : ◌≡◌ {A = ℕ} 2 3). absurd (omega arith)))
    (λ (num, i, q). not_zero (18 ∷ 19 ∷ 26 ∷ []) (subst (In (18 ∷ 19 ∷ 26 ∷ [])) (same_number (ap (λ (t : Told). t.reply) q) z) i) refl))
    (routes_in_memory.demand1 mem from to out)

-- a walk between two switches that are not the same has two numbers or more
two_ends : (net : Network) (from to : ℕ) (w : List ℕ) → from ≢ to → Walk net from to w → 2 ≤ length w
two_ends net from to w n p = more (length w) refl
  where
    more : (k : ℕ) → length w ≡ k → 2 ≤ k
    more zero e = let some = p.some in absurd (omega arith)
    more (suc zero) e = absurd (n (sym p.from ∙ ap (λ (k : ℕ). at w (pred k)) (sym e) ∙ p.to))
    more (suc (suc k)) e = omega arith

pub walks_told : WalksTold
unfolding routed_of
walks_told net from to out t n =
    ⊎_elim (λ (w₁, w₂, w₃, p, q, l). inl (
      subst (λ (r : Reply). 2 ≤ (routed_of r).walk1) (sym q) (two_ends net from to w₁ n p.path₁.over),
      (length w₁, length w₂, length w₃, q),
    )) (λ (none, (xs, p, q, l)). inr (ap (λ (r : Reply). (routed_of r).walk1) q, (xs, q)))
