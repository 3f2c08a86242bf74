-- The memory of struct threeways_session is the session to whoever calls: after any list of calls from zeros it is the memory of the session
-- that the same calls leave. So the statements of Demands.antt hold of it, and those of the zones call.
use mathlib.Core.Path.{◌≡◌, refl, sym, ap, ◌∙◌, subst}
use mathlib.Core.Bool.{false}
use mathlib.Core.Logic.{⊎_elim, inl, inr}
use mathlib.Core.List.{List, [], ◌∷◌, foldl}
use Prim.Native.Nat.{ℕ}
use native.Mathlib.Omega.{arith}
use lib.ListN.{length}
use Rattle.mondschein.specs.Network.{In, low, any, holds, ear_at}
use Rattle.mondschein.specs.Judge.{Answer, refused}
use Rattle.mondschein.specs.Outcome.{Outcome, settle}
use Rattle.mondschein.specs.WholeList.{next_refused, ears_in}
use Rattle.mondschein.proofs.Logic.{clash}
use Rattle.mondschein.proofs.Lists.{in_holds}
use Rattle.mondschein.proofs.Checks.{never}
use Rattle.mondschein.proofs.Outcomes.{settle_refused, settle_given}
use Rattle.mondschein.proofs.WholeList.{given_values, offering_given, offering_alike}
use Rattle.machine.specs.Machine.{Call, load, ear, ears, close, bring_over, clear, session}
use Rattle.machine.specs.Demands.{Refusal, offer_by, Demand1, OneByOne, Promises}
use Rattle.machine.proofs.OneByOne.{Leaves, lists_of}
use Rattle.machine.proofs.Implementation.{Implements, history_of, promises_of}
use Rattle.in_place.specs.declared.Stage.{Stage}
use Rattle.in_place.specs.declared.Stage.TheVariants.{Empty, Open, Closed}
use Rattle.in_place.specs.declared.Session.{Session}
use Rattle.in_place.specs.Session.{empty_session, offered_by, listed_by}
use Rattle.in_place.specs.Queries.{parent_by, walked_by}
use Rattle.in_place.specs.InPlace.{session_in}
use Rattle.session.specs.Calls.{called}
use Rattle.session.specs.Program.{kept_order, size_in, duct_in, session_program}
use Rattle.session.proofs.Refuses.{refuses}
use Rattle.session.proofs.Demand1.{ducts_ignored_lem, demand1 as session-demand1}
use Rattle.session.proofs.Implements.{implements as session-implements}
use Rattle.zones.proofs.Calls.{zones_through}
use Rattle.zoning.specs.Zoning.{zoned_by}
use Rattle.zoning.proofs.Calls.{zones_call}
use Rattle.memory.specs.Memory.{Memory, stage_of, stage_number, session_at, memory_of, in_memory, refusal_of, end_of}
use Rattle.memory.specs.Program.{single_in, called_in, memory_program, Keeps, ZeroSucceeds, ZonesInMemory}

-- the memory of a session means that session
stage_kept : (x : Stage) → stage_of (stage_number x) ≡ x
unfolding stage_of stage_number
stage_kept Empty = refl
stage_kept Open = refl
stage_kept Closed = refl

pub keeps : Keeps
keeps s =
    ap (λ (x : Stage). session_in (record { stage = x; n = s.n; m = s.m; root = s.root; first = s.first; last = s.last; longs = s.longs; born = s.born }) s.links s.ducts s.used s.births s.order s.tree1 s.tree2 s.tree3)
    (stage_kept s.stage)

-- a list of ears is taken as its ears one after another
pub one_by_one_lem : OneByOne memory_program
unfolding called_in
one_by_one_lem mem l = refl

-- one call that is no list: where it is refused it leaves the memory; and it does to the memory of a session what it does to the session
single_leaves : (mem : Memory) (c : Call) → let o = single_in mem c in Leaves (size_in (session_at mem)) c mem o.answer o.after
unfolding in_memory settle
single_leaves mem c =
    ⊎_elim inl (λ (num, place, q, r, e). inr (num, place, q, r, ap (λ (o : Outcome Memory). o.after) (settle_refused mem _ q))) (session-demand1.calls (session_at mem) c)

single : (s : Session) (c : Call) → let o = single_in (memory_of s) c in (o.after ≡ memory_of (called s c).after) × (o.answer ≡ (called s c).answer)
unfolding in_memory settle
single s c = (
  ap (λ (x : Session). (in_memory (memory_of s) (called x c)).after) (keeps s)
      ∙ ⊎_elim (λ (vs, q). ap (λ (o : Outcome Memory). o.after) (settle_given (memory_of s) _ q))
      (λ (num, place, q, r, e). ap (λ (o : Outcome Memory). o.after) (settle_refused (memory_of s) _ q) ∙ sym (ap memory_of e)) (refuses s c),
  ap (λ (x : Session). (called x c).answer) (keeps s),
)

-- one call, and a list of calls
one_call : (c : Call) (s : Session) → ((called_in (memory_of s) c).after ≡ memory_of (called s c).after) × ((called_in (memory_of s) c).answer ≡ (called s c).answer)
unfolding called_in called listed_by
one_call (load net ducts) s = single s (load net ducts)
one_call (ear e) s = single s (ear e)
one_call (ears l) s =
    offering_alike (offer_by memory_program) offered_by (λ mem s. mem ≡ memory_of s)
    (λ mem s e q.
    let (x, y) = single s (ear e) in
    (ap (λ (mem : Memory). (called_in mem (ear e)).after) q ∙ x, ap (λ (mem : Memory). (called_in mem (ear e)).answer) q ∙ y)) 0 (memory_of s) s (ears_in l) refl
one_call (close rule) s = single s (close rule)
one_call bring_over s = single s bring_over
one_call clear s = single s clear

calls_from : (cs : List Call) (s : Session) → foldl memory_program.after (memory_of s) cs ≡ memory_of (foldl session_program.after s cs)
calls_from [] s = refl
calls_from (c ∷ cs) s = ap (λ (mem : Memory). foldl memory_program.after mem cs) (one_call c s).0 ∙ calls_from cs (called s c).after

-- the memory after a list of calls, and the session that it means
left : (cs : List Call) → session memory_program cs ≡ memory_of (session session_program cs)
unfolding stage_number
left cs = calls_from cs empty_session

pub meant : (cs : List Call) → session_at (session memory_program cs) ≡ session session_program cs
meant cs = ap session_at (left cs) ∙ keeps (session session_program cs)

pub implements : Implements memory_program
implements cs =
    let like = session-implements cs in
    record {
      calls = λ c. ap (λ (mem : Memory). (called_in mem c).answer) (left cs) ∙ (one_call c (session session_program cs)).1 ∙ like.calls c;
      parents = λ v t. ap (λ (s : Session). parent_by s v t) (meant cs) ∙ like.parents v t;
      walks = λ v t out. ap (λ (s : Session). walked_by s v t out) (meant cs) ∙ like.walks v t out;
      orders = ap kept_order (meant cs) ∙ like.orders;
      sizes = ap size_in (meant cs) ∙ like.sizes;
      ducts = λ i. ap (λ (s : Session). duct_in s i) (meant cs) ∙ like.ducts i;
    }

-- a refused call leaves the memory, and a list is never refused
leaves : (mem : Memory) (c : Call) → Leaves (size_in (session_at mem)) c mem (called_in mem c).answer (called_in mem c).after
unfolding called_in
leaves mem (load net ducts) = single_leaves mem (load net ducts)
leaves mem (ear e) = single_leaves mem (ear e)
leaves mem (ears l) = inl (offering_given (offer_by memory_program) 0 mem (ears_in l))
leaves mem (close rule) = single_leaves mem (close rule)
leaves mem bring_over = single_leaves mem bring_over
leaves mem clear = single_leaves mem clear

demand1 : Demand1 memory_program
demand1 =
    record {
      calls = leaves;
      parents = λ mem. session-demand1.parents (session_at mem);
      walks = λ mem. session-demand1.walks (session_at mem);
      lists = lists_of memory_program leaves one_by_one_lem;
    }

-- so the memory keeps every promise
pub promises : Promises memory_program
unfolding called_in in_memory settle
promises = promises_of memory_program implements demand1 one_by_one_lem (λ mem. ducts_ignored_lem (session_at mem))

-- and so do its zones
pub zones_in_memory : ZonesInMemory
zones_in_memory =
    zones_through session_program memory_program session_at meant
    (λ cs. history_of memory_program implements cs ∙ sym (history_of session_program session-implements cs)) (λ s. s.n) zoned_by zones_call

-- number 0 is no refusal
pub not_zero : {X : Type 0} (nums : List ℕ) → In nums 0 → holds nums 0 ≡ false → X
not_zero nums i n = clash (in_holds nums 0 i) n

no_zero : (m place : ℕ) (c : Call) → Refusal m c 0 place → ⊥
unfolding holds any low
no_zero m place (load net ducts) = ⊎_elim (λ (i, l). not_zero (1 ∷ 5 ∷ 6 ∷ 20 ∷ []) i refl) (λ (i, l). not_zero (2 ∷ 3 ∷ 4 ∷ []) i refl)
no_zero m place (ear e) =
    ⊎_elim (λ (i, l). not_zero (7 ∷ 12 ∷ 19 ∷ 22 ∷ []) i refl)
    (⊎_elim (λ (i, l). not_zero (10 ∷ 11 ∷ []) i refl) (λ (i, l). not_zero (8 ∷ 9 ∷ 13 ∷ 14 ∷ 15 ∷ 16 ∷ []) i refl))
no_zero m place (ears l) = λ x. x
no_zero m place (close rule) = ⊎_elim (λ (i, l). not_zero (19 ∷ 22 ∷ []) i refl) (λ (i, l). not_zero (23 ∷ []) i refl)
no_zero m place bring_over = λ (i, l). not_zero (19 ∷ 21 ∷ []) i refl
no_zero m place clear = λ x. x

pub same_number : (num place place' : ℕ) {a : Answer} → a ≡ refused num place → a ≡ refused 0 place' → num ≡ 0
unfolding refusal_of
same_number num place place' q z = ap (λ (a : Answer). (refusal_of a).number) (sym q ∙ z)

-- so the second value of a list, the number of an ear's refusal, is not 0
no_zero_ear : (mem : Memory) (l : List ℕ) (k place : ℕ) → (called_in mem (ears l)).answer ≡ next_refused k 0 place → ⊥
unfolding end_of
no_zero_ear mem l k place z =
    ⊎_elim (λ (q, after). let n : ◌≡◌ {A = ℕ} 1 3 = ap (λ (vs : List ℕ). length vs) (given_values (sym q ∙ z)) in absurd (omega arith))
    (λ (j, num, place', h, q, r, after). no_zero 0 place' (ear (ear_at (ears_in l) j)) (subst (λ (n : ℕ). Refusal 0 (ear (ear_at (ears_in l) j)) n place') (ap (λ (a : Answer). (end_of a).number) (sym q ∙ z)) r))
    (demand1.lists mem l)

pub zero_succeeds : ZeroSucceeds
unfolding holds any low
zero_succeeds =
    record {
      calls = λ mem c place z.
          ⊎_elim (λ (vs, q). never (sym z ∙ q))
          (λ (num, place', q, r, e). no_zero _ place' c (subst (λ (k : ℕ). Refusal _ c k place') (same_number num place' place q z) r)) (demand1.calls mem c);
      lists = no_zero_ear;
      parents = λ mem v t place z.
          ⊎_elim (λ (x, q). never (sym z ∙ q)) (λ (num, q, i). not_zero (17 ∷ 19 ∷ 21 ∷ []) (subst (In (17 ∷ 19 ∷ 21 ∷ [])) (same_number num 0 place q z) i) refl)
          (demand1.parents mem v t);
      walks = λ mem v t out place z.
          ⊎_elim (λ (k, q, l). never (sym z ∙ q))
          (λ (num, q, i). not_zero (17 ∷ 18 ∷ 19 ∷ 21 ∷ [])
          (subst (In (17 ∷ 18 ∷ 19 ∷ 21 ∷ [])) (same_number num 0 place (ap (λ (o : Outcome (List ℕ)). o.answer) q) z) i) refl)
          (demand1.walks mem v t out);
      zones = λ mem n₁ n₂ n₃ out place z.
          ⊎_elim (λ (q, l). never (sym z ∙ q))
          (λ (num, q, i). not_zero (18 ∷ 19 ∷ 21 ∷ 24 ∷ [])
          (subst (In (18 ∷ 19 ∷ 21 ∷ 24 ∷ [])) (same_number num 0 place (ap (λ (o : Outcome (List ℕ)). o.answer) q) z) i) refl)
          (zones_in_memory.demand1 mem n₁ n₂ n₃ out);
    }
