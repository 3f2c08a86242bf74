-- What a function for C gives back and leaves, by what the call in place answered: refused for its arrays, refused by the call, or granted.
-- The session that the call left, and the numbers that were written, make the memory after it.
use mathlib.Core.Path.{◌≡◌, refl, sym, ap, ◌∙◌, subst}
use mathlib.Core.Logic.{◌≢◌}
use mathlib.Core.Bool.{Bool, true, false, not, cond}
use mathlib.Core.List.{List, []}
use Prim.Native.Nat.{ℕ}
use native.Mathlib.Omega.{arith}
use lib.Dec.{eqb}
use lib.ListN.{length}
use borrow.Author.Tests.{eqb-true, not-false}
use Rattle.mondschein.specs.Network.{Network}
use Rattle.mondschein.specs.Judge.{Answer, given, refused}
use Rattle.mondschein.specs.Order.{Rule, shortest}
use Rattle.mondschein.specs.Outcome.{Outcome, settle}
use Rattle.mondschein.proofs.Logic.{or_false}
use Rattle.mondschein.specs.WholeList.{ears_in}
use Rattle.mondschein.proofs.Checks.{never}
use Rattle.mondschein.proofs.Outcomes.{settle_refused, settle_given}
use Rattle.mondschein.proofs.WholeList.{offering_alike}
use Rattle.machine.specs.Machine.{ear, ears}
use Rattle.in_place.specs.declared.Stage.{Stage}
use Rattle.in_place.specs.declared.Stage.TheVariants.{Empty, Open, Closed}
use Rattle.in_place.specs.declared.Session.{Session}
use Rattle.in_place.specs.Session.{network_in, tables_in, after_offer, with_tables, with_third, closed_with, third_in, by_stage, loaded_by, offered_by, listed_by, closed_by, brought_by}
use Rattle.in_place.specs.InPlace.{SizedAs}
use Rattle.session.specs.Calls.{called}
use Rattle.memory.specs.declared.Refusal.{Refusal}
use Rattle.memory.specs.Memory.{Numbers, numbers_by, Memory, memory_by, stage_of, stage_number, session_at, memory_of, in_memory, wrong_lengths, sized, refusal_by, refusal_of, end_of, output_of, Gives, GivesList}
use Rattle.memory.specs.Program.{single_in, called_in}
use Rattle.memory.proofs.Program.{keeps}

-- by the answer
module _ {A : Type 0} (o : Outcome A) (out : ℕ) {r : Refusal} {after : A} where
  pub refusing : {num place : ℕ} → o.answer ≡ refused num place → r ≡ refusal_by num place → after ≡ o.after → Gives o out r after out
  unfolding refusal_of output_of
  refusing q p e = record { returns = record { refusal = p ∙ sym (ap refusal_of q); left = e }; output = sym (ap (output_of out) q) }

  pub granting : {vs : List ℕ} → o.answer ≡ given vs → r ≡ refusal_by 0 0 → after ≡ o.after → Gives o out r after (output_of out (given vs))
  unfolding refusal_of
  granting q p e = record { returns = record { refusal = p ∙ sym (ap refusal_of q); left = e }; output = sym (ap (output_of out) q) }

-- by the lengths of the arrays: 255, and nothing has changed; or the call's outcome
module _ {A : Type 0} (old : A) (o : Outcome A) (out : ℕ) {r : Refusal} {wrong : Bool} where
  pub lengths_wrong : wrong ≡ true → r ≡ refusal_by 255 0 → Gives (sized wrong old o) out r old out
  unfolding sized
  lengths_wrong q p = subst (λ (x : Bool). Gives (sized x old o) out r old out) (sym q) (refusing (sized true old o) out refl p refl)

  pub lengths_right : {after : A} {new : ℕ} → wrong ≡ false → Gives o out r after new → Gives (sized wrong old o) out r after new
  unfolding sized
  lengths_right {after} {new} q g = subst (λ (x : Bool). Gives (sized x old o) out r after new) (sym q) g

  -- the same of a list of ears
  pub list_wrong : wrong ≡ true → r ≡ refusal_by 255 0 → GivesList (sized wrong old o) out r old out
  unfolding sized end_of output_of
  list_wrong q p = subst (λ (x : Bool). GivesList (sized x old o) out r old out) (sym q) (record { refusal = p; left = refl; output = refl })

  pub list_right : {after : A} {new : ℕ} → wrong ≡ false → GivesList o out r after new → GivesList (sized wrong old o) out r after new
  unfolding sized
  list_right {after} {new} q g = subst (λ (x : Bool). GivesList (sized x old o) out r after new) (sym q) g

-- a refusal leaves the session
abbrev pub Leaves : Session → Outcome Session → Type 0
Leaves s o = (num place : ℕ) → o.answer ≡ refused num place → o.after ≡ s

settle_leaves : (s next : Session) (a : Answer) → Leaves s (settle s next a)
unfolding settle
settle_leaves s next a num place q = ap (λ (o : Outcome Session). o.after) (settle_refused s next q)

pub load_leaves : (s : Session) (net : Network) (ducts : List ℕ) → Leaves s (loaded_by s net ducts)
unfolding loaded_by
load_leaves s net ducts = settle_leaves s _ _

pub ear_leaves : (s : Session) (e : List ℕ) → Leaves s (offered_by s e)
unfolding offered_by
ear_leaves s e = settle_leaves s _ _

pub close_leaves : (rule : Rule) (s : Session) → Leaves s (closed_by rule s)
unfolding closed_by
close_leaves rule s = settle_leaves s _ _

pub bring_leaves : (s : Session) → Leaves s (brought_by s)
unfolding brought_by
bring_leaves s = settle_leaves s _ _

-- the memory with these numbers and the arrays of a session
abbrev pub memory_with : Numbers → Session → Memory
memory_with k s = memory_by k s.links s.ducts s.used s.births s.order s.tree1 s.tree2 s.tree3

-- what a call that writes the session leaves of the memory, by its outcome o: the session that it left is s
module _ (mem : Memory) (o : Outcome Session) (s : Session) (out : ℕ) {r : Refusal} where
  -- it refused: the numbers were not written, and the arrays are as they were
  pub refusing_call : Leaves (session_at mem) o → {num place : ℕ} → record { answer = refused num place; after = s } ≡ o → r ≡ refusal_by num place
      → Gives (in_memory mem o) out r (memory_with mem.numbers s) out
  unfolding in_memory settle
  refusing_call leaves {num} {place} q p =
      let told : o.answer ≡ refused num place = sym (ap (λ (x : Outcome Session). x.answer) q) in
      let kept : s ≡ session_at mem = ap (λ (x : Outcome Session). x.after) q ∙ leaves num place told in
      refusing (in_memory mem o) out told p
      (ap (memory_with mem.numbers) kept ∙ sym (ap (λ (x : Outcome Memory). x.after) (settle_refused mem (memory_of o.after) told)))

  -- it succeeded: the numbers of the session were written
  pub granting_call : {vs : List ℕ} → record { answer = given vs; after = s } ≡ o → r ≡ refusal_by 0 0 → {k : Numbers} → k ≡ (memory_of s).numbers
      → Gives (in_memory mem o) out r (memory_with k s) (output_of out (given vs))
  unfolding in_memory settle
  granting_call {vs} q p e =
      let told : o.answer ≡ given vs = sym (ap (λ (x : Outcome Session). x.answer) q) in
      granting (in_memory mem o) out told p
      (ap (λ (k : Numbers). memory_with k s) e
      ∙ ap memory_of (ap (λ (x : Outcome Session). x.after) q)
      ∙ sym (ap (λ (x : Outcome Memory). x.after) (settle_given mem (memory_of o.after) told)))

-- a stage that is not empty has the number that means it
kept_number : (k : ℕ) → stage_number (stage_of k) ≢ 0 → k ≡ stage_number (stage_of k)
unfolding stage_of stage_number
kept_number k = go (eqb k 1) refl (eqb k 2) refl
  where
    go : (a : Bool) → eqb k 1 ≡ a → (b : Bool) → eqb k 2 ≡ b → stage_number (cond a Open (cond b Closed Empty)) ≢ 0 → k ≡ stage_number (cond a Open (cond b Closed Empty))
    go true e b f d = eqb-true _ _ e
    go false e true f d = eqb-true _ _ f
    go false e false f d = absurd (d refl)

-- an ear is accepted on an open session
given_open : (stage : Stage) (a : Answer) {vs : List ℕ} → by_stage stage (refused 19 0) a (refused 22 0) ≡ given vs → stage ≡ Open
unfolding by_stage
given_open Empty a q = never q
given_open Open a q = refl
given_open Closed a q = never q

-- and bringing over succeeds on a closed one
given_closed : (stage : Stage) {vs : List ℕ} → by_stage stage (refused 19 0) (refused 21 0) (given []) ≡ given vs → stage ≡ Closed
unfolding by_stage
given_closed Empty q = never q
given_closed Open q = never q
given_closed Closed q = refl

-- the numbers after a call that succeeded: an ear leaves all but the counts of long ears and of switches born, close all but the stage,
-- and bringing over all
module _ (mem : Memory) (s' : Session) {vs : List ℕ} where
  pub ear_numbers_lem : (e : List ℕ) → record { answer = given vs; after = s' } ≡ offered_by (session_at mem) e
      → (let k = mem.numbers in numbers_by k.stage k.n k.m k.root k.first k.last s'.longs s'.born) ≡ (memory_of s').numbers
  unfolding offered_by settle stage_number
  ear_numbers_lem e q =
      let k = mem.numbers in
      let s = session_at mem in
      let w = with_tables s (after_offer (network_in s) e (tables_in s)) in
      let told : (offered_by s e).answer ≡ given vs = sym (ap (λ (x : Outcome Session). x.answer) q) in
      let after : s' ≡ w = ap (λ (x : Outcome Session). x.after) q ∙ ap (λ (x : Outcome Session). x.after) (settle_given s w told) in
      let is_open : stage_of k.stage ≡ Open = given_open s.stage _ told in
      ap (λ (x : Session). numbers_by k.stage k.n k.m k.root k.first k.last x.longs x.born) after
      ∙ ap (λ (j : ℕ). numbers_by j k.n k.m k.root k.first k.last w.longs w.born) (kept_number k.stage (λ z. let y : ◌≡◌ {A = ℕ} 1 0 = sym (ap stage_number is_open) ∙ z in absurd (omega arith)))
      ∙ sym (ap (λ (x : Session). (memory_of x).numbers) after)

  pub close_numbers : record { answer = given vs; after = s' } ≡ closed_by shortest (session_at mem)
      → (let k = mem.numbers in numbers_by 2 k.n k.m k.root k.first k.last k.longs k.born) ≡ (memory_of s').numbers
  unfolding closed_by settle stage_number
  close_numbers q =
      let s = session_at mem in
      let w = closed_with s (third_in shortest s) in
      let told : (closed_by shortest s).answer ≡ given vs = sym (ap (λ (x : Outcome Session). x.answer) q) in
      let after : s' ≡ w = ap (λ (x : Outcome Session). x.after) q ∙ ap (λ (x : Outcome Session). x.after) (settle_given s w told) in
      sym (ap (λ (x : Session). (memory_of x).numbers) after)

  pub bring_numbers : record { answer = given vs; after = s' } ≡ brought_by (session_at mem) → mem.numbers ≡ (memory_of s').numbers
  unfolding brought_by settle stage_number
  bring_numbers q =
      let k = mem.numbers in
      let s = session_at mem in
      let w = with_third s (third_in shortest s) in
      let told : (brought_by s).answer ≡ given vs = sym (ap (λ (x : Outcome Session). x.answer) q) in
      let after : s' ≡ w = ap (λ (x : Outcome Session). x.after) q ∙ ap (λ (x : Outcome Session). x.after) (settle_given s w told) in
      let is_closed : stage_of k.stage ≡ Closed = given_closed s.stage told in
      ap (λ (j : ℕ). numbers_by j k.n k.m k.root k.first k.last k.longs k.born)
      (kept_number k.stage (λ z. let y : ◌≡◌ {A = ℕ} 2 0 = sym (ap stage_number is_closed) ∙ z in absurd (omega arith)))
      ∙ sym (ap (λ (x : Session). (memory_of x).numbers) after)

-- the memory after ears, by the session that they left: its counts of long ears and of switches born, its arrays, and the other numbers
-- as they were
abbrev pub memory_after : Memory → Session → Memory
memory_after mem s = let k = mem.numbers in memory_with (numbers_by k.stage k.n k.m k.root k.first k.last s.longs s.born) s

module _ (mem : Memory) where
  abbrev Grown : Memory → Session → Type 0
  Grown mem' s = (mem' ≡ memory_after mem s) × (session_at mem' ≡ s)

  abbrev offer_in : Memory → List ℕ → Outcome Memory
  offer_in mem' e = single_in mem' (ear e)

  one_ear : (s : Session) (e : List ℕ) → session_at (memory_after mem s) ≡ s
      → Grown (offer_in (memory_after mem s) e).after (offered_by s e).after × ((offer_in (memory_after mem s) e).answer ≡ (offered_by s e).answer)
  unfolding called in_memory settle
  one_ear s e k =
      subst (λ (z : Session). Grown (offer_in before e).after (offered_by z e).after × ((offer_in before e).answer ≡ (offered_by z e).answer)) k (go o.answer refl, refl)
    where
      before : Memory
      before = memory_after mem s

      o : Outcome Session
      o = offered_by (session_at before) e

      go : (a : Answer) → o.answer ≡ a → Grown (settle before (memory_of o.after) o.answer).after o.after
      go (given vs) q =
          subst (λ (x : Memory). Grown x o.after) (sym (ap (λ (x : Outcome Memory). x.after) (settle_given before (memory_of o.after) q)))
          (ap (λ (j : Numbers). memory_with j o.after) (sym (ear_numbers_lem before o.after e (ap (λ (a : Answer). record { answer = a; after = o.after }) (sym q)))), keeps o.after)
      go (refused num place) q =
          let left : o.after ≡ session_at before = ear_leaves (session_at before) e num place q in
          subst (λ (x : Memory). Grown x o.after) (sym (ap (λ (x : Outcome Memory). x.after) (settle_refused before (memory_of o.after) q)))
          (ap (memory_after mem) (sym (left ∙ k)), sym left)

  -- a list of ears
  pub list_in : (l : List ℕ) → ((called_in mem (ears l)).after ≡ memory_after mem (listed_by (session_at mem) l).after) × ((called_in mem (ears l)).answer ≡ (listed_by (session_at mem) l).answer)
  unfolding called_in listed_by
  list_in l =
      let (grown, q) =
      offering_alike offer_in offered_by Grown
      (λ mem' s e (g, k). subst (λ (x : Memory). session_at x ≡ s → Grown (offer_in x e).after (offered_by s e).after × ((offer_in x e).answer ≡ (offered_by s e).answer)) (sym g) (one_ear s e) k)
      0 mem (session_at mem) (ears_in l) (refl, refl) in
      (grown.0, q)

  pub listing_call : (l : List ℕ) (out : ℕ) (a : Answer) (s : Session) {r : Refusal} {new : ℕ} → record { answer = a; after = s } ≡ listed_by (session_at mem) l → r ≡ end_of a → new ≡ output_of out a
      → GivesList (called_in mem (ears l)) out r (memory_after mem s) new
  listing_call l out a s q p n =
      let (after, told) = list_in l in
      let same : (called_in mem (ears l)).answer ≡ a = told ∙ sym (ap (λ (o : Outcome Session). o.answer) q) in
      record {
        refusal = p ∙ sym (ap end_of same);
        left = ap (λ (o : Outcome Session). memory_after mem o.after) q ∙ sym after;
        output = n ∙ sym (ap (output_of out) same);
      }

-- the lengths of what is lent to close, to bringing over, to parent and walk, to ear, and to zones, beside those of the arrays that are not
pub lengths_close : (l d u b o p q t : ℕ) → d ≡ 4096 → o ≡ 1024 → p ≡ 1024 → q ≡ 1024 → wrong_lengths l d u b o p q t ≡ wrong_lengths l 4096 u b 1024 1024 1024 t
lengths_close l d u b o p q t v x y z = simp (v, x, y, z)

pub lengths_bring : (l d u b o p q t : ℕ) → d ≡ 4096 → u ≡ 4096 → o ≡ 1024 → p ≡ 1024 → q ≡ 1024 → wrong_lengths l d u b o p q t ≡ wrong_lengths l 4096 4096 b 1024 1024 1024 t
lengths_bring l d u b o p q t v w x y z = simp (v, w, x, y, z)

pub lengths_trees : (l d u b o p q t : ℕ) → l ≡ 8192 → d ≡ 4096 → u ≡ 4096 → b ≡ 1024 → o ≡ 1024 → wrong_lengths l d u b o p q t ≡ wrong_lengths 8192 4096 4096 1024 1024 p q t
lengths_trees l d u b o p q t x v y z w = simp (x, v, y, z, w)

pub lengths_ear : (l d u b o p q t : ℕ) → d ≡ 4096 → t ≡ 1024 → wrong_lengths l d u b o p q t ≡ wrong_lengths l 4096 u b o p q 1024
lengths_ear l d u b o p q t v x = simp (v, x)

pub lengths_zones : (l d u b o p q t : ℕ) → l ≡ 8192 → d ≡ 4096 → u ≡ 4096 → p ≡ 1024 → q ≡ 1024 → t ≡ 1024
    → wrong_lengths l d u b o p q t ≡ wrong_lengths 8192 4096 4096 b o 1024 1024 1024
lengths_zones l d u b o p q t x v y z r w = simp (x, v, y, z, r, w)

-- lengths that are not wrong are the struct's
pub right : (l d u b o p q t : ℕ) → wrong_lengths l d u b o p q t ≡ false
    → (l ≡ 8192) × (d ≡ 4096) × (u ≡ 4096) × (b ≡ 1024) × (o ≡ 1024) × (p ≡ 1024) × (q ≡ 1024) × (t ≡ 1024)
unfolding wrong_lengths
right l d u b o p q t h =
    let (l', h0) = or_false _ _ h in
    let (d', h1) = or_false _ _ h0 in
    let (u', h2) = or_false _ _ h1 in
    let (b', h3) = or_false _ _ h2 in
    let (o', h4) = or_false _ _ h3 in
    let (p', h5) = or_false _ _ h4 in
    let (q', t') = or_false _ _ h5 in
    (is l _ l', is d _ d', is u _ u', is b _ b', is o _ o', is p _ p', is q _ q', is t _ t')
  where
    is : (a k : ℕ) → not (eqb a k) ≡ false → a ≡ k
    is a k e = eqb-true a k (not-false _ e)

pub sizes : (l d u b o p q t : List ℕ) → wrong_lengths (length l) (length d) (length u) (length b) (length o) (length p) (length q) (length t) ≡ false → SizedAs l d u b o p q t
sizes l d u b o p q t h =
    let (l', d', u', b', o', p', q', t') = right _ _ _ _ _ _ _ _ h in
    record { links = l'; ducts = d'; used = u'; births = b'; order = o'; tree1 = p'; tree2 = q'; tree3 = t' }
