-- The zones call of a session keeps the promises of document 02, Note 4: demand 1 on any session, and the zones after every list of calls.
-- What a session holds after them is the order and the births of its ears (Rattle.session.specs.Refinement).
use mathlib.Core.Path.{◌≡◌, refl, sym, ap, ap₂, ◌∙◌, subst}
use mathlib.Core.Logic.{◌⊎◌, inl, inr, ⊎_elim}
use mathlib.Core.Bool.{false}
use mathlib.Core.List.{List, [], ◌∷◌, ◌++◌}
use Prim.Native.Nat.{ℕ, ◌≤◌, ◌<◌}
use native.Mathlib.Omega.{arith}
use lib.ListN.{length, take, drop, length-take, get_or-append}
use lib.Seq.{drop_at, get_or-take}
use Rattle.mondschein.specs.Network.{Network, at, In}
use Rattle.mondschein.specs.Judge.{given, refused}
use Rattle.mondschein.specs.Outcome.{Outcome}
use Rattle.mondschein.specs.Order.{order}
use Rattle.mondschein.proofs.Logic.{which, less?}
use Rattle.mondschein.proofs.Checks.{never}
use Rattle.machine.specs.Machine.{Closed, State, empty, opened, closed, Call, history}
use Rattle.machine.proofs.Implementation.{history_of}
use Rattle.in_place.specs.declared.Stage.{Stage}
use Rattle.in_place.specs.declared.Stage.TheVariants as Stage·
use Rattle.in_place.specs.declared.Session.{Session}
use Rattle.session.specs.Program.{kept_order, session_program}
use Rattle.session.specs.Refinement.{HoldsState, session_after}
use Rattle.session.proofs.Refines.{refines}
use Rattle.session.proofs.Implements.{implements, promises}
use Rattle.zones.specs.Zoning.{Sizes, Zoning}
use Rattle.zones.specs.Cut.{birth_in, zones_by}
use Rattle.zones.specs.Sizing.{wrong_sizes}
use Rattle.zones.specs.Statements.{ZonesCall}
use Rattle.zones.proofs.Births.{birth_in_lem}
use Rattle.zones.proofs.Zones.{zones, zoning_ext}
use Rattle.zones.proofs.Sizing.{sizes_right, sizes_wrong}
use Rattle.zoning.specs.Zoning.{zones_in, zoned_by}
use Rattle.zoning.proofs.Answers.{zones_length, zones_empty, zones_open, zones_24, zones_18, zones_given}

answers : {o o' : Outcome (List ℕ)} → o ≡ o' → o'.answer ≡ o.answer
answers q = sym (ap (λ (o : Outcome (List ℕ)). o.answer) q)

refused_number : {j k : ℕ} → refused j 0 ≡ refused k 0 → j ≡ k
refused_number q = cc

-- on any session
module _ (s : Session) (n₁ n₂ n₃ : ℕ) (out : List ℕ) where
  abbrev Left : Outcome (List ℕ) → Type 0
  Left o = ((o.answer ≡ given []) × (drop s.n o.after ≡ drop s.n out)) ⊎ ((num : ℕ) × (o ≡ record { answer = refused num 0; after = out }) × In (18 ∷ 19 ∷ 21 ∷ 24 ∷ []) num)

  zones_rest : drop s.n (zones_in s n₁ n₂ ++ drop s.n out) ≡ drop s.n out
  unfolding zones_in
  zones_rest = drop_at (zones_in s n₁ n₂) _ _ (zones_length _ (kept_order s) _ n₁ n₂ s.n)

  left : (t : Stage) → s.stage ≡ t → Left (zoned_by s n₁ n₂ n₃ out)
  left Stage·.Empty q = inr (19, sym (zones_empty s n₁ n₂ n₃ out q), (1, omega arith, refl))
  left Stage·.Open q = inr (21, sym (zones_open s n₁ n₂ n₃ out q), (2, omega arith, refl))
  left Stage·.Closed q =
      ⊎_elim
      (λ t. inr (24, sym (zones_24 s n₁ n₂ n₃ out q t), (3, omega arith, refl)))
      (λ f.
      ⊎_elim
      (λ l. inr (18, sym (zones_18 s n₁ n₂ n₃ out q f l), (0, omega arith, refl)))
      (λ l. subst Left (zones_given s n₁ n₂ n₃ out q f l) (inl (refl, zones_rest)))
      (less? (length out) s.n))
      (which (wrong_sizes s.n n₁ n₂ n₃))

-- after a list of calls
held : (cs : List Call) (st : State) → history session_program cs ≡ st → HoldsState (session_after cs) st
held cs st h = subst (HoldsState (session_after cs)) (sym (history_of session_program implements cs) ∙ h) (refines cs).0

module _ (cs : List Call) (p : Closed) (h : history session_program cs ≡ closed p) where
  abbrev s : Session
  s = session_after cs

  is_closed_lem : s.stage ≡ Stage·.Closed
  is_closed_lem = (held cs (closed p) h).0

  same_n : s.n ≡ p.net.n
  same_n = ap (λ (x : Network). x.n) (held cs (closed p) h).1.stored.network

  module _ (n₁ n₂ n₃ : ℕ) (out : List ℕ) where
    right : Sizes p.net.n n₁ n₂ n₃ → wrong_sizes s.n n₁ n₂ n₃ ≡ false
    right S = sizes_right s.n n₁ n₂ n₃ (subst (λ (n : ℕ). Sizes n n₁ n₂ n₃) (sym same_n) S)

    told_24 : (Sizes p.net.n n₁ n₂ n₃ → ⊥) → (zoned_by s n₁ n₂ n₃ out).answer ≡ refused 24 0
    told_24 bad = answers (zones_24 s n₁ n₂ n₃ out is_closed_lem (sizes_wrong s.n n₁ n₂ n₃ (λ S. bad (subst (λ (n : ℕ). Sizes n n₁ n₂ n₃) same_n S))))

    told_18 : Sizes p.net.n n₁ n₂ n₃ → length out < p.net.n → (zoned_by s n₁ n₂ n₃ out).answer ≡ refused 18 0
    told_18 S l = answers (zones_18 s n₁ n₂ n₃ out is_closed_lem (right S) (omega (arith, same_n)))

    gives : Sizes p.net.n n₁ n₂ n₃ → p.net.n ≤ length out → record { answer = given []; after = zones_in s n₁ n₂ ++ drop s.n out } ≡ zoned_by s n₁ n₂ n₃ out
    gives S l = zones_given s n₁ n₂ n₃ out is_closed_lem (right S) (omega (arith, same_n))

    -- sizes that are right are answered otherwise
    not_24 : Sizes p.net.n n₁ n₂ n₃ → (zoned_by s n₁ n₂ n₃ out).answer ≡ refused 24 0 → ⊥
    not_24 S q =
        ⊎_elim
        (λ l. omega (arith, refused_number (sym (told_18 S l) ∙ q)))
        (λ l. never (sym q ∙ answers (gives S l)))
        (less? (length out) p.net.n)

    -- the zones are those of the ears
    births_long : length (take s.n s.births) ≡ p.net.n
    births_long =
        let (proper, M, _) = promises.demand2.sound cs p h in
        omega (arith, length-take s.n s.births, (held cs (closed p) h).1.tables.sized.births, same_n, proper.switches.1)

    zones_of : zones_in s n₁ n₂ ≡ zones_by p.net.n (order p.ears) (birth_in (take s.n s.births)) n₁ n₂ p.net.n
    unfolding zones_in kept_order
    zones_of =
        let b = birth_in (take s.n s.births) in
        ap (λ (n : ℕ). zones_by n (kept_order s) b n₁ n₂ s.n) births_long
        ∙ ap₂ (λ (o : List ℕ) (n : ℕ). zones_by p.net.n o b n₁ n₂ n) (held cs (closed p) h).1.tables.listed same_n

    is_zoning : Sizes p.net.n n₁ n₂ n₃ → Zoning p.net n₁ n₂ n₃ (at (zones_in s n₁ n₂ ++ drop s.n out))
    is_zoning S =
        let (proper, M, _) = promises.demand2.sound cs p h in
        let b = birth_in (take s.n s.births) in
        let zs = zones_by p.net.n (order p.ears) b n₁ n₂ p.net.n in
        zoning_ext p.net proper n₁ n₂ n₃ (at zs) _
        (λ v l. ap (λ (l : List ℕ). at (l ++ drop s.n out) v) zones_of ∙ get_or-append zs (drop s.n out) 0 v (omega (arith, zones_length p.net.n (order p.ears) b n₁ n₂ p.net.n)))
        (zones p.net p.ears proper M b
        (λ v l. birth_in_lem (take s.n s.births) v (omega (arith, births_long)) ∙ get_or-take s.n s.births v 0 (omega (arith, same_n)) ∙ (held cs (closed p) h).1.tables.births v l) n₁ n₂ n₃ S)

    rest_left : drop p.net.n (zones_in s n₁ n₂ ++ drop s.n out) ≡ drop p.net.n out
    rest_left = subst (λ (n : ℕ). drop n (zones_in s n₁ n₂ ++ drop s.n out) ≡ drop n out) same_n (zones_rest s n₁ n₂ n₃ out)

pub zones_call : ZonesCall session_program (λ s. s.n) zoned_by
zones_call =
    record {
      demand1 = λ s n₁ n₂ n₃ out. left s n₁ n₂ n₃ out s.stage refl;
      on_empty = λ cs h n₁ n₂ n₃ out. answers (zones_empty (session_after cs) n₁ n₂ n₃ out (ap (λ (z : Session). z.stage) (held cs empty h)));
      on_open = λ cs p h n₁ n₂ n₃ out. answers (zones_open (session_after cs) n₁ n₂ n₃ out (held cs (opened p) h).0);
      wrong = λ cs p h n₁ n₂ n₃ out. (λ q S. not_24 cs p h n₁ n₂ n₃ out S q, told_24 cs p h n₁ n₂ n₃ out);
      too_short = told_18;
      zoned = λ cs p h n₁ n₂ n₃ out S l.
          let e = gives cs p h n₁ n₂ n₃ out S l in (
            answers e,
            subst (λ (o : Outcome (List ℕ)). Zoning p.net n₁ n₂ n₃ (at o.after)) e (is_zoning cs p h n₁ n₂ n₃ out S),
            subst (λ (o : Outcome (List ℕ)). drop p.net.n o.after ≡ drop p.net.n out) e (rest_left cs p h n₁ n₂ n₃ out),
          );
    }
