-- The report of a session's program keeps the promises of document 02, Note 7: demand 1 on any report and session, and exact numbers after every
-- list of sessions added. What a closed session adds at a duct is how many of its switches lose that many walks.
use mathlib.Core.Path.{◌≡◌, refl, sym, ap, ◌∙◌, subst}
use mathlib.Core.Logic.{◌⊎◌, inl, inr, ⊎_elim, ◌≢◌}
use mathlib.Core.Bool.{true}
use mathlib.Core.List.{List, [], ◌∷◌}
use Prim.Native.Nat.{ℕ, suc, ◌+◌, ◌*◌, ◌≤◌, ◌<◌, min}
use native.Mathlib.Omega.{arith}
use lib.ListN.{length, length-replicate, get_or-replicate}
use Rattle.mondschein.specs.Network.{Network, at, In, size, Adjacent, Proper, used}
use Rattle.mondschein.specs.Judge.{given, refused}
use Rattle.mondschein.specs.Outcome.{granted, Outcome}
use Rattle.mondschein.specs.Order.{parent_of, walk_of}
use Rattle.mondschein.specs.Mondschein.{Mondschein}
use Rattle.mondschein.specs.Routes.{Tree}
use Rattle.mondschein.proofs.Logic.{same?, less?}
use Rattle.mondschein.proofs.Checks.{never}
use Rattle.mondschein.proofs.Births.{Passing}
use Rattle.mondschein.proofs.Complete.{complete, complete_used}
use Rattle.mondschein.proofs.Thirds.{routes_by, walk_of_lem}
use Rattle.machine.specs.Machine.{Closed, State, empty, opened, closed, Call, history}
use Rattle.losses.specs.Losses.{losers_of}
use Rattle.losses.specs.Statements.{total, added_next, report_from, added_from, ReportCall}
use Rattle.losses.proofs.Losses.{losers_bound, losers_ext}
use Rattle.in_place.specs.declared.Stage.{Stage}
use Rattle.in_place.specs.declared.Stage.TheVariants as Stage·
use Rattle.in_place.specs.declared.Session.{Session}
use Rattle.in_place.specs.Queries.{tree_in}
use Rattle.session.specs.Program.{session_program}
use Rattle.session.specs.Refinement.{HoldsState, session_after}
use Rattle.session.proofs.Implements.{entry_alike, state_held, promises}
use Rattle.reporting.specs.Reporting.{Trees, trees_of, losses_after}
use Rattle.reporting.proofs.Losses.{Leads, losses_at, losses_no_duct, losses_length}
use Rattle.report.specs.declared.Report.{Report}
use Rattle.report.specs.Report.{empty_report, losing_two, losing_three, trees_in, report_with, reported_by, CountsSessions}
use Rattle.report.proofs.Answers.{added_empty, added_open, added_25, added_given}

answers : {o o' : Outcome Report} → o ≡ o' → o'.answer ≡ o.answer
answers q = sym (ap (λ (o : Outcome Report). o.answer) q)

-- on any report and any session
module _ (r : Report) (s : Session) where
  left : (t : Stage) → s.stage ≡ t
      → ((reported_by r s).answer ≡ given []) ⊎ ((num : ℕ) × (reported_by r s ≡ record { answer = refused num 0; after = r }) × In (19 ∷ 21 ∷ 25 ∷ []) num)
  left Stage·.Empty q = inr (19, sym (added_empty r s q), (0, omega arith, refl))
  left Stage·.Open q = inr (21, sym (added_open r s q), (1, omega arith, refl))
  left Stage·.Closed q =
      ⊎_elim
      (λ e. inr (25, sym (added_25 r s q e), (2, omega arith, refl)))
      (λ d. inl (answers (added_given r s q d)))
      (same? r.sessions 65535)

within : (n : ℕ) → n ≤ 1024 → min n 1024 ≡ n
within n h = omega arith

-- a closed session left by calls: its rows lead along the links, and their walks are those of its list
module _ (cs : List Call) (p : Closed) (h : history session_program cs ≡ closed p) where
  abbrev s : Session
  s = session_after cs

  holds : HoldsState s (closed p)
  holds = state_held cs (closed p) h

  is_closed_lem : s.stage ≡ Stage·.Closed
  is_closed_lem = holds.0

  proper : Proper p.net
  proper = (promises.demand2.sound cs p h).0

  mondschein : Mondschein p.net p.ears
  mondschein = (promises.demand2.sound cs p h).1

  passing : Passing p.net p.ears
  passing = complete p.net proper p.ears mondschein

  done : (l : ℕ) → l < size p.net → used p.net p.ears l ≡ true
  done = complete_used p.net proper p.ears mondschein

  entry : (t v : ℕ) → v < p.net.n → parent_of p.rule p.net p.ears t v ≡ at (tree_in s t) v
  entry = entry_alike s p.rule p.net p.ears holds.1 holds.3 proper passing done

  leads : (t : ℕ) → Tree t → Leads p.net (tree_in s t) (walk_of p.rule p.net p.ears t)
  leads t m =
      record {
        linked = λ v l d. subst (Adjacent p.net v) (entry t v l) (((routes_by p.rule p.net proper p.ears passing done).trees t m).linked v l d);
        walks = λ v l. sym (walk_of_lem p.rule p.net proper p.ears passing done t m (at (tree_in s t)) (entry t) v l);
      }

  same_trees : trees_in s ≡ trees_of p.net.n p.net.root p.net.links s.ducts s.tree1 s.tree2 s.tree3
  same_trees =
      ap (λ (net : Network). trees_of (min net.n 1024) net.root net.links s.ducts s.tree1 s.tree2 s.tree3) holds.1.stored.network
      ∙ ap (λ (n : ℕ). trees_of n p.net.root p.net.links s.ducts s.tree1 s.tree2 s.tree3) (within p.net.n proper.switches.1)

  small : (c d : ℕ) → losers_of p c d ≤ 1024
  unfolding losers_of
  small c d = omega (arith, losers_bound p.net p.ducts (walk_of p.rule p.net p.ears) c d, proper.switches.1)

  -- what it adds at a duct
  adds_at : (c d : ℕ) → 0 < d → d ≤ 255 → (sums : List ℕ) → d < length sums → at sums d + 1024 ≤ 4294967295
      → at (losses_after (trees_in s) c sums) d ≡ losers_of p c d + at sums d
  unfolding losers_of tree_in
  adds_at c d a b sums l m =
      ap (λ (t : Trees). at (losses_after t c sums) d) same_trees
      ∙ losses_at p.net proper s.ducts s.tree1 s.tree2 s.tree3 (walk_of p.rule p.net p.ears)
      (leads 1 (omega arith)) (leads 2 (omega arith)) (leads 3 (omega arith)) c d a b sums l (omega (arith, proper.switches.1))
      ∙ omega (arith, losers_ext p.net s.ducts p.ducts holds.2.each (walk_of p.rule p.net p.ears) c d)

-- the report holds the sessions added
record Counts (ps : List Closed) (r : Report) : Type 0 where
  pub sessions : (r.sessions ≡ length ps) × (length ps ≤ 65535)
  pub room : (length r.two ≡ 256) × (length r.three ≡ 256)
  pub small : (c d : ℕ) → total (λ p. losers_of p c d) ps ≤ 1024 * length ps
  pub no_duct : (at r.two 0 ≡ 0) × (at r.three 0 ≡ 0)
  pub two : (d : ℕ) → 0 < d → d ≤ 255 → at r.two d ≡ total (λ p. losers_of p 2 d) ps
  pub three : (d : ℕ) → 0 < d → d ≤ 255 → at r.three d ≡ total (λ p. losers_of p 3 d) ps

begins : Counts [] empty_report
unfolding total
begins =
    record {
      sessions = (refl, omega arith);
      room = (length-replicate {A = ℕ} 256 0, length-replicate {A = ℕ} 256 0);
      small = λ c d. omega arith;
      no_duct = (refl, refl);
      two = λ d a b. get_or-replicate {A = ℕ} 256 d 0 0 (omega arith);
      three = λ d a b. get_or-replicate {A = ℕ} 256 d 0 0 (omega arith);
    }

-- one session more
module _ (ps : List Closed) (r : Report) (k : Counts ps r) (cs : List Call) where
  abbrev added : Session
  added = session_after cs

  module _ (p : Closed) (h : history session_program cs ≡ closed p) (d : r.sessions ≢ 65535) where
    below : length ps < 65535
    below = ⊎_elim (λ (l : length ps < 65535). l) (λ (l : 65535 ≤ length ps). absurd (d (omega (arith, k.sessions)))) (less? (length ps) 65535)

    sums_next : (c : ℕ) (sums : List ℕ) → length sums ≡ 256 → ((e : ℕ) → 0 < e → e ≤ 255 → at sums e ≡ total (λ p. losers_of p c e) ps)
        → (e : ℕ) → 0 < e → e ≤ 255 → at (losses_after (trees_in added) c sums) e ≡ total (λ p. losers_of p c e) (p ∷ ps)
    unfolding total
    sums_next c sums n q e a b = adds_at cs p h c e a b sums (omega arith) (omega (arith, q e a b, k.small c e, below)) ∙ ap (λ (x : ℕ). losers_of p c e + x) (q e a b)

    counts_more : Counts (p ∷ ps) (report_with r added)
    unfolding total
    counts_more =
        record {
          sessions = (ap suc k.sessions.0, omega (arith, below));
          room = (losses_length (trees_in added) 2 r.two ∙ k.room.0, losses_length (trees_in added) 3 r.three ∙ k.room.1);
          small = λ c e. omega (arith, small cs p h c e, k.small c e);
          no_duct = (losses_no_duct (trees_in added) 2 r.two ∙ k.no_duct.0, losses_no_duct (trees_in added) 3 r.three ∙ k.no_duct.1);
          two = sums_next 2 r.two k.room.0 k.two;
          three = sums_next 3 r.three k.room.1 k.three;
        }

  abbrev After : State → Outcome Report → Type 0
  After st o = Counts (added_next o.answer st ps) o.after

  counts_next : (st : State) → history session_program cs ≡ st → After st (reported_by r added)
  unfolding granted
  counts_next empty h = subst (After empty) (added_empty r added (ap (λ (z : Session). z.stage) (state_held cs empty h))) k
  counts_next (opened p) h = subst (After (opened p)) (added_open r added (state_held cs (opened p) h).0) k
  counts_next (closed p) h =
      ⊎_elim
      (λ e. subst (After (closed p)) (added_25 r added (is_closed_lem cs p h) e) k)
      (λ d. subst (After (closed p)) (added_given r added (is_closed_lem cs p h) d) (counts_more p h d))
      (same? r.sessions 65535)

abbrev reported : Report → List (List Call) → Report
reported r css = report_from session_program Report empty_report reported_by losing_two losing_three r css

abbrev plans : List Closed → Report → List (List Call) → List Closed
plans ps r css = added_from session_program Report empty_report reported_by losing_two losing_three ps r css

counts_after : (ps : List Closed) (r : Report) → Counts ps r → (css : List (List Call)) → Counts (plans ps r css) (reported r css)
unfolding report_from added_from
counts_after ps r k [] = k
counts_after ps r k (cs ∷ css) = counts_after (added_next (reported_by r (session_after cs)).answer (history session_program cs) ps) (reported_by r (session_after cs)).after (counts_next ps r k cs (history session_program cs) refl) css

-- a closed session, by how many are added
module _ (ps : List Closed) (r : Report) (k : Counts ps r) (cs : List Call) (p : Closed) (h : history session_program cs ≡ closed p) where
  given_below : length ps < 65535 → (reported_by r (session_after cs)).answer ≡ given []
  given_below l = answers (added_given r (session_after cs) (is_closed_lem cs p h) (λ e. omega (arith, k.sessions)))

  full_at : length ps ≡ 65535 → (reported_by r (session_after cs)).answer ≡ refused 25 0
  full_at e = answers (added_25 r (session_after cs) (is_closed_lem cs p h) (k.sessions.0 ∙ e))

  at_full : (reported_by r (session_after cs)).answer ≡ refused 25 0 → length ps ≡ 65535
  at_full q = ⊎_elim (λ (l : length ps < 65535). never (sym q ∙ given_below l)) (λ (l : 65535 ≤ length ps). omega (arith, k.sessions)) (less? (length ps) 65535)

pub report_call : ReportCall session_program Report empty_report reported_by losing_two losing_three
report_call =
    let all = counts_after [] empty_report begins in
    record {
      demand1 = λ r s. left r s s.stage refl;
      on_empty = λ css cs h. answers (added_empty (reported empty_report css) (session_after cs) (ap (λ (z : Session). z.stage) (state_held cs empty h)));
      on_open = λ css cs p h. answers (added_open (reported empty_report css) (session_after cs) (state_held cs (opened p) h).0);
      at_most = λ css. (all css).sessions.1;
      full = λ css cs p h. (at_full _ _ (all css) cs p h, full_at _ _ (all css) cs p h);
      adds = λ css cs p h l. given_below _ _ (all css) cs p h l;
      losing_two = λ css. (all css).two;
      losing_three = λ css. (all css).three;
      no_duct = λ css. (all css).no_duct;
    }

pub counts_sessions : CountsSessions
counts_sessions css = (counts_after [] empty_report begins css).sessions.0
