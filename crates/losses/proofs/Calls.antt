-- A program that keeps the promises of the report, and another whose sessions stand for its sessions: where the same lists of calls lead to
-- sessions that stand for each other, with the same history, the other keeps them too.
use mathlib.Core.Path.{◌≡◌, refl, sym, ap, ap₂, ◌∙◌, subst}
use mathlib.Core.List.{List, [], ◌∷◌}
use Prim.Native.Nat.{ℕ, ◌≤◌, ◌<◌}
use lib.ListN.{length}
use Rattle.mondschein.specs.Outcome.{Outcome}
use Rattle.machine.specs.Machine.{Closed, State, Call, Program, history, session}
use Rattle.losses.specs.Losses.{losers_of}
use Rattle.losses.specs.Statements.{total, added_next, report_from, added_from, ReportCall}

module _ (prog other : Program) (means : other.Session → prog.Session) (meant : (cs : List Call) → means (session other cs) ≡ session prog cs)
    (same : (cs : List Call) → history other cs ≡ history prog cs) (Report : Type 0) (begun : Report) (add : Report → prog.Session → Outcome Report)
    (two three : Report → ℕ → ℕ) where
  abbrev through : Report → other.Session → Outcome Report
  through r s = add r (means s)

  same_report : (r : Report) (css : List (List Call)) → report_from other Report begun through two three r css ≡ report_from prog Report begun add two three r css
  unfolding report_from
  same_report r [] = refl
  same_report r (cs ∷ css) =
      same_report (through r (session other cs)).after css
      ∙ ap (λ (s : prog.Session). report_from prog Report begun add two three (add r s).after css) (meant cs)

  same_added : (ps : List Closed) (r : Report) (css : List (List Call)) → added_from other Report begun through two three ps r css ≡ added_from prog Report begun add two three ps r css
  unfolding added_from
  same_added ps r [] = refl
  same_added ps r (cs ∷ css) =
      same_added (added_next (through r (session other cs)).answer (history other cs) ps) (through r (session other cs)).after css
      ∙ ap₂ (λ (s : prog.Session) (h : State). added_from prog Report begun add two three (added_next (add r s).answer h ps) (add r s).after css) (meant cs) (same cs)

  abbrev report : List (List Call) → Report
  report css = report_from prog Report begun add two three begun css

  abbrev added : List (List Call) → List Closed
  added css = added_from prog Report begun add two three [] begun css

  answer_same : (css : List (List Call)) (cs : List Call)
      → (through (report_from other Report begun through two three begun css) (session other cs)).answer ≡ (add (report css) (session prog cs)).answer
  answer_same css cs = ap₂ (λ (r : Report) (s : prog.Session). (add r s).answer) (same_report begun css) (meant cs)

  pub report_through : ReportCall prog Report begun add two three → ReportCall other Report begun through two three
  report_through R =
      record {
        demand1 = λ r s. R.demand1 r (means s);
        on_empty = λ css cs h. answer_same css cs ∙ R.on_empty css cs (sym (same cs) ∙ h);
        on_open = λ css cs p h. answer_same css cs ∙ R.on_open css cs p (sym (same cs) ∙ h);
        at_most = λ css. subst (λ (ps : List Closed). length ps ≤ 65535) (sym (same_added [] begun css)) (R.at_most css);
        full = λ css cs p h.
            let (to, from) = R.full css cs p (sym (same cs) ∙ h) in
            (λ q. ap length (same_added [] begun css) ∙ to (sym (answer_same css cs) ∙ q), λ e. answer_same css cs ∙ from (sym (ap length (same_added [] begun css)) ∙ e));
        adds = λ css cs p h l. answer_same css cs ∙ R.adds css cs p (sym (same cs) ∙ h) (subst (λ (ps : List Closed). length ps < 65535) (same_added [] begun css) l);
        losing_two = λ css d a b. ap (λ (r : Report). two r d) (same_report begun css) ∙ R.losing_two css d a b ∙ sym (ap (total (λ p. losers_of p 2 d)) (same_added [] begun css));
        losing_three = λ css d a b. ap (λ (r : Report). three r d) (same_report begun css) ∙ R.losing_three css d a b ∙ sym (ap (total (λ p. losers_of p 3 d)) (same_added [] begun css));
        no_duct = λ css.
            let (x, y) = R.no_duct css in
            (ap (λ (r : Report). two r 0) (same_report begun css) ∙ x, ap (λ (r : Report). three r 0) (same_report begun css) ∙ y);
      }
