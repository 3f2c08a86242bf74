-- Laws of adding a session by its stage and by check 25, in the code's terms: what it answers and what it leaves of the report.
-- A refusal leaves the report as it was.
use Rattle.std.proofs.Common.{◌≡◌, ◌≢◌, ℕ, suc, min, ◌+◌, ◌*◌, List, [], take, add-one, eq-eqb, ne_eqb, sym, ap, ap₂, ◌∙◌}
use Rattle.mondschein.specs.Judge.{Answer, given, refused}
use Rattle.mondschein.specs.Outcome.{Outcome}
use Rattle.mondschein.proofs.Checks.{check_pass, check_fail}
use Rattle.mondschein.proofs.Outcomes.{settle_refused, settle_given}
use Rattle.in_place.specs.declared.Stage.TheVariants.{Empty, Open, Closed}
use Rattle.in_place.specs.declared.Session.{Session}
use Rattle.in_place.specs.Session.{by_stage}
use Rattle.in_place.proofs.Answers.{on_empty_lem, on_open_lem, on_closed_lem}
use Rattle.reporting.specs.Reporting.{trees_of, losses_after}
use Rattle.report.specs.declared.Report.{Report}
use Rattle.report.specs.Report.{report_of, report_with, full, reported_by}

full_told : (sessions : ℕ) → sessions ≡ 65535 → full sessions ≡ refused 25 0
unfolding full
full_told sessions e = check_fail 25 _ (given []) (eq-eqb sessions 65535 e)

full_not : (sessions : ℕ) → sessions ≢ 65535 → full sessions ≡ given []
unfolding full
full_not sessions d = check_pass 25 1 _ (given []) (λ k _. ne_eqb sessions 65535 d)

module _ (r : Report) (s : Session) where
  pub added_refused : {num place : ℕ} → by_stage s.stage (refused 19 0) (refused 21 0) (full r.sessions) ≡ refused num place
      → record { answer = refused num place; after = r } ≡ reported_by r s
  unfolding reported_by
  added_refused e = sym (settle_refused r _ e)

  pub added_empty : s.stage ≡ Empty → record { answer = refused 19 0; after = r } ≡ reported_by r s
  added_empty q = added_refused (on_empty_lem _ _ _ q)

  pub added_open : s.stage ≡ Open → record { answer = refused 21 0; after = r } ≡ reported_by r s
  added_open q = added_refused (on_open_lem _ _ _ q)

  module _ (q : s.stage ≡ Closed) where
    pub added_25 : r.sessions ≡ 65535 → record { answer = refused 25 0; after = r } ≡ reported_by r s
    added_25 e = added_refused (on_closed_lem _ _ _ q ∙ full_told r.sessions e)

    pub added_given : r.sessions ≢ 65535 → record { answer = given []; after = report_with r s } ≡ reported_by r s
    unfolding reported_by
    added_given d = sym (settle_given r _ (on_closed_lem _ _ _ q ∙ full_not r.sessions d))

    -- the same, of the links that are stored, and as many switches as are gone along
    pub added_done : {n : ℕ} {table two three : List ℕ} → r.sessions ≢ 65535 → n ≡ min s.n 1024 → table ≡ take (2 * s.m) s.links
        → two ≡ losses_after (trees_of n s.root table s.ducts s.tree1 s.tree2 s.tree3) 2 r.two
        → three ≡ losses_after (trees_of n s.root table s.ducts s.tree1 s.tree2 s.tree3) 3 r.three
        → record { answer = given []; after = report_of (r.sessions + 1) two three } ≡ reported_by r s
    added_done {n} {table} {two} {three} d m z a b =
        let sums : ℕ → List ℕ → ℕ → List ℕ → List ℕ = λ c l k links. losses_after (trees_of k s.root links s.ducts s.tree1 s.tree2 s.tree3) c l in
        ap (λ (k : ℕ). record { answer = given []; after = report_of k two three }) (add-one r.sessions)
        ∙ ap₂ (λ (x y : List ℕ). record { answer = given []; after = report_of (suc r.sessions) x y }) (a ∙ ap₂ (sums 2 r.two) m z) (b ∙ ap₂ (sums 3 r.three) m z)
        ∙ added_given d

-- with the count of sessions that the code has
pub added_count : {a : Answer} {k k' : ℕ} {two three : List ℕ} {o : Outcome Report} → k ≡ k' → record { answer = a; after = report_of k' two three } ≡ o
    → record { answer = a; after = report_of k two three } ≡ o
added_count {a} {k} {k'} {two} {three} e q = ap (λ (j : ℕ). record { answer = a; after = report_of j two three }) e ∙ q
