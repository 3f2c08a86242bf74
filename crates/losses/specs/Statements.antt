-- The statements of document 02, Note 7, on the report: what a lost walk is in the words of demand 3; and of any program with a report apart
-- from its sessions, demand 1 on any report and session, and exact numbers after every list of sessions added. Proofs: proofs/Losses.antt, and of
-- the session in Rattle.report.proofs.Calls.
use Rattle.std.specs.Prelude.{◌≡◌, ◌⊎◌, ◌↔◌, true, cond, List, [], ◌∷◌, ℕ, ◌+◌, ◌≤◌, ◌<◌, length}
use Rattle.mondschein.specs.Network.{Network, at, In, size}
use Rattle.mondschein.specs.Judge.{Answer, given, refused}
use Rattle.mondschein.specs.Outcome.{granted, Outcome}
use Rattle.mondschein.specs.Routes.{link, Hits}
use Rattle.machine.specs.Machine.{Plan, Closed, State, empty, opened, closed, by_state, Call, Program, history, session}
use Rattle.losses.specs.Losses.{lost, losers_of}

-- a walk is lost when duct d fails exactly where a link of the duct, failing by itself, hits it
abbrev pub LostByALink : Type 0
LostByALink = (net : Network) (ducts : List ℕ) (d : ℕ) (walk : List ℕ)
    → (lost net ducts d walk ≡ true) ↔ ((i : ℕ) × (i < size net) × (at ducts i ≡ d) × Hits net (link i) walk)

-- the sum of a number over closed sessions
unfoldable pub total : (Closed → ℕ) → List Closed → ℕ
total f [] = 0
total f (p ∷ ps) = f p + total f ps

-- the sessions added, after one more that has this history and is answered so
abbrev pub added_next : Answer → State → List Closed → List Closed
added_next a h ps = by_state ps (λ p. ps) (λ p. cond (granted a) (p ∷ ps) ps) h

-- a program with a report: begun empty, the call that adds a session to it, what it answers and the report after it; and what it gives for
-- duct d, the switches that lose exactly two walks and those that lose all three
module _ (prog : Program) (Report : Type 0) (begun : Report) (add : Report → prog.Session → Outcome Report) (two three : Report → ℕ → ℕ) where
  -- the report after sessions were added one after another, refused ones included; each was left by a list of calls
  unfoldable pub report_from : Report → List (List Call) → Report
  report_from r [] = r
  report_from r (cs ∷ css) = report_from (add r (session prog cs)).after css

  -- those that were added, the last one first, as histories and answers tell
  unfoldable pub added_from : List Closed → Report → List (List Call) → List Closed
  added_from ps r [] = ps
  added_from ps r (cs ∷ css) = added_from (added_next (add r (session prog cs)).answer (history prog cs) ps) (add r (session prog cs)).after css

  abbrev pub report_after : List (List Call) → Report
  report_after css = report_from begun css

  abbrev pub added_after : List (List Call) → List Closed
  added_after css = added_from [] begun css

  -- what one more session is answered
  abbrev pub add_after : List (List Call) → List Call → Answer
  add_after css cs = (add (report_after css) (session prog cs)).answer

  pub record ReportCall : Type 0 where
    -- demand 1, on any report and any session: it is added; or one of three refusals, at place 0, which leaves the report
    pub demand1 : (r : Report) (s : prog.Session)
        → ((add r s).answer ≡ given []) ⊎ ((num : ℕ) × (add r s ≡ record { answer = refused num 0; after = r }) × In (19 ∷ 21 ∷ 25 ∷ []) num)
    -- after any sessions: the refusals from the state, by the history of the session
    pub on_empty : (css : List (List Call)) (cs : List Call) → history prog cs ≡ empty → add_after css cs ≡ refused 19 0
    pub on_open : (css : List (List Call)) (cs : List Call) (p : Plan) → history prog cs ≡ opened p → add_after css cs ≡ refused 21 0
    -- a closed one is added up to the 65,535th; 25 is told exactly of a 65,536th
    pub at_most : (css : List (List Call)) → length (added_after css) ≤ 65535
    pub full : (css : List (List Call)) (cs : List Call) (p : Closed) → history prog cs ≡ closed p → (add_after css cs ≡ refused 25 0) ↔ (length (added_after css) ≡ 65535)
    pub adds : (css : List (List Call)) (cs : List Call) (p : Closed) → history prog cs ≡ closed p → length (added_after css) < 65535 → add_after css cs ≡ given []
    -- for each duct 1 to 255 exact numbers over the sessions added
    pub losing_two : (css : List (List Call)) (d : ℕ) → 0 < d → d ≤ 255 → two (report_after css) d ≡ total (λ p. losers_of p 2 d) (added_after css)
    pub losing_three : (css : List (List Call)) (d : ℕ) → 0 < d → d ≤ 255 → three (report_after css) d ≡ total (λ p. losers_of p 3 d) (added_after css)
    -- duct 0 is none, and never fails
    pub no_duct : (css : List (List Call)) → (two (report_after css) 0 ≡ 0) × (three (report_after css) 0 ≡ 0)
