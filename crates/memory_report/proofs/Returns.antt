-- What the report's functions for C give back and leave, in the code's terms: by the lengths of the rows by duct and of the session's arrays,
-- and by what adding in place answered.
use Rattle.std.proofs.Common.{◌≡◌, ℕ, Bool, true, false, ◌||◌, List, replicate, eqb-true, refl, sym, ap, ap₂, subst}
use Rattle.std.proofs.lemmas.Bool.{not-false}
use Rattle.std.specs.Prelude.{Result, Ok, Err}
use Rattle.mondschein.specs.Outcome.{Outcome}
use Rattle.mondschein.proofs.Logic.{or_false}
use Rattle.refusals.specs.declared.Refusal as Reason
use Rattle.refusals.specs.Refusals.{number, place}
use Rattle.report.specs.declared.Report.{Report}
use Rattle.report.specs.Report.{report_of, empty_report, added_answer, sessions_after}
use Rattle.memory.specs.declared.Refusal.{Refusal}
use Rattle.memory.specs.Memory.{wrong_lengths, sized, refusal_by, Returns}
use Rattle.memory.proofs.Returns.{refusing, granting}
use Rattle.memory_report.specs.Report.{wrong_rows}

-- the rows are wrong, or it is told by the arrays
pub rows_wrong : (rows arrays : Bool) → rows ≡ true → (rows || arrays) ≡ true
rows_wrong rows arrays q = ap (λ (x : Bool). x || arrays) q

pub rows_right : (rows arrays wrong : Bool) → rows ≡ false → arrays ≡ wrong → (rows || arrays) ≡ wrong
rows_right rows arrays wrong q w = ap₂ ◌||◌ q w

-- what is lent to add, beside the arrays that are not
pub lengths_add : (l d u b o p q t : ℕ) → u ≡ 4096 → b ≡ 1024 → o ≡ 1024 → wrong_lengths l d u b o p q t ≡ wrong_lengths l d 4096 1024 1024 p q t
lengths_add l d u b o p q t x y z = simp (x, y, z)

-- rows that are not wrong, cleared, are those of the empty report
pub cleared : (two three : ℕ) → wrong_rows two three ≡ false → report_of 0 (replicate two 0) (replicate three 0) ≡ empty_report
unfolding wrong_rows
cleared two three h =
    let (x, y) = or_false _ _ h in
    ap₂ (λ (a b : ℕ). report_of 0 (replicate a 0) (replicate b 0)) (eqb-true two 256 (not-false _ x)) (eqb-true three 256 (not-false _ y))

-- all lengths are right
pub sized_right : {wrong : Bool} (old : Report) (o : Outcome Report) {r : Refusal} {after : Report}
    → wrong ≡ false → Returns o r after → Returns (sized wrong old o) r after
unfolding sized
sized_right old o {r} {after} q g = subst (λ (x : Bool). Returns (sized x old o) r after) (sym q) g

-- the outcome of adding, by the answer in place: refused, or added and counted
abbrev AddedBy : ℕ → List ℕ → List ℕ → Outcome Report → Result ℕ Reason.Refusal → Type 0
AddedBy sessions two three o r = record { answer = added_answer r; after = report_of (sessions_after r sessions) two three } ≡ o

module _ (sessions : ℕ) {two three : List ℕ} {o : Outcome Report} where
  pub adding_refused : (e : Reason.Refusal) {r : Refusal} → r ≡ refusal_by (number e) (place e) → AddedBy sessions two three o (Err e)
      → Returns o r (report_of sessions two three)
  adding_refused e q h = (refusing o 0 (sym (ap (λ (x : Outcome Report). x.answer) h)) q (ap (λ (x : Outcome Report). x.after) h)).returns

  pub adding_counted : (count : ℕ) → AddedBy sessions two three o (Ok count) → Returns o (refusal_by 0 0) (report_of count two three)
  adding_counted count h = (granting o 0 (sym (ap (λ (x : Outcome Report). x.answer) h)) refl (ap (λ (x : Outcome Report). x.after) h)).returns
