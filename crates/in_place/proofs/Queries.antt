-- The calls that only read a session, parent and walk, by its stage and by check 17: what each answers, and the slice that a walk
-- leaves. A refusal leaves the slice as it was.
use Rattle.std.proofs.Common.{◌≡◌, ℕ, pred, Bool, true, false, List, [], ◌∷◌, refl, sym, ap, ◌∙◌}
use Rattle.std.specs.Prelude.{Result, Ok, Err, ⊤}
use Rattle.std.proofs.lemmas.Bool.{false≢true, true≢false}
use Rattle.mondschein.specs.Network.{at}
use Rattle.mondschein.specs.Judge.{Answer, given, refused, check}
use Rattle.mondschein.specs.Order.{walk_by}
use Rattle.mondschein.specs.Outcome.{granted, settle, counted, unknown}
use Rattle.mondschein.proofs.Checks.{check_pass, check_fail}
use Rattle.refusals.specs.declared.Refusal.{Refusal}
use Rattle.refusals.specs.Refusals.{number, place}
use Rattle.network.specs.Load.{network_of}
use Rattle.closing.specs.Closing.{close_answer}
use Rattle.walks.specs.Walks.{walk_into}
use Rattle.in_place.specs.declared.Stage.{Stage}
use Rattle.in_place.specs.declared.Stage.TheVariants.{Empty, Open, Closed}
use Rattle.in_place.specs.declared.Session.{Session}
use Rattle.in_place.specs.Session.{network_in, by_stage}
use Rattle.in_place.specs.Queries.{tree_in, walk_in, parent_by, walked_by}
use Rattle.in_place.proofs.Answers.{on_closed_lem}

answers_given : Answer → Bool
answers_given (given vs) = true
answers_given (refused num place) = false

-- what only a closed session gives, by what it is asked first
module _ {r : Result ⊤ Refusal} where
  pub stage_refused : (stage : Stage) → close_answer r ≡ by_stage stage (refused 19 0) (refused 21 0) (given []) → {e : Refusal} → r ≡ Err e
      → (a : Answer) → by_stage stage (refused 19 0) (refused 21 0) a ≡ refused (number e) (place e)
  unfolding by_stage answers_given
  stage_refused Empty q p a = sym q ∙ ap close_answer p
  stage_refused Open q p a = sym q ∙ ap close_answer p
  stage_refused Closed q p a = absurd (true≢false (ap answers_given (sym q ∙ ap close_answer p)))

  pub stage_closed : (stage : Stage) → close_answer r ≡ by_stage stage (refused 19 0) (refused 21 0) (given []) → {u : ⊤} → r ≡ Ok u → stage ≡ Closed
  unfolding by_stage answers_given
  stage_closed Empty q p = absurd (false≢true (ap answers_given (sym q ∙ ap close_answer p)))
  stage_closed Open q p = absurd (false≢true (ap answers_given (sym q ∙ ap close_answer p)))
  stage_closed Closed q p = refl

module _ (s : Session) (v t : ℕ) where
  pub parent_unknown : s.stage ≡ Closed → unknown (network_of s.n [] 0 0 0) v t 0 ≡ true → refused 17 0 ≡ parent_by s v t
  unfolding parent_by unknown
  parent_unknown q u = sym (on_closed_lem _ _ _ q ∙ check_fail 17 _ _ u)

  pub parent_entry : s.stage ≡ Closed → unknown (network_of s.n [] 0 0 0) v t 0 ≡ false → given (at (tree_in s t) v ∷ []) ≡ parent_by s v t
  unfolding parent_by unknown
  parent_entry q u = sym (on_closed_lem _ _ _ q ∙ check_pass 17 1 _ _ (λ _ _. u))

module _ (s : Session) (v t : ℕ) (out : List ℕ) where
  -- a refusal leaves the slice
  pub refuses : {num place : ℕ}
      → by_stage s.stage (refused 19 0) (refused 21 0) (check 17 1 (unknown (network_in s) v t) (counted (walk_in s t v) out)) ≡ refused num place
      → record { answer = refused num place; after = out } ≡ walked_by s v t out
  unfolding walked_by settle granted
  refuses e = sym (ap (settle out _) e)

  pub walk_unknown : s.stage ≡ Closed → unknown (network_of s.n [] 0 0 0) v t 0 ≡ true → record { answer = refused 17 0; after = out } ≡ walked_by s v t out
  unfolding unknown
  walk_unknown q u = refuses (on_closed_lem _ _ _ q ∙ check_fail 17 _ _ u)

  pub walk_known : {row : List ℕ} → s.stage ≡ Closed → unknown (network_of s.n [] 0 0 0) v t 0 ≡ false → row ≡ tree_in s t
      → {a : Answer} {l : List ℕ}
      → (a ≡ (walk_into (walk_by s.root (at row) (pred s.n) v) out).answer) × (l ≡ (walk_into (walk_by s.root (at row) (pred s.n) v) out).after)
      → record { answer = a; after = l } ≡ walked_by s v t out
  unfolding walked_by walk_in walk_into unknown
  walk_known {row} q u r {a} {l} (p, o) =
      ap (λ (x : Answer). record { answer = x; after = l }) p
      ∙ ap (λ (x : List ℕ). record { answer = (walk_into (walk_by s.root (at row) (pred s.n) v) out).answer; after = x }) o
      ∙ ap (λ (l : List ℕ). walk_into (walk_by s.root (at l) (pred s.n) v) out) r
      ∙ ap (settle out _) (sym (on_closed_lem _ _ _ q ∙ check_pass 17 1 _ _ (λ _ _. u)))
