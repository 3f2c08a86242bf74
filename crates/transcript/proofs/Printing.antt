-- What was printed before changes nothing but itself: a block leads to the same with it and without.
-- Of any dialogue.
use mathlib.Core.Path.{◌≡◌, refl, sym, ap, ◌∙◌}
use mathlib.Core.Bool.{Bool, true, false, cond}
use mathlib.Core.List.{List, [], ◌∷◌, ◌++◌, foldl, append_assoc, append-nil}
use Prim.Native.Nat.{ℕ, suc}
use lib.Dec.{eqb}
use Rattle.transcript.specs.Transcript.{Turn, Reader, unprinted, with_line, over, lengthened, too_long, ended, fed, finished, blank}

-- what is known with more printed before
abbrev preceded : {A : Type 0} → List ℕ → Reader A → Reader A
preceded p r = record { state = r.state; number = r.number; line = r.line; output = p ++ r.output; stopped = r.stopped }

module _ {A : Type 0} (turn : A → ℕ → List ℕ → Turn A) (p : List ℕ) where
  ended_preceded : (r : Reader A) → ended turn (preceded p r) ≡ preceded p (ended turn r)
  unfolding ended
  ended_preceded r = go (over r)
    where
      t : Turn A
      t = turn r.state r.number r.line

      next : List ℕ → Reader A
      next output = record { state = t.after; number = suc r.number; line = []; output = output; stopped = t.stops }

      go : (b : Bool) → cond b (preceded p r) (next ((p ++ r.output) ++ t.printed)) ≡ preceded p (cond b r (next (r.output ++ t.printed)))
      go true = refl
      go false = ap next (append_assoc p r.output t.printed)

  fed_preceded : (r : Reader A) (b : ℕ) → fed turn (preceded p r) b ≡ preceded p (fed turn r b)
  unfolding fed
  fed_preceded r b = go (over r) (eqb b 10) (too_long (lengthened r.line b))
    where
      longer : Reader A
      longer = with_line r (lengthened r.line b)

      go : (o c t : Bool) → cond o (preceded p r) (cond c (ended turn (preceded p r)) (cond t (ended turn (preceded p longer)) (preceded p longer)))
          ≡ preceded p (cond o r (cond c (ended turn r) (cond t (ended turn longer) longer)))
      go true c t = refl
      go false true t = ended_preceded r
      go false false true = ended_preceded longer
      go false false false = refl

  finished_preceded : (r : Reader A) → finished turn (preceded p r) ≡ preceded p (finished turn r)
  unfolding finished
  finished_preceded r = go (blank r.line)
    where
      go : (b : Bool) → cond b (preceded p r) (ended turn (preceded p r)) ≡ preceded p (cond b r (ended turn r))
      go true = refl
      go false = ended_preceded r

  foldl_preceded : (block : List ℕ) (r : Reader A) → foldl (fed turn) (preceded p r) block ≡ preceded p (foldl (fed turn) r block)
  foldl_preceded [] r = refl
  foldl_preceded (b ∷ s) r = ap (λ (x : Reader A). foldl (fed turn) x s) (fed_preceded r b) ∙ foldl_preceded s (fed turn r b)

-- what was printed before is left out at any time
module _ {A : Type 0} (turn : A → ℕ → List ℕ → Turn A) (r : Reader A) where
  before : preceded r.output (unprinted r) ≡ r
  before = ap (λ (l : List ℕ). record { state = r.state; number = r.number; line = r.line; output = l; stopped = r.stopped }) (append-nil r.output)

  pub unprinted_foldl : (block : List ℕ) → unprinted (foldl (fed turn) r block) ≡ unprinted (foldl (fed turn) (unprinted r) block)
  unprinted_foldl block =
      ap (λ (x : Reader A). unprinted (foldl (fed turn) x block)) (sym before)
      ∙ ap unprinted (foldl_preceded turn r.output block (unprinted r))

  pub unprinted_finished : unprinted (finished turn r) ≡ unprinted (finished turn (unprinted r))
  unprinted_finished =
      ap (λ (x : Reader A). unprinted (finished turn x)) (sym before)
      ∙ ap unprinted (finished_preceded turn r.output (unprinted r))
