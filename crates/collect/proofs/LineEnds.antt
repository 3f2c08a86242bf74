-- Laws of the bytes of a line: one more is held, up to 6,145, and where the line ends, what is known after it.
-- Where no more is read, nothing changes.
use Rattle.std.proofs.Common.{◌≡◌, ℕ, suc, min, ◌+◌, ◌≤◌, Bool, true, false, cond, ltb, List, [], ◌++◌, length, take, None, sym, ap, ◌∙◌, append-nil, add-one, ltb-false}
use Rattle.std.proofs.lemmas.List.{take_min}
use Rattle.mondschein.proofs.Logic.{or_false}
use Rattle.in_place.specs.declared.Session.{Session}
use Rattle.in_place.specs.Session.{empty_session}
use Rattle.collect.specs.declared.Reader.{Reader as Code-as-Reader}
use Rattle.transcript.specs.Transcript.{Turn, Reader, ended}
use Rattle.collect.specs.Dialogue.{Dialogue, turn}
use Rattle.collect.specs.Answering.{dialogue_in, requested, Effect, turn_of, reader_in, Over, served, Ends}

-- what is known once line number k has led to a turn
abbrev after : ℕ → List ℕ → Turn Dialogue → Reader Dialogue
after k printed t = record { state = t.after; number = suc k; line = []; output = printed ++ t.printed; stopped = t.stops }

-- where lines are read, no line stopped the dialogue, and their numbers are up to 65,535
pub over_not : (r : Code-as-Reader) {b : Bool} → Over r b → b ≡ false → (r.stopped ≡ false) × (r.number ≤ 65535)
over_not r o q =
    let apart = or_false r.stopped (ltb 65535 r.number) (sym (o empty_session [] [] [] []) ∙ q) in
    (apart.0, ltb-false 65535 r.number apart.1)

-- the line ends where no more is read, and where it is read
module _ (r : Code-as-Reader) (links ducts line : List ℕ) {over : Bool} (o : Over r over) where
  pub end_quiet : (numbers out : List ℕ) → over ≡ true → Ends r links ducts line (record { reader = r; request = None; written = 0 }) numbers links ducts out
  unfolding ended requested
  end_quiet numbers out q s printed =
      let old = reader_in r s links ducts line printed in
      ap (reader_in r s links ducts line) (append-nil printed)
      ∙ sym (ap (λ (b : Bool). cond b old (after r.number printed (turn old.state r.number old.line))) (sym (o s links ducts line printed) ∙ q))

  pub end_turn : (numbers links' ducts' out : List ℕ) (t : Effect) (written h : ℕ) → over ≡ false → h ≡ min r.held (length line) → take written out ≡ t.printed
      → ((s : Session) → turn_of s r.number numbers links' ducts' t ≡ turn (dialogue_in r.kept s links ducts) r.number (take h line))
      → Ends r links ducts line (record { reader = record { kept = t.kept; number = r.number + 1; held = 0; stopped = t.stops }; request = t.request; written = written }) numbers links' ducts' out
  unfolding ended
  end_turn numbers links' ducts' out t written h q m w e s printed =
      let old = reader_in r s links ducts line printed in
      let next : ℕ → Reader Dialogue = λ k. record { state = dialogue_in t.kept s links' ducts'; number = k; line = []; output = printed; stopped = t.stops } in
      ap (λ (k : ℕ). served t.request numbers (take written out) (next k)) (add-one r.number)
      ∙ ap (λ (own : List ℕ). served t.request numbers own (next (suc r.number))) w
      ∙ ap (after r.number printed) (e s ∙ ap (turn old.state r.number) (ap (λ (k : ℕ). take k line) m ∙ take_min r.held line))
      ∙ sym (ap (λ (b : Bool). cond b old (after r.number printed (turn old.state r.number old.line))) (sym (o s links ducts line printed) ∙ q))
