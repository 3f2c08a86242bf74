-- Laws of a line that ends and has what it asks of the session, and of a block that is taken line by line, its replies one after another
-- in a slice: where it stands between two lines, and where it ends.
use mathlib.Core.Path.{◌≡◌, refl, sym, ap, ◌∙◌}
use mathlib.Core.Logic.{◌⊎◌, inr}
use mathlib.Core.Bool.{Bool, true, false, cond}
use mathlib.Core.List.{List, [], ◌++◌, foldl, append_assoc}
use Prim.Native.Nat.{ℕ, min, ◌+◌, ◌-◌, ◌≤◌, ◌<◌}
use native.Mathlib.Omega.{arith}
use lib.ListN.{length, take, drop, drop_of_length-le, length-drop}
use Rattle.in_place.specs.declared.Session.{Session}
use Rattle.collect.specs.declared.Reader.{Reader as Code-as-Reader}
use Rattle.transcript.specs.declared.Held.{Held}
use Rattle.transcript.specs.Transcript.{Reader, unprinted, with_line, ended, fed, LineHeld, held_line, held_in}
use Rattle.collect.specs.Dialogue.{Dialogue, turn}
use Rattle.collect.specs.Answering.{Keeps, reader_in, Over}
use Rattle.serve.specs.Serving.{TakesLine}
use Rattle.dialogue.specs.Taking.{TakesLines}
use Rattle.transcript.proofs.Transcripts.{stays_over, line_by_line}
use Rattle.transcript.proofs.Printing.{unprinted_foldl}
use Rattle.transcript.proofs.Holding.{held_all}
use Rattle.dialogue.proofs.Slices.{part_from, back, keeps_more, back_length, back_taken, back_keeps}

-- what a block leads to, but for what is printed
abbrev left : Reader Dialogue → List ℕ → Reader Dialogue
left r block = unprinted (foldl (fed turn) r block)

-- where a block stands at a byte: what the rest leads to from there is what the block leads to
pub record StandsAt (start : Reader Dialogue) (block : List ℕ) (r : Code-as-Reader) (s : Session) (links ducts line : List ℕ) (from : ℕ) : Type 0 where
  pub leads : left start block ≡ left (reader_in r s links ducts line []) (drop from block)

module _ {start : Reader Dialogue} {block : List ℕ} {r : Code-as-Reader} {s : Session} {links ducts line : List ℕ} {from : ℕ} (at : StandsAt start block r s links ducts line from) where
  pub stands_lines : (x : Code-as-Reader) (s' : Session) (links' ducts' line' : List ℕ) (next : ℕ) (output : List ℕ)
      → TakesLines r s links ducts line block from x s' links' ducts' line' next output → StandsAt start block x s' links' ducts' line' next
  stands_lines x s' links' ducts' line' next output t =
      record { leads = at.leads ∙ ap unprinted (t []) ∙ unprinted_foldl turn (reader_in x s' links' ducts' line' output) (drop next block) }

-- a line is taken, with its reply in the part of a slice from w on: the slice was o, and is n
pub record LineTaken (r : Code-as-Reader) (s : Session) (links ducts line : List ℕ) (x : Code-as-Reader) (s' : Session) (links' ducts' o : List ℕ) (w : ℕ) (n : List ℕ) (count : ℕ) : Type 0 where
  pub part : List ℕ
  pub long : length part ≡ length (part_from o w)
  pub slice : n ≡ back o w part
  pub takes : TakesLine r s links ducts line x s' links' ducts' (take count part)
  pub keeps : Keeps count (part_from o w) part

pub line_taken : (r : Code-as-Reader) (s : Session) (links ducts line : List ℕ) (x : Code-as-Reader) (s' : Session) (links' ducts' o : List ℕ) (w : ℕ) (p : List ℕ) (count : ℕ)
    → length p ≡ length (part_from o w) → TakesLine r s links ducts line x s' links' ducts' (take count p) → Keeps count (part_from o w) p
    → LineTaken r s links ducts line x s' links' ducts' o w (back o w p) count
line_taken r s links ducts line x s' links' ducts' o w p count q t k = record { part = p; long = q; slice = refl; takes = t; keeps = k }

pub taken_length : {r : Code-as-Reader} {s : Session} {links ducts line : List ℕ} {x : Code-as-Reader} {s' : Session} {links' ducts' o : List ℕ} {w : ℕ} {n : List ℕ} {k : ℕ} → w ≤ length o
    → LineTaken r s links ducts line x s' links' ducts' o w n k → length n ≡ length o
taken_length {o = o} {w = w} h t = ap length t.slice ∙ back_length o w h t.part t.long

-- where the lines of a block have been taken to: what is known there, the place, and the replies at the start of a slice
pub record Reached (r₀ : Code-as-Reader) (s₀ : Session) (links₀ ducts₀ line₀ block : List ℕ) (from : ℕ) (out₀ : List ℕ) (r : Code-as-Reader) (s : Session) (links ducts line : List ℕ) (next : ℕ) (out : List ℕ) (written : ℕ) : Type 0 where
  pub taken : TakesLines r₀ s₀ links₀ ducts₀ line₀ block from r s links ducts line next (take written out)
  pub within : next ≤ length block
  pub room : written ≤ length out
  pub onward : from ≤ next
  pub begun : (written ≡ 0) ⊎ (from < next)
  pub keeps : Keeps written out₀ out

-- what is known with the bytes that a block leaves of a line
abbrev pub holding : Code-as-Reader → Held → Code-as-Reader
holding r h = record { kept = r.kept; number = r.number; held = h.held; stopped = r.stopped }

module _ {r₀ : Code-as-Reader} {s₀ : Session} {links₀ ducts₀ line₀ block : List ℕ} {from : ℕ} {out₀ : List ℕ} {r : Code-as-Reader} {s : Session} {links ducts line : List ℕ} {at : ℕ} {out : List ℕ} {written : ℕ}
    (z : Reached r₀ s₀ links₀ ducts₀ line₀ block from out₀ r s links ducts line at out written) {over : Bool} (o : Over r over) where
  -- where no more is read, the rest of the block is taken
  pub reached_over : over ≡ true → TakesLines r₀ s₀ links₀ ducts₀ line₀ block from r s links ducts line (length block) (take written out)
  reached_over q printed =
      let known = reader_in r s links ducts line (printed ++ take written out) in
      z.taken printed
      ∙ (stays_over turn known (sym (o s links ducts line (printed ++ take written out)) ∙ q)).0 (drop at block)
      ∙ sym (ap (foldl (fed turn) known) (drop_of_length-le block {i = length block} (omega arith)))

  -- the line goes on in the block
  module _ (more : over ≡ false) (h : Held) (line' : List ℕ) (e : held_in h line' block ≡ held_line (take r.held line) (drop at block)) where
    lines_held : (b : Bool) → h.ends ≡ b → (printed : List ℕ)
        → foldl (fed turn) (reader_in r₀ s₀ links₀ ducts₀ line₀ printed) (drop from block)
        ≡ (let new = reader_in (holding r h) s links ducts line' (printed ++ take written out) in cond b (foldl (fed turn) (ended turn new) (drop h.next block)) new)
    lines_held b q printed =
        let old = reader_in r s links ducts line (printed ++ take written out) in
        let new = reader_in (holding r h) s links ducts line' (printed ++ take written out) in
        let after : LineHeld → Reader Dialogue = λ l. cond l.ends (foldl (fed turn) (ended turn (with_line old l.line)) l.rest) (with_line old l.line) in
        z.taken printed
        ∙ line_by_line turn old (drop at block)
        ∙ ap (λ (b : Bool). cond b old (after (held_line (take r.held line) (drop at block)))) (sym (o s links ducts line (printed ++ take written out)) ∙ more)
        ∙ sym (ap after e)
        ∙ ap (λ (c : Bool). cond c (foldl (fed turn) (ended turn new) (drop h.next block)) new) q

    -- it does not end there
    module _ (q : h.ends ≡ false) where
      all : drop h.next block ≡ []
      all = ap (λ (l : LineHeld). l.rest) e ∙ held_all (drop at block) (take r.held line) (sym (ap (λ (l : LineHeld). l.ends) e) ∙ q)

      pub reached_held : TakesLines r₀ s₀ links₀ ducts₀ line₀ block from (holding r h) s links ducts line' h.next (take written out)
      reached_held printed = lines_held false q printed ∙ sym (ap (foldl (fed turn) (reader_in (holding r h) s links ducts line' (printed ++ take written out))) all)

      pub reached_all : length block ≤ h.next
      reached_all = omega (arith, ap length all, length-drop h.next block)

    -- it ends there, and is taken
    pub reached_more : h.ends ≡ true → h.next ≤ length block → at < h.next → (x : Code-as-Reader) (s' : Session) (links' ducts' n : List ℕ) (count : ℕ)
        → LineTaken (holding r h) s links ducts line' x s' links' ducts' out written n count → (k : ℕ) → k ≡ min count (length n - written)
        → Reached r₀ s₀ links₀ ducts₀ line₀ block from out₀ x s' links' ducts' line' h.next n (written + k)
    reached_more q w on x s' links' ducts' n count t k m =
        let after : List ℕ → Reader Dialogue = λ l. foldl (fed turn) (reader_in x s' links' ducts' line' l) (drop h.next block) in
        let m' = m ∙ ap (λ (l : List ℕ). min count (length l - written)) t.slice in
        record {
          taken = λ printed.
              lines_held true q printed
              ∙ ap (λ (y : Reader Dialogue). foldl (fed turn) y (drop h.next block)) (sym (t.takes (printed ++ take written out)))
              ∙ ap after (append_assoc printed (take written out) (take count t.part))
              ∙ sym (ap (λ (l : List ℕ). after (printed ++ l)) (ap (take (written + k)) t.slice ∙ back_taken out written z.room t.part t.long count k m'));
          within = w;
          room = omega (arith, m, taken_length z.room t, z.room);
          onward = omega (arith, on, z.onward);
          begun = inr (omega (arith, on, z.onward));
          keeps =
              ap (drop (written + k)) t.slice
              ∙ back_keeps out written z.room t.part t.long count k m' t.keeps
              ∙ keeps_more written k out₀ out z.keeps;
        }
