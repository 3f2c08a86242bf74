-- The end of an input, and the whole of it: whatever the pieces in which its blocks are taken, what is printed is what threeways prints
-- for their bytes.
use mathlib.Core.Path.{◌≡◌, refl, sym, ap, ◌∙◌}
use mathlib.Core.Bool.{Bool, true}
use mathlib.Core.List.{List, [], ◌∷◌, ◌++◌, foldl, append_assoc, append-nil, foldl-append}
use Prim.Native.Nat.{ℕ, ◌≤◌, ◌<◌}
use native.Mathlib.Omega.{arith}
use lib.ListN.{length, take, drop, drop_of_length-le, length-take}
use Rattle.in_place.specs.declared.Session.{Session}
use Rattle.collect.specs.declared.Reader.{Reader as Code-as-Reader}
use Rattle.transcript.specs.Transcript.{Reader, unprinted, over, started, fed, finished}
use Rattle.transcript.proofs.Transcripts.{stays_over, finished_feed, finished_none}
use Rattle.transcript.proofs.Printing.{unprinted_foldl, unprinted_finished}
use Rattle.collect.specs.Dialogue.{Dialogue, fresh, turn}
use Rattle.collect.specs.Answering.{reader_in, Over}
use Rattle.collect.proofs.Threeways.{prints_threeways}
use Rattle.dialogue.specs.Taking.{TakesLines, Finishes, Takes, from_start, Led, LedOver, LedToEnd, joined, Taken, start, call, another, PrintsBlocks, PrintsEarly}

-- the end of an input, where no line has begun, and where a line feed ends the one that has
module _ (r : Code-as-Reader) (s : Session) (links ducts line : List ℕ) where
  pub finishes_none : r.held ≡ 0 → Finishes r s links ducts line r s links ducts line []
  finishes_none q printed =
      ap (reader_in r s links ducts line) (append-nil printed)
      ∙ sym (finished_none turn (reader_in r s links ducts line printed) (ap (λ (k : ℕ). take k line) q))

  pub finishes_feed : 0 < r.held → length line ≡ 6145 → (x : Code-as-Reader) (s' : Session) (links' ducts' line' : List ℕ) (next : ℕ) (output : List ℕ)
      → TakesLines r s links ducts line (10 ∷ []) 0 x s' links' ducts' line' next output → 1 ≤ next → Finishes r s links ducts line x s' links' ducts' line' output
  finishes_feed h whole x s' links' ducts' line' next output t on printed =
      sym (ap (foldl (fed turn) (reader_in x s' links' ducts' line' (printed ++ output))) (drop_of_length-le (10 ∷ []) {i = next} (omega arith)))
      ∙ sym (t printed)
      ∙ sym (finished_feed turn (reader_in r s links ducts line printed) (omega (arith, h, whole, length-take r.held line)))

joined_more : (bs : List (List ℕ)) (b : List ℕ) → joined (bs ++ (b ∷ [])) ≡ joined bs ++ b
unfolding joined
joined_more [] b = append-nil b
joined_more (x ∷ bs) b = ap (λ (l : List ℕ). x ++ l) (joined_more bs b) ∙ sym (append_assoc x (joined bs) b)

-- what is known where an input has been taken to leads on as its bytes do
leads : {blocks : List (List ℕ)} {block : List ℕ} {at : ℕ} {r : Code-as-Reader} {s : Session} {links ducts line output : List ℕ}
    → Taken blocks block at r s links ducts line output → from_start (joined blocks ++ block) ≡ foldl (fed turn) (reader_in r s links ducts line output) (drop at block)
unfolding joined
leads start = refl
leads (call {output = output} printed t p) = leads t ∙ p output
leads (another {blocks} {block} {at} {r} {s} {links} {ducts} {line} {output} new t q) =
    ap (λ (l : List ℕ). from_start (l ++ new)) (joined_more blocks block)
    ∙ foldl-append (fed turn) (started turn fresh) (joined blocks ++ block) new
    ∙ ap (λ (x : Reader Dialogue). foldl (fed turn) x new)
    (leads t ∙ ap (foldl (fed turn) (reader_in r s links ducts line output)) (drop_of_length-le block {i = at} q))

pub prints_blocks : PrintsBlocks
prints_blocks blocks block at r s links ducts line output x s' links' ducts' line' last t q f =
    ap (λ (k : Reader Dialogue). k.output) (f output)
    ∙ sym (ap (λ (k : Reader Dialogue). (finished turn k).output)
    (leads t ∙ ap (foldl (fed turn) (reader_in r s links ducts line output)) (drop_of_length-le block {i = at} q)))
    ∙ prints_threeways fresh (joined blocks ++ block)

pub prints_early : PrintsEarly
prints_early blocks block at r s links ducts line output t q following =
    let known = reader_in r s links ducts line output in
    let stays = stays_over turn known q in
    sym (ap (λ (k : Reader Dialogue). k.output) (ap (finished turn) (ap (λ (x : Reader Dialogue). foldl (fed turn) x following) (leads t ∙ stays.0 (drop at block)) ∙ stays.0 following) ∙ stays.1))
    ∙ sym (ap (λ (k : Reader Dialogue). (finished turn k).output) (foldl-append (fed turn) (started turn fresh) (joined blocks ++ block) following))
    ∙ prints_threeways fresh ((joined blocks ++ block) ++ following)

module _ {r : Code-as-Reader} {s : Session} {links ducts line : List ℕ} (l : Led r s links ducts line) where
  -- one more block
  pub led_block : (block : List ℕ) (x : Code-as-Reader) (s' : Session) (links' ducts' line' : List ℕ) → Takes r s links ducts line block x s' links' ducts' line' → Led x s' links' ducts' line'
  led_block block x s' links' ducts' line' t = record {
    input = l.input ++ block;
    known =
        t
        ∙ ap (λ (k : Reader Dialogue). unprinted (foldl (fed turn) k block)) l.known
        ∙ sym (unprinted_foldl turn (from_start l.input) block)
        ∙ sym (ap unprinted (foldl-append (fed turn) (started turn fresh) l.input block));
  }

  -- no more is read
  pub led_over : (over : Bool) → Over r over → over ≡ true → LedOver r s links ducts line
  led_over b o q = record { led = l; over = sym (ap over l.known) ∙ sym (o s links ducts line []) ∙ q }

  -- the end of the input
  pub led_end : (x : Code-as-Reader) (s' : Session) (links' ducts' line' last : List ℕ) → Finishes r s links ducts line x s' links' ducts' line' last → LedToEnd x s' links' ducts' line'
  led_end x s' links' ducts' line' last f = record {
    input = l.input;
    known =
        ap unprinted (f [])
        ∙ ap (λ (k : Reader Dialogue). unprinted (finished turn k)) l.known
        ∙ sym (unprinted_finished turn (from_start l.input));
  }
