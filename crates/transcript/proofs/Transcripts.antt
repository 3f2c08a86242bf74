-- The bytes of an input, fed one after another, print its transcript: of a dialogue to which a line that is too long is the same as
-- its first 6,145 bytes, and stops.
use mathlib.Core.Path.{◌≡◌, refl, sym, ap, ◌∙◌}
use mathlib.Core.Logic.{⊎_elim}
use mathlib.Core.Bool.{Bool, true, false, cond}
use mathlib.Core.List.{List, [], ◌∷◌, ◌++◌, foldl, append_assoc, append-nil}
use Prim.Native.Nat.{ℕ, zero, suc, ◌-◌, ◌≤◌, ◌<◌}
use native.Mathlib.Omega.{arith}
use lib.Dec.{eqb}
use lib.ListN.{length, take, length-take, length-append}
use lib.Seq.{take_all, take_at}
use borrow.Author.Tests.{lt-ltb, le-ltb, ltb-true, ltb-false}
use Rattle.mondschein.proofs.Logic.{clash, less?, or_left, true_or, false_or}
use Rattle.transcript.specs.Transcript.{begun, lines_of, blank, Turn, printed_from, transcript, Reader, with_line, over, lengthened, too_long, started, ended, lengthens, fed, finished, PrintsTranscript, StaysOver, LineHeld, held_line, LineByLine}

-- the lines of an input of which the first has begun with the bytes h
unfoldable lines_from : List ℕ → List ℕ → List (List ℕ)
lines_from h [] = cond (blank h) [] (h ∷ [])
lines_from h (b ∷ s) = cond (eqb b 10) (h ∷ lines_from [] s) (lines_from (h ++ (b ∷ [])) s)

-- the bytes h before the first of the lines
abbrev prefixed : List ℕ → List (List ℕ) → List (List ℕ)
prefixed h [] = cond (blank h) [] (h ∷ [])
prefixed h (l ∷ ls) = (h ++ l) ∷ ls

prefixed_nil : (ls : List (List ℕ)) → prefixed [] ls ≡ ls
prefixed_nil [] = refl
prefixed_nil (l ∷ ls) = refl

prefixed_more : (h : List ℕ) (b : ℕ) (ls : List (List ℕ)) → prefixed (h ++ (b ∷ [])) ls ≡ prefixed h (begun b ls)
prefixed_more [] b [] = refl
prefixed_more (x ∷ h) b [] = refl
prefixed_more h b (l ∷ ls) = ap (λ (k : List ℕ). k ∷ ls) (append_assoc h (b ∷ []) l)

lines_prefixed : (s h : List ℕ) → lines_from h s ≡ prefixed h (lines_of s)
unfolding lines_from lines_of
lines_prefixed [] h = refl
lines_prefixed (b ∷ s) h = go (eqb b 10) (lines_prefixed s [] ∙ prefixed_nil (lines_of s)) (lines_prefixed s (h ++ (b ∷ [])))
  where
    go : (t : Bool) → lines_from [] s ≡ lines_of s → lines_from (h ++ (b ∷ [])) s ≡ prefixed (h ++ (b ∷ [])) (lines_of s)
        → cond t (h ∷ lines_from [] s) (lines_from (h ++ (b ∷ [])) s) ≡ prefixed h (cond t ([] ∷ lines_of s) (begun b (lines_of s)))
    go true p q = ap (λ (ls : List (List ℕ)). h ∷ ls) p ∙ ap (λ (l : List ℕ). l ∷ lines_of s) (sym (append-nil h))
    go false p q = q ∙ prefixed_more h b (lines_of s)

lines_begin : (s : List ℕ) → lines_from [] s ≡ lines_of s
lines_begin s = lines_prefixed s [] ∙ prefixed_nil (lines_of s)

take_nil : (n : ℕ) → take {A = List ℕ} n [] ≡ []
take_nil zero = refl
take_nil (suc n) = refl

-- the lines of an input of which the first has begun with 6,145 bytes
record Long (h s : List ℕ) : Type 0 where
  pub first : List ℕ
  pub others : List (List ℕ)
  pub lines : lines_from h s ≡ first ∷ others
  pub begins : take 6145 first ≡ h

lines_long : (h s : List ℕ) → length h ≡ 6145 → Long h s
lines_long [] s q = absurd (omega (arith, q))
lines_long (x ∷ h) s q = go (lines_of s) (lines_prefixed s (x ∷ h))
  where
    go : (ls : List (List ℕ)) → lines_from (x ∷ h) s ≡ prefixed (x ∷ h) ls → Long (x ∷ h) s
    go [] e = record { first = x ∷ h; others = []; lines = e; begins = take_all 6145 (x ∷ h) (omega (arith, q)) }
    go (l ∷ ls) e = record { first = (x ∷ h) ++ l; others = ls; lines = e; begins = take_at (x ∷ h) l 6145 q }

-- 65,535 lines of an input are read
transcript_lines : {A : Type 0} (turn : A → ℕ → List ℕ → Turn A) (a : A) (input : List ℕ) → transcript turn a input ≡ printed_from turn a 1 (take 65535 (lines_of input))
unfolding transcript
transcript_lines turn a input = refl

module _ {A : Type 0} (turn : A → ℕ → List ℕ → Turn A) where
  -- what is printed for the rest of an input
  rest : Reader A → List ℕ → List ℕ
  rest r s = (finished turn (foldl (fed turn) r s)).output

  -- the reader after the line l
  abbrev next : Reader A → List ℕ → Reader A
  next r l =
      let t = turn r.state r.number l in
      record { state = t.after; number = suc r.number; line = []; output = r.output ++ t.printed; stopped = t.stops }

  -- the line ends where no more is read, and where it is read
  ended_by : (r : Reader A) (b : Bool) → over r ≡ b → ended turn r ≡ cond b r (next r r.line)
  unfolding ended
  ended_by r b q = ap (λ (c : Bool). cond c r (next r r.line)) q

  -- one more byte where no more is read, and where it is read
  fed_by : (r : Reader A) (x : ℕ) (b : Bool) → over r ≡ b → fed turn r x ≡ cond b r (cond (eqb x 10) (ended turn r) (lengthens turn r (lengthened r.line x)))
  unfolding fed
  fed_by r x b q = ap (λ (c : Bool). cond c r (cond (eqb x 10) (ended turn r) (lengthens turn r (lengthened r.line x)))) q

  foldl_over : (s : List ℕ) (r : Reader A) → over r ≡ true → foldl (fed turn) r s ≡ r
  foldl_over [] r q = refl
  foldl_over (b ∷ s) r q = ap (λ (x : Reader A). foldl (fed turn) x s) (fed_by r b true q) ∙ foldl_over s r q

  finished_over : (r : Reader A) → over r ≡ true → finished turn r ≡ r
  unfolding finished
  finished_over r q = go (blank r.line)
    where
      go : (t : Bool) → cond t r (ended turn r) ≡ r
      go true = refl
      go false = ended_by r true q

  -- where no more is read, nothing that follows changes anything
  pub stays_over : StaysOver turn
  stays_over r q = (λ s. foldl_over s r q, finished_over r q)

  -- a final line ends as at a line feed; where none has begun, nothing changes
  pub finished_feed : (r : Reader A) → 1 ≤ length r.line → finished turn r ≡ fed turn r 10
  unfolding finished fed
  finished_feed r h = begins r.line h ∙ go (over r) refl
    where
      begins : (l : List ℕ) → 1 ≤ length l → cond (blank l) r (ended turn r) ≡ ended turn r
      begins [] g = absurd (omega arith)
      begins (b ∷ l) g = refl

      go : (b : Bool) → over r ≡ b → ended turn r ≡ cond b r (ended turn r)
      go true q = ended_by r true q
      go false q = refl

  pub finished_none : (r : Reader A) → r.line ≡ [] → finished turn r ≡ r
  unfolding finished
  finished_none r q = ap (λ (l : List ℕ). cond (blank l) r (ended turn r)) q

  -- then nothing is printed
  stays : (s : List ℕ) (r : Reader A) → over r ≡ true → rest r s ≡ r.output
  unfolding rest
  stays s r q = ap (λ (x : Reader A). (finished turn x).output) (foldl_over s r q) ∙ ap (λ (x : Reader A). x.output) (finished_over r q)

  -- what the lines print from the line of a reader on
  abbrev lines : Reader A → List (List ℕ) → List ℕ
  lines r ls = r.output ++ printed_from turn r.state r.number (take (65536 - r.number) ls)

  -- nothing, where no line is left or no more is read
  lines_nil : (r : Reader A) → lines r [] ≡ r.output
  unfolding printed_from
  lines_nil r = ap (λ (ls : List (List ℕ)). r.output ++ printed_from turn r.state r.number ls) (take_nil (65536 - r.number)) ∙ append-nil r.output

  lines_none : (r : Reader A) (ls : List (List ℕ)) → 65535 < r.number → lines r ls ≡ r.output
  unfolding printed_from
  lines_none r ls h =
      ap (λ (n : ℕ). r.output ++ printed_from turn r.state r.number (take n ls)) (let z : 65536 - r.number ≡ 0 = omega arith in z)
      ∙ append-nil r.output

  -- one line, and then the others unless it stops
  lines_cons : (r : Reader A) (h : List ℕ) (ls : List (List ℕ)) {out : List ℕ} → r.number ≤ 65535
      → ((next r h).stopped ≡ true → out ≡ (next r h).output) → ((next r h).stopped ≡ false → out ≡ lines (next r h) ls) → out ≡ lines r (h ∷ ls)
  unfolding printed_from
  lines_cons r h ls {out} k yes-stop no_stop =
      let e : 65536 - r.number ≡ suc (65536 - suc r.number) = omega arith in
      rw e (go (next r h).stopped refl ∙ append_assoc r.output (turn r.state r.number h).printed _)
    where
      others : List ℕ
      others = printed_from turn (next r h).state (suc r.number) (take (65536 - suc r.number) ls)

      go : (b : Bool) → (next r h).stopped ≡ b → out ≡ (next r h).output ++ cond b [] others
      go true q = yes-stop q ∙ sym (append-nil (next r h).output)
      go false q = no_stop q

  module _ (cut : (a : A) (k : ℕ) (l : List ℕ) → turn a k (take 6145 l) ≡ turn a k l)
      (stop : (a : A) (k : ℕ) (l : List ℕ) → 6144 < length l → (turn a k l).stops ≡ true) where
    -- a line that is too long prints what its first 6,145 bytes print, and stops
    ended_long : (r : Reader A) (s : List ℕ) → length r.line ≡ 6145 → r.number ≤ 65535 → (next r r.line).output ≡ lines r (lines_from r.line s)
    ended_long r s q g =
        let m = lines_long r.line s q in
        let same : next r r.line ≡ next r m.first = ap (λ (t : Turn A). record { state = t.after; number = suc r.number; line = []; output = r.output ++ t.printed; stopped = t.stops })
        (ap (turn r.state r.number) (sym m.begins) ∙ cut r.state r.number m.first) in
        lines_cons r m.first m.others g (λ _. ap (λ (x : Reader A). x.output) same)
        (λ f. clash (stop r.state r.number r.line (omega (arith, q))) (ap (λ (x : Reader A). x.stopped) same ∙ f))
        ∙ sym (ap (lines r) m.lines)

    -- what the rest of an input prints is what its lines print
    prints : (s : List ℕ) (r : Reader A) → r.stopped ≡ false → length r.line ≤ 6144 → rest r s ≡ lines r (lines_from r.line s)
    unfolding rest finished lines_from
    prints [] r q l =
        ⊎_elim
        (λ (g : 65535 < r.number). stays [] r (true_or r.stopped _ (lt-ltb _ _ g)) ∙ sym (lines_none r (lines_from r.line []) g))
        (λ (g : r.number ≤ 65535). go (blank r.line) g)
        (less? 65535 r.number)
      where
        go : (t : Bool) → r.number ≤ 65535 → (cond t r (ended turn r)).output ≡ lines r (cond t [] (r.line ∷ []))
        go true g = sym (lines_nil r)
        go false g =
            ap (λ (z : Reader A). z.output) (ended_by r false (false_or _ _ q (le-ltb _ _ g)))
            ∙ lines_cons r r.line [] g (λ _. refl) (λ _. sym (lines_nil (next r r.line)))
    prints (b ∷ s) r q l =
        ⊎_elim
        (λ (g : 65535 < r.number). stays (b ∷ s) r (true_or r.stopped _ (lt-ltb _ _ g)) ∙ sym (lines_none r (lines_from r.line (b ∷ s)) g))
        (λ (g : r.number ≤ 65535).
        let o = false_or _ _ q (le-ltb _ _ g) in
        ap (λ (x : Reader A). rest x s) (fed_by r b false o)
        ∙ go g o (eqb b 10) (too_long more) refl (λ f. prints s (next r r.line) f (omega arith)) (λ f. prints s (with_line r more) q (ltb-false 6144 (length more) f)))
        (less? 65535 r.number)
      where
        more : List ℕ
        more = lengthened r.line b

        whole : lines r (lines_from more s) ≡ lines r (lines_from (r.line ++ (b ∷ [])) s)
        whole = ap (λ (x : List ℕ). lines r (lines_from x s)) (take_all 6145 (r.line ++ (b ∷ [])) (omega (arith, l, length-append r.line (b ∷ []))))

        go : r.number ≤ 65535 → over r ≡ false → (c t : Bool) → too_long more ≡ t
            → ((next r r.line).stopped ≡ false → rest (next r r.line) s ≡ lines (next r r.line) (lines_from [] s))
            → (too_long more ≡ false → rest (with_line r more) s ≡ lines r (lines_from more s))
            → rest (cond c (ended turn r) (cond t (ended turn (with_line r more)) (with_line r more))) s ≡ lines r (cond c (r.line ∷ lines_from [] s) (lines_from (r.line ++ (b ∷ [])) s))
        go g o true t u p z =
            ap (λ (x : Reader A). rest x s) (ended_by r false o)
            ∙ lines_cons r r.line (lines_from [] s) g (λ y. stays s (next r r.line) (or_left _ _ y)) p
        go g o false true u p z =
            let long = ltb-true 6144 (length more) u in
            ap (λ (x : Reader A). rest x s) (ended_by (with_line r more) false o)
            ∙ stays s (next r more) (or_left _ _ (stop r.state r.number more long))
            ∙ ended_long (with_line r more) s (omega (arith, long, length-take 6145 (r.line ++ (b ∷ [])))) g
            ∙ whole
        go g o false false u p z = z u ∙ whole

    pub prints_transcript : PrintsTranscript turn
    unfolding rest
    prints_transcript a input =
        prints input (started turn a) refl (omega arith)
        ∙ ap (λ (ls : List (List ℕ)). printed_from turn a 1 (take 65535 ls)) (lines_begin input)
        ∙ sym (transcript_lines turn a input)

-- a block, line by line, where it is read
module _ {A : Type 0} (turn : A → ℕ → List ℕ → Turn A) where
  abbrev after : Reader A → LineHeld → Reader A
  after r h = cond h.ends (foldl (fed turn) (ended turn (with_line r h.line)) h.rest) (with_line r h.line)

  held_line_lem : (block : List ℕ) (r : Reader A) → over r ≡ false → foldl (fed turn) r block ≡ after r (held_line r.line block)
  unfolding held_line
  held_line_lem [] r q = refl
  held_line_lem (b ∷ s) r q = ap (λ (y : Reader A). foldl (fed turn) y s) (fed_by turn r b false q) ∙ step (eqb b 10) (too_long more) (held_line_lem s (with_line r more) q)
    where
      more : List ℕ
      more = lengthened r.line b

      step : (c t : Bool) → foldl (fed turn) (with_line r more) s ≡ after r (held_line more s)
          → foldl (fed turn) (cond c (ended turn r) (cond t (ended turn (with_line r more)) (with_line r more))) s
          ≡ after r (cond c (record { line = r.line; rest = s; ends = true }) (cond t (record { line = more; rest = s; ends = true }) (held_line more s)))
      step true t p = refl
      step false true p = refl
      step false false p = p

  pub line_by_line : LineByLine turn
  line_by_line r block = go (over r) refl
    where
      go : (b : Bool) → over r ≡ b → foldl (fed turn) r block ≡ cond b r (after r (held_line r.line block))
      go true q = foldl_over turn block r q
      go false q = held_line_lem block r q
