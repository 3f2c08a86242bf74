-- Laws of the bytes of a line that are held: one more byte, up to 6,145, and the bytes of a block up to the end of the line.
-- A line that does not end in a block takes all that is left of it.
use Rattle.std.proofs.Common.{◌≡◌, ◌≢◌, ℕ, ◌+◌, ◌-◌, ◌<◌, ◌≤◌, Bool, true, false, cond, eqb, List, [], ◌∷◌, ◌++◌, length, get_or, take, drop, set, refl, sym, ap, ◌∙◌, arith, add-one, length-take, length-drop, length-append, get_or-take, get_or-drop, take_all, take_at, take-suc-set, drop-cons, drop_of_length-le, eq-eqb, ne_eqb, lt-ltb, le-ltb}
use Rattle.mondschein.proofs.Logic.{clash}
use Rattle.transcript.specs.Transcript.{lengthened, too_long, LineHeld, held_line}

module _ (line : List ℕ) (held b : ℕ) (whole : length line ≡ 6145) where
  pub hold_full : 6145 ≤ held → take held line ≡ take 6145 (take held line ++ (b ∷ []))
  hold_full h =
      take_all held line (omega arith)
      ∙ sym (ap (λ (l : List ℕ). take 6145 (l ++ (b ∷ []))) (take_all held line (omega arith)) ∙ take_at line (b ∷ []) 6145 whole)

  pub hold_more : held < 6145 → take (held + 1) (set line held b) ≡ take 6145 (take held line ++ (b ∷ []))
  hold_more h =
      ap (λ (k : ℕ). take k (set line held b)) (add-one held)
      ∙ take-suc-set line held b (omega arith)
      ∙ sym (take_all 6145 (take held line ++ (b ∷ [])) (omega (arith, length-append (take held line) (b ∷ []), length-take held line)))

-- a byte of what a block has from a place on
pub rest_byte : (block : List ℕ) (from i : ℕ) → i < length (take (length block - from) (drop from block))
    → drop (from + i) block ≡ get_or (take (length block - from) (drop from block)) i 0 ∷ drop (from + i + 1) block
rest_byte block from i h =
    let n : i < length block - from = omega (arith, length-take {A = ℕ}) in
    let l : from + i < length block = omega arith in
    rw (add-one, drop-cons block (from + i) 0 l, get_or-take (length block - from) (drop from block) i 0 n, get_or-drop from block i 0)

pub rest_none : (block : List ℕ) (from i : ℕ) → length (take (length block - from) (drop from block)) ≤ i → drop (from + i) block ≡ drop (length block) block
rest_none block from i h =
    let l : length block ≤ from + i = omega (arith, length-take {A = ℕ}, length-drop {A = ℕ}) in
    rw (drop_of_length-le block l, drop_of_length-le block {i = length block} (omega arith))

-- the line l goes on where the block ends
pub held_end : (l block : List ℕ) → held_line l (drop (length block) block) ≡ record { line = l; rest = drop (length block) block; ends = false }
unfolding held_line
held_end l block = let z : drop (length block) block ≡ [] = drop_of_length-le block (omega arith) in rw z

-- the line l goes on with a byte and the rest of a block
module _ (l rest : List ℕ) (b : ℕ) where
  pub held_feed : b ≡ 10 → held_line l (b ∷ rest) ≡ record { line = l; rest = rest; ends = true }
  unfolding held_line
  held_feed q = rw (eq-eqb b 10 q)

  module _ (d : b ≢ 10) (more : List ℕ) (e : more ≡ lengthened l b) where
    pub held_long : 6144 < length more → held_line l (b ∷ rest) ≡ record { line = more; rest = rest; ends = true }
    unfolding held_line
    held_long g = rw (ne_eqb b 10 d, ← e, lt-ltb 6144 (length more) g)

    pub held_byte : length more ≤ 6144 → held_line l (b ∷ rest) ≡ held_line more rest
    unfolding held_line
    held_byte g = rw (ne_eqb b 10 d, ← e, le-ltb 6144 (length more) g)

-- a line that does not end takes all that is left
pub held_all : (block l : List ℕ) → (held_line l block).ends ≡ false → (held_line l block).rest ≡ []
unfolding held_line
held_all [] l q = refl
held_all (b ∷ s) l q = go (eqb b 10) (too_long (lengthened l b)) (held_all s (lengthened l b)) q
  where
    ends : List ℕ → LineHeld
    ends x = record { line = x; rest = s; ends = true }

    go : (t u : Bool) → ((held_line (lengthened l b) s).ends ≡ false → (held_line (lengthened l b) s).rest ≡ [])
        → (cond t (ends l) (cond u (ends (lengthened l b)) (held_line (lengthened l b) s))).ends ≡ false
        → (cond t (ends l) (cond u (ends (lengthened l b)) (held_line (lengthened l b) s))).rest ≡ []
    go true u more z = clash refl z
    go false true more z = clash refl z
    go false false more z = more z
