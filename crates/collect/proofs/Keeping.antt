-- What a line leaves in the lent slices: a reply, and the numbers of an ear, stand at the start of a slice, and past them it holds what
-- it held. An ear that is read has at most 3,072 numbers, since each takes two bytes.
use Rattle.std.proofs.Common.{◌≡◌, ℕ, ◌+◌, ◌-◌, ◌*◌, ◌≤◌, List, [], ◌∷◌, ◌++◌, map, length, drop, refl, sym, ap, ◌∙◌, arith, length-append, drop-drop}
use Rattle.std.proofs.Math.Option.{Option, none, some}
use Rattle.std.proofs.Math.Seq.{drop-append-add}
use Rattle.mondschein.specs.Outcome.{over}
use Rattle.lines.specs.Writing.{EAR, ascii, decimal, spaced, separated, bracketed, Form, net, link, ducted, opening, ear, closing, walk, clearing, writing}
use Rattle.lines.specs.Reading.{reading}
use Rattle.lines.specs.Line.{held}
use Rattle.lines.proofs.Decimals.{decimal_some}
use Rattle.lines.proofs.ReadExactly.{read_exactly}
use Rattle.replies.specs.Replies.{Printed}
use Rattle.collect.specs.Answering.{Keeps}

-- a list at the start of a slice
over_keeps : (k : ℕ) (l slice : List ℕ) → length l ≤ k → Keeps k slice (over l slice)
over_keeps k l slice h =
    let e : k ≡ length l + (k - length l) = omega arith in
    ap (λ (m : ℕ). drop m (over l slice)) e
    ∙ drop-append-add l (drop (length l) slice) (k - length l)
    ∙ drop-drop (k - length l) (length l) slice
    ∙ sym (ap (λ (m : ℕ). drop m slice) e)

-- a reply
pub printed_keeps : (bytes held holds : List ℕ) (r : ℕ) → Printed bytes held r holds → Keeps r held holds
printed_keeps bytes held holds r (q, e) = ap (drop r) e ∙ over_keeps r bytes held (omega (arith, q))

spaced_long : (ns : List ℕ) → 2 * length ns ≤ length (spaced (map decimal ns))
unfolding spaced
spaced_long [] = omega arith
spaced_long (n ∷ ns) = omega (arith, length-append (decimal n) (spaced (map decimal ns)), decimal_some n, spaced_long ns)

-- the numbers of an ear
ear_short : (s numbers : List ℕ) → reading s ≡ some (ear numbers) → length numbers ≤ 3072
unfolding writing separated bracketed
ear_short s numbers e =
    let w = (read_exactly s (ear numbers)).0 e in
    let parts = spaced (map decimal numbers) in
    omega (arith, w.short, ap length w.bytes, length-append (EAR ++ parts) (ascii ")"), length-append EAR parts, spaced_long numbers)

pub numbers_keeps : (s numbers : List ℕ) → Keeps 3072 numbers (held (reading s) numbers)
numbers_keeps s numbers = go (reading s) refl
  where
    go : (f : Option Form) → reading s ≡ f → Keeps 3072 numbers (held f numbers)
    go none e = refl
    go (some (net n root first last)) e = refl
    go (some (link a b)) e = refl
    go (some (ducted a b duct)) e = refl
    go (some opening) e = refl
    go (some (ear l)) e = over_keeps 3072 l numbers (ear_short s l e)
    go (some closing) e = refl
    go (some (walk switch tree)) e = refl
    go (some clearing) e = refl
