-- Laws of an array that numbers are written into, in the code's terms: a gap opened in it, and a list written at an index, number by number.
use Rattle.std.proofs.Common.{◌≡◌, sym, ap, ◌∙◌, List, ◌∷◌, ◌++◌, reverse, ℕ, suc, ◌+◌, ◌-◌, ◌≤◌, ◌<◌, add-one, arith, length, get_or, set, take, drop}
use Rattle.std.proofs.Math.ListN.{length-take, take-append-drop, get_or-append}
use Rattle.std.proofs.Math.Seq.{take-suc, drop-cons, get_or-take, set_at, append_snoc, paste, paste-suc}
use Rattle.mondschein.proofs.Lists.{at_same, at_reverse}

-- the numbers from index k up to count stand c places higher, and everything else as before
abbrev pub gap : List ℕ → ℕ → ℕ → ℕ → List ℕ
gap o k count c = take (k + c) o ++ (take (count - k) (drop k o) ++ drop (count + c) o)

pub gap_begin : (o : List ℕ) (count c : ℕ) → o ≡ gap o count count c
gap_begin o count c = let e : count - count ≡ 0 = omega arith in sym (rw e (take-append-drop (count + c) o))

gap_suc : (o : List ℕ) (j count c : ℕ) → j < count → count + c ≤ length o → set (gap o (suc j) count c) (j + c) (get_or (gap o (suc j) count c) j 0) ≡ gap o j count c
gap_suc o j count c h m =
    ap (λ (x : ℕ). set (gap o (suc j) count c) (j + c) x)
    (get_or-append (take (suc j + c) o) above 0 j (omega (arith, length-take (suc j + c) o)) ∙ get_or-take (suc j + c) o j 0 (omega arith))
    ∙ ap (λ (l : List ℕ). set (l ++ above) (j + c) (get_or o j 0)) (ap (λ (k : ℕ). take k o) (let z : suc j + c ≡ suc (j + c) = omega arith in z) ∙ take-suc o (j + c) 0 (omega arith))
    ∙ ap (λ (l : List ℕ). set l (j + c) (get_or o j 0)) (append_snoc (take (j + c) o) (get_or o (j + c) 0) above)
    ∙ set_at (take (j + c) o) (get_or o (j + c) 0) above (get_or o j 0) (j + c) (omega (arith, length-take (j + c) o))
    ∙ ap (λ (l : List ℕ). take (j + c) o ++ (l ++ drop (count + c) o)) (sym moved)
  where
    above : List ℕ
    above = take (count - suc j) (drop (suc j) o) ++ drop (count + c) o

    moved : take (count - j) (drop j o) ≡ get_or o j 0 ∷ take (count - suc j) (drop (suc j) o)
    moved = let e : count - j ≡ suc (count - suc j) = omega arith in rw (e, drop-cons o j 0 (omega arith))

-- one more number moved, the one below index k
pub gap_more : (o : List ℕ) (k count c : ℕ) → 0 < k → k ≤ count → count + c ≤ length o → set (gap o k count c) (k - 1 + c) (get_or (gap o k count c) (k - 1) 0) ≡ gap o (k - 1) count c
gap_more o k count c l h m =
    ap (λ (i : ℕ). set (gap o i count c) (k - 1 + c) (get_or (gap o i count c) (k - 1) 0)) (let z : k ≡ suc (k - 1) = omega arith in z)
    ∙ gap_suc o (k - 1) count c (omega arith) m

-- the number that a list turned round has at index k
pub reversed_at : (s : List ℕ) (k : ℕ) → k < length s → get_or s (length s - 1 - k) 0 ≡ get_or (reverse s) k 0
reversed_at s k h = at_same s _ _ (omega arith) ∙ sym (at_reverse s k h)

-- one more number of the list written
pub paste_more : (d : List ℕ) (i : ℕ) (s : List ℕ) (k x : ℕ) → x ≡ get_or s k 0 → i + length s ≤ length d → k < length s → set (paste d i s k) (i + k) x ≡ paste d i s (k + 1)
paste_more d i s k x e m h = rw (e, add-one) (paste-suc d i s k 0 (omega arith) h)
