-- The part of an ear between its ends, as the code lends it: a search of the part is one of the new indices of a later ear.
-- An index of the part is one less than that of the ear.
use Rattle.std.proofs.Common.{◌≡◌, ℕ, zero, suc, ◌+◌, ◌-◌, ◌≤◌, ◌<◌, Bool, false, ◌&&◌, List, length, take, drop, Option, Some, None, unwrap_or, IfSome, IsSomeAnd, MatchOption, sym, ap, ◌∙◌, arith, length-take, length-drop, get_or-take, get_or-drop}
use Rattle.mondschein.specs.Network.{low, at, is_new}
use Rattle.mondschein.proofs.Logic.{false_and, true_and}
use Rattle.mondschein.proofs.Search.{low_is, low_stop, low_none}
use Rattle.mondschein.proofs.Passed.{new_between, between_new}

-- the numbers between the ends, as the code lends them
abbrev pub part : List ℕ → List ℕ
part e = take (length e - 1 - 1) (drop 1 e)

pub part_length : (e : List ℕ) → length (part e) ≡ length e - 1 - 1
part_length e = omega (arith, length-take (length e - 1 - 1) (drop 1 e), length-drop 1 e)

part_at : (e : List ℕ) (k : ℕ) → k < length e - 1 - 1 → at (part e) k ≡ at e (suc k)
part_at e k l = get_or-take (length e - 1 - 1) (drop 1 e) k 0 l ∙ get_or-drop 1 e k 0 ∙ ap (at e) (let z : 1 + k ≡ suc k = omega arith in z)

module _ (e : List ℕ) (q : ℕ → Bool) where
  -- a search of the part is one of the new indices
  module _ {r : ℕ} (found : r ≡ low (λ k. q (at (part e) k)) (length (part e))) where
    before_part : (j : ℕ) → 0 < j → j ≤ r → suc j < length e → q (at e j) ≡ false
    before_part zero z l m = absurd (omega arith)
    before_part (suc j) z l m =
        ap q (sym (part_at e j (omega arith)))
        ∙ (low_is (λ k. q (at (part e) k)) (length (part e))).before j (omega (arith, found))

    pub part_hit : r < length e - 1 - 1 → r + 1 ≡ low (λ k. is_new false (length e) k && q (at e k)) (length e)
    part_hit l =
        sym
        (low_stop (λ k. is_new false (length e) k && q (at e k)) (length e) (r + 1)
        (λ j m. false_and (is_new false (length e) j) _ (λ t. let (a, b) = new_between (length e) j t in before_part j a (omega arith) b))
        (omega arith)
        (true_and _ _ (between_new (length e) (r + 1) (omega arith) (omega arith))
        (ap q (ap (at e) (let z : r + 1 ≡ suc r = omega arith in z) ∙ sym (part_at e r l))
        ∙ ap (λ (k : ℕ). q (at (part e) k)) found
        ∙ (low_is (λ k. q (at (part e) k)) (length (part e))).hit (omega (arith, found, part_length e)))))

    pub part_miss : length e - 1 - 1 ≤ r → length e ≡ low (λ k. is_new false (length e) k && q (at e k)) (length e)
    part_miss l =
        sym
        (low_none (λ k. is_new false (length e) k && q (at e k)) (length e)
        (λ j m. false_and (is_new false (length e) j) _ (λ t. let (a, b) = new_between (length e) j t in before_part j a (omega arith) b)))

    -- a search of the part, one index on, is a search of the ear
    pub part_found : {Q : ℕ → ℕ → Type 0} (o s : Option ℕ) → unwrap_or o (length (part e)) ≡ r → IfSome o (λ k. k < length (part e))
        → MatchOption o (s ≡ None) (λ k. IsSomeAnd s (Q k)) → ((k j : ℕ) → Q k j → j ≡ k + 1)
        → unwrap_or s (length e) ≡ low (λ k. is_new false (length e) k && q (at e k)) (length e)
    part_found None s m w h t = ap (λ (p : Option ℕ). unwrap_or p (length e)) h ∙ part_miss (omega (arith, m, part_length e))
    part_found (Some k) None m w h t = absurd h
    part_found (Some k) (Some j) m w h t =
        let u : k < length (part e) = w in
        omega (arith, t k j h, m, part_hit (omega (arith, m, u, part_length e)))
