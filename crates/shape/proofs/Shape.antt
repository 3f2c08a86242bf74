-- The checks up to 11 in the code's terms: one law for each way that the code answers.
-- 10, 14 and 11 stand apart, as in the code; the three before them lead to them.
use mathlib.Core.Path.{fun_ext}
use Rattle.std.proofs.Common.{◌≡◌, ℕ, pred, ◌+◌, ◌≤◌, ◌<◌, Bool, true, false, not, ◌&&◌, ◌||◌, cond, eqb, ltb, leb, List, [], ◌∷◌, length, Option, Some, None, is_some, unwrap_or, true≢false, sym, ap, ◌∙◌, arith, add-one, lt-ltb, le-ltb}
use Rattle.mondschein.specs.Network.{low, any, at, size, former, latter, joins, joined, link_of, is_new, new_count}
use Rattle.mondschein.specs.Judge.{Answer, given, refused, check, checked, numbered, ear_checks, wrong_length, too_large, repeated, not_joined, born_between, used_already, verdict_by}
use Rattle.mondschein.proofs.Logic.{or_left, true_or, or_false, false_or}
use Rattle.mondschein.proofs.Search.{low_is, low_ext, low_none}
use Rattle.mondschein.proofs.Checks.{Clear, check_pass, check_hit, check_miss, check_fail}
use Rattle.network.specs.Load.{network_of, table_of}
use Rattle.rows.specs.Rows.{marked}
use Rattle.shape.specs.Shape.{link_order, LinkAnswer, shape_order, ShapeAnswer}

pub least_two : (b : Bool) → 2 ≤ cond b 3 2
least_two true = omega arith
least_two false = omega arith

-- 14 is asked of a later ear only, and there between the ends
module _ (is_born : ℕ → Bool) (b : Bool) (e : List ℕ) where
  pub first_14 : b ≡ true → length e ≡ low (born_between is_born b e) (length e)
  unfolding born_between
  first_14 t = sym (low_none (born_between is_born b e) (length e) (λ k l. rw t))

  pub later_14 : b ≡ false → low (λ k. is_new false (length e) k && is_born (at e k)) (length e) ≡ low (born_between is_born b e) (length e)
  unfolding born_between
  later_14 f = rw f

-- the numbers at k and `next k` are not joined; next is the code's `k + 1` or the checks' `suc k`
abbrev apart_by : (ℕ → ℕ) → List ℕ → List ℕ → ℕ → Bool
apart_by next links e k = not (joined (table_of links) (at e k) (at e (next k)))

-- their link is used
abbrev used_by : (ℕ → ℕ) → List ℕ → List ℕ → List ℕ → ℕ → Bool
used_by next links used e k = marked used (link_of (table_of links) (at e k) (at e (next k)))

-- the number at k is not joined to the next; it has no link to it, or a used one
abbrev pub apart : List ℕ → List ℕ → ℕ → Bool
apart = apart_by (λ k. k + 1)

abbrev pub not_free : List ℕ → List ℕ → List ℕ → ℕ → Bool
not_free links used e k = apart links e k || used_by (λ j. j + 1) links used e k

-- 10 finds nothing: no number is apart from the next, or none has a link that is not free
module _ (links e : List ℕ) where
  pub none_apart : pred (length e) ≡ low (apart links e) (pred (length e)) → Clear (pred (length e)) (apart links e)
  none_apart q k l = (low_is (apart links e) (pred (length e))).before k (omega (arith, q))

  pub all_free : (used : List ℕ) (o : Option ℕ) → is_some o ≡ false → unwrap_or o (pred (length e)) ≡ low (not_free links used e) (pred (length e)) → Clear (pred (length e)) (apart links e)
  all_free used None f q k l = (or_false (apart links e k) _ ((low_is (not_free links used e) (pred (length e))).before k (omega (arith, q)))).0
  all_free used (Some i) f q k l = absurd (true≢false f)

module _ (links births used : List ℕ) (b : Bool) (e : List ℕ) where
  -- 10, 14 and 11 ask of the network its links alone
  abbrev link_checks : (ℕ → ℕ) → Answer
  link_checks next =
      check 10 (pred (length e)) (apart_by next links e)
      (check 14 (length e) (born_between (marked births) b e)
      (check 11 (pred (length e)) (used_by next links used e)
      (given (new_count b (length e) ∷ []))))

  link_answer : {a : Answer} → link_checks (λ k. k + 1) ≡ a → LinkAnswer links births used b e a
  unfolding verdict_by checked numbered ear_checks not_joined used_already joined link_of joins former latter size
  link_answer q n root first last = sym q ∙ ap link_checks (fun_ext add-one)

  pub links_10 : {r : ℕ} → r ≡ low (apart links e) (pred (length e)) → r < pred (length e) → LinkAnswer links births used b e (refused 10 r)
  links_10 q l = link_answer (check_hit 10 _ _ _ q l)

  module _ (clear : Clear (pred (length e)) (apart links e)) {r : ℕ} (born : r ≡ low (born_between (marked births) b e) (length e)) where
    pub links_14 : r < length e → LinkAnswer links births used b e (refused 14 r)
    links_14 l = link_answer (check_pass 10 _ _ _ clear ∙ check_hit 14 _ _ _ born l)

    module _ (none : length e ≤ r) {s : ℕ} (free : s ≡ low (not_free links used e) (pred (length e))) where
      -- where all are joined, what is not free is used
      is_used : s ≡ low (used_by (λ k. k + 1) links used e) (pred (length e))
      is_used = free ∙ low_ext _ _ (pred (length e)) (λ k l. ap (λ (f : Bool). f || used_by (λ j. j + 1) links used e k) (clear k l))

      pub links_11 : s < pred (length e) → LinkAnswer links births used b e (refused 11 s)
      links_11 l = link_answer (check_pass 10 _ _ _ clear ∙ check_miss 14 _ _ _ born none ∙ check_hit 11 _ _ _ is_used l)

      pub links_given : {count : ℕ} → count ≡ new_count b (length e) → pred (length e) ≤ s → LinkAnswer links births used b e (given (count ∷ []))
      links_given q l = link_answer (check_pass 10 _ _ _ clear ∙ check_miss 14 _ _ _ born none ∙ check_miss 11 _ _ _ is_used l ∙ ap (λ (k : ℕ). given (k ∷ [])) (sym q))

module _ (n : ℕ) (links births used : List ℕ) (b : Bool) (e : List ℕ) where
  -- 7 of a short ear, and of a long one
  pub short_7 : length e < cond b 3 2 → ShapeAnswer links births used b e (refused 7 0) n
  unfolding verdict_by checked numbered ear_checks wrong_length
  short_7 l root first last = sym (check_fail 7 _ _ (or_left _ _ (lt-ltb _ _ l)))

  pub long_7 : n < length e → ShapeAnswer links births used b e (refused 7 0) n
  unfolding verdict_by checked numbered ear_checks wrong_length
  long_7 l root first last = sym (check_fail 7 _ _ (true_or (ltb (length e) (cond b 3 2)) _ (lt-ltb n (length e) l)))

  module _ (enough : cond b 3 2 ≤ length e) (fits : length e ≤ n) where
    -- 8 and 9, then 10, 14 and 11
    past_7 : (root first last : ℕ)
        → check 8 (length e) (λ k. leb n (at e k))
        (check 9 (length e) (λ k. any (λ j. eqb (at e j) (at e k)) k)
        (verdict_by link_order (network_of n links root first last) (marked births) (marked used) b e))
        ≡ verdict_by shape_order (network_of n links root first last) (marked births) (marked used) b e
    unfolding verdict_by checked numbered ear_checks wrong_length too_large repeated
    past_7 root first last = sym (check_pass 7 1 _ _ (λ k _. false_or _ _ (le-ltb _ _ enough) (le-ltb _ _ fits)))

    module _ {r : ℕ} (large : r ≡ low (λ k. leb n (at e k)) (length e)) where
      pub shape_8 : r < length e → ShapeAnswer links births used b e (refused 8 r) n
      shape_8 l root first last = sym (check_hit 8 _ _ _ large l) ∙ past_7 root first last

      module _ (small : length e ≤ r) {s : ℕ} (twice : s ≡ low (λ k. any (λ j. eqb (at e j) (at e k)) k) (length e)) where
        pub shape_9 : s < length e → ShapeAnswer links births used b e (refused 9 s) n
        shape_9 l root first last = sym (check_miss 8 _ _ _ large small ∙ check_hit 9 _ _ _ twice l) ∙ past_7 root first last

        pub shape_links : length e ≤ s → {a : Answer} → LinkAnswer links births used b e a → ShapeAnswer links births used b e a n
        shape_links l h root first last = h n root first last ∙ sym (check_miss 8 _ _ _ large small ∙ check_miss 9 _ _ _ twice l) ∙ past_7 root first last
