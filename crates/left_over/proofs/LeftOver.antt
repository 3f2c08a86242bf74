-- Used links under an empty ear: one link more among those taken so far, and the row that it leaves, which is as long as before and
-- has the leftover links marked too.
use Rattle.std.proofs.Common.{◌≡◌, refl, ap, ◌∙◌, not, ◌&&◌, ◌||◌, cond, List, ℕ, ◌+◌, ◌*◌, ◌<◌, arith, ltb, length, set}
use Rattle.mondschein.specs.Network.{Network, at, size, former, latter}
use Rattle.mondschein.specs.EmptyEar.{left_over}
use Rattle.mondschein.proofs.Logic.{or_not}
use Rattle.network.specs.Load.{table_of}
use Rattle.rows.specs.Rows.{marked, assigned}
use Rattle.rows.proofs.Rows.{mark_or}
use Rattle.rows.proofs.Assigned.{assigned_length, assigned_other, assigned_each, assigned_more}
use Rattle.left_over.specs.LeftOver.{used_after_empty}

-- link l from a to b used, where it was unused and both are born
abbrev taken : List ℕ → List ℕ → ℕ → ℕ → ℕ → List ℕ
taken used births l a b = set used l (cond (not (marked used l) && (marked births a && marked births b)) 1 (at used l))

-- the mark of link l after an empty ear
abbrev pub mark_after : Network → List ℕ → List ℕ → ℕ → ℕ
mark_after net births used l = cond (left_over net (marked births) (marked used) l) 1 (at used l)

-- one link more: its mark is still the one of the start
pub taken_more : (links births used : List ℕ) (l : ℕ) {before after : List ℕ} → before ≡ assigned used (λ j. j) (mark_after (table_of links) births used) l
    → after ≡ taken before births l (at links (2 * l)) (at links (2 * l + 1)) → after ≡ assigned used (λ j. j) (mark_after (table_of links) births used) (l + 1)
unfolding left_over former latter
taken_more links births used l {before} done q =
    let same : at before l ≡ at used l =
    ap (λ (row : List ℕ). at row l) done ∙ assigned_other used (λ j. j) (mark_after (table_of links) births used) l l (λ k h e. omega arith) in
    assigned_more used (λ j. j) (mark_after (table_of links) births used) l done q refl
    (ap (λ (x : ℕ). cond (not (ltb 0 x) && (marked births (at links (2 * l)) && marked births (at links (2 * l + 1)))) 1 x) same)

-- the row after an empty ear
module _ (net : Network) (births used : List ℕ) where
  pub empty_length : length (used_after_empty net births used) ≡ length used
  unfolding used_after_empty
  empty_length = assigned_length used (λ l. l) _ (size net)

  pub empty_marked : (l : ℕ) → l < size net → l < length used → marked (used_after_empty net births used) l ≡ (marked used l || (marked births (former net l) && marked births (latter net l)))
  unfolding used_after_empty left_over
  empty_marked l below inside =
      ap (ltb 0) (assigned_each used (mark_after net births used) (size net) l below inside)
      ∙ mark_or (left_over net (marked births) (marked used) l) (at used l)
      ∙ or_not (marked used l) (marked births (former net l) && marked births (latter net l))
