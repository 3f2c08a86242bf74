-- Document 01, "Refusals from the input": what load, ear and close answer by the numbered checks, each over the whole input. A test takes
-- what it asks; `load_order` and `check_order` say in which order the checks of a network and of an ear are asked.
use Rattle.std.specs.Prelude.{◌≡◌, Bool, false, not, ◌&&◌, ◌||◌, cond, List, [], ◌∷◌, ℕ, suc, pred, ◌%◌, ◌<◌, eqb, ltb, leb, length, take}
use Rattle.mondschein.specs.Network.{low, any, Network, at, holds, size, former, latter, joins, joined, link_of, Ears, ear_at, born, used, is_new, new_count}

-- what a call answers: its values, in document 01's order, or a refusal, a number and a place
pub data Answer : Type 0 where
  given : List ℕ → Answer
  refused : ℕ → ℕ → Answer

-- check `num` of the places below c: the first bad one is told, and where none is bad, what comes after
unfoldable pub check : ℕ → ℕ → (ℕ → Bool) → Answer → Answer
check num c bad after = cond (ltb (low bad c) c) (refused num (low bad c)) after

-- a check: its number, how many places it has, and which of them are bad
abbrev pub Check : Type 0
Check = ℕ × ℕ × (ℕ → Bool)

-- the check of that number; one that is not in the list has no places
unfoldable pub numbered : ℕ → List Check → Check
numbered num [] = (num, 0, λ k. false)
numbered num (c ∷ cs) = cond (eqb c.0 num) c (numbered num cs)

-- the checks of these numbers, one after another, and where none finds a bad place, what comes after
unfoldable pub checked : List Check → List ℕ → Answer → Answer
checked cs [] after = after
checked cs (num ∷ nums) after = let c = numbered num cs in check num c.1 c.2 (checked cs nums after)

-- the limits of N and of M
abbrev pub limits : record { min_switches : ℕ; max_switches : ℕ; min_links : ℕ; max_links : ℕ }
limits = record { min_switches = 4; max_switches = 1024; min_links = 6; max_links = 4096 }

module _ (net : Network) where
  -- 1: N or M outside its limits, or half a link
  unfoldable pub wrong_size : ℕ → Bool
  wrong_size k =
      (ltb net.n limits.min_switches || ltb limits.max_switches net.n)
      || (ltb (size net) limits.min_links || ltb limits.max_links (size net))
      || not (eqb (length net.links % 2) 0)

  -- 2: link i names a number of N or more
  unfoldable pub link_too_large : ℕ → Bool
  link_too_large i = leb net.n (former net i) || leb net.n (latter net i)

  -- 3: link i joins a switch to itself
  unfoldable pub self_link : ℕ → Bool
  self_link i = eqb (former net i) (latter net i)

  -- 4: link i repeats an earlier one
  unfoldable pub repeated_link : ℕ → Bool
  repeated_link i = any (λ j. joins net j (former net i) (latter net i)) i

  -- 5: root, first, last are not three different numbers below N
  unfoldable pub wrong_names : ℕ → Bool
  wrong_names k =
      (leb net.n net.root || leb net.n net.first || leb net.n net.last)
      || (eqb net.root net.first || eqb net.root net.last || eqb net.first net.last)

  -- 6: link root-first or root-last missing
  unfoldable pub missing_link : ℕ → Bool
  missing_link k = not (joined net net.root net.first && joined net net.root net.last)

  -- the checks of the network
  unfoldable pub load_checks : List Check
  load_checks =
      (1, 1, wrong_size)
      ∷ (2, size net, link_too_large)
      ∷ (3, size net, self_link)
      ∷ (4, size net, repeated_link)
      ∷ (5, 1, wrong_names)
      ∷ (6, 1, missing_link)
      ∷ []

-- the order in which they are asked: that of their numbers
abbrev pub load_order : List ℕ
load_order = 1 ∷ 2 ∷ 3 ∷ 4 ∷ 5 ∷ 6 ∷ []

-- what a network is answered by the checks of these numbers, one after another: a refusal, or N and M
unfoldable pub loading_by : List ℕ → Network → Answer
loading_by nums net = checked (load_checks net) nums (given (net.n ∷ size net ∷ []))

abbrev pub loading : Network → Answer
loading = loading_by load_order

-- what the checks of an ear ask of it, the first or a later one, where `is_born` are born and `is_used` used
-- 7: fewer than 2 numbers (first ear: 3) or more than N
unfoldable pub wrong_length : ℕ → Bool → List ℕ → ℕ → Bool
wrong_length n is_first e k = ltb (length e) (cond is_first 3 2) || ltb n (length e)

-- 8: a number of N or more
unfoldable pub too_large : ℕ → List ℕ → ℕ → Bool
too_large n e k = leb n (at e k)

-- 9: a switch stands twice; the place of its second standing
unfoldable pub repeated : List ℕ → ℕ → Bool
repeated e k = any (λ j. eqb (at e j) (at e k)) k

-- 10: two neighbours not joined; the place of the former
unfoldable pub not_joined : Network → List ℕ → ℕ → Bool
not_joined net e k = not (joined net (at e k) (at e (suc k)))

-- 11: a link used by an earlier ear; the place of its former switch
unfoldable pub used_already : Network → (ℕ → Bool) → List ℕ → ℕ → Bool
used_already net is_used e k = is_used (link_of net (at e k) (at e (suc k)))

-- 12: the first ear does not run from root to first
unfoldable pub wrong_cycle : ℕ → ℕ → Bool → List ℕ → ℕ → Bool
wrong_cycle root first is_first e k = is_first && not (eqb (at e 0) root && eqb (at e (pred (length e))) first)

-- 13: an end of a later ear is unborn
unfoldable pub unborn_end : (ℕ → Bool) → Bool → List ℕ → ℕ → Bool
unborn_end is_born is_first e k = not is_first && (not (is_new is_first (length e) k) && not (is_born (at e k)))

-- 14: a switch between the ends is born already
unfoldable pub born_between : (ℕ → Bool) → Bool → List ℕ → ℕ → Bool
born_between is_born is_first e k = not is_first && (is_new is_first (length e) k && is_born (at e k))

-- x is still unborn after the ear
abbrev pub unborn : (ℕ → Bool) → List ℕ → ℕ → Bool
unborn is_born e x = not (is_born x || holds e x)

-- 15: last is new here, and another switch is new here, or another is still unborn after the ear, or an end is root
unfoldable pub other_new : Bool → ℕ → ℕ → Bool
other_new is_first c k = any (λ j. is_new is_first c j && not (eqb j k)) c

unfoldable pub other_unborn : ℕ → ℕ → (ℕ → Bool) → List ℕ → Bool
other_unborn n last is_born e = any (λ x. not (eqb x last) && unborn is_born e x) n

unfoldable pub root_end : ℕ → List ℕ → Bool
root_end root e = eqb (at e 0) root || eqb (at e (pred (length e))) root

unfoldable pub last_misplaced : ℕ → ℕ → ℕ → (ℕ → Bool) → Bool → List ℕ → ℕ → Bool
last_misplaced n root last is_born is_first e k =
    is_new is_first (length e) k && (eqb (at e k) last && (other_new is_first (length e) k || (other_unborn n last is_born e || root_end root e)))

-- 16: a new switch other than last keeps no unborn neighbour
unfoldable pub none_unborn : Network → (ℕ → Bool) → Bool → List ℕ → ℕ → Bool
none_unborn net is_born is_first e k =
    is_new is_first (length e) k && (not (eqb (at e k) net.last) && not (any (λ x. joined net (at e k) x && unborn is_born e x) net.n))

-- the checks of the ear e
unfoldable pub ear_checks : Network → (ℕ → Bool) → (ℕ → Bool) → Bool → List ℕ → List Check
ear_checks net is_born is_used is_first e =
    (7, 1, wrong_length net.n is_first e)
    ∷ (8, length e, too_large net.n e)
    ∷ (9, length e, repeated e)
    ∷ (10, pred (length e), not_joined net e)
    ∷ (11, pred (length e), used_already net is_used e)
    ∷ (12, 1, wrong_cycle net.root net.first is_first e)
    ∷ (13, length e, unborn_end is_born is_first e)
    ∷ (14, length e, born_between is_born is_first e)
    ∷ (15, length e, last_misplaced net.n net.root net.last is_born is_first e)
    ∷ (16, length e, none_unborn net is_born is_first e)
    ∷ []

-- the order in which they are asked: that of their numbers, but 14 directly after 10 (document 02, Note 3)
abbrev pub check_order : List ℕ
check_order = 7 ∷ 8 ∷ 9 ∷ 10 ∷ 14 ∷ 11 ∷ 12 ∷ 13 ∷ 15 ∷ 16 ∷ []

-- what the ear e is answered by the checks of these numbers, one after another: a refusal, or the number of its new switches
unfoldable pub verdict_by : List ℕ → Network → (ℕ → Bool) → (ℕ → Bool) → Bool → List ℕ → Answer
verdict_by nums net is_born is_used is_first e = checked (ear_checks net is_born is_used is_first e) nums (given (new_count is_first (length e) ∷ []))

abbrev pub verdict : Network → (ℕ → Bool) → (ℕ → Bool) → Bool → List ℕ → Answer
verdict = verdict_by check_order

-- offering the ear e after the accepted ears es
unfoldable pub judge : Network → Ears → List ℕ → Answer
judge net es e = verdict net (born es) (used net es) (eqb (length es) 0) e

-- closing where `is_used` are used. 23: links unused; the place of the lowest
unfoldable pub closing : Network → (ℕ → Bool) → Answer
closing net is_used = check 23 (size net) (λ l. not (is_used l)) (given [])

-- each ear of the list is accepted after those before it
abbrev pub Accepted : Network → Ears → Type 0
Accepted net es = (i : ℕ) → i < length es → (k : ℕ) × (judge net (take i es) (ear_at es i) ≡ given (k ∷ []))
