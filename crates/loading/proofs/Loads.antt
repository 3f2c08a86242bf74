-- Laws of loading in the code's terms: the limits of a session, and what is left after check 1.
-- The session's constants are the limits of document 01.
use Rattle.std.proofs.Common.{◌≡◌, sym, ◌∙◌, true, false, ◌||◌, List, ℕ, ◌*◌, ◌/◌, ◌%◌, ◌≤◌, ◌<◌, div-add-mod', arith, ltb, length, ltb-false, lt-ltb, eqb-true}
use borrow.Author.Tests.{not-false}
use Rattle.mondschein.specs.Network.{Network, size}
use Rattle.mondschein.specs.Judge.{given, refused, wrong_size, loading, loading_by}
use Rattle.mondschein.proofs.Logic.{or_left, true_or, or_false}
use Rattle.mondschein.proofs.Checks.{check_fail, check_pass, check_given}
use Rattle.network.specs.Load.{network_of, table_order}
use Rattle.network.proofs.Loading.{table_loading}
use Rattle.in_place.specs.InPlace.{Paired}

-- check 1
module _ (n : ℕ) (links : List ℕ) where
  abbrev net : Network
  net = network_of n links 0 0 0

  pub few_links : length links / 2 < 6 → wrong_size net 0 ≡ true
  unfolding wrong_size size
  few_links h = or_left _ _ (true_or (ltb n 4 || ltb 1024 n) _ (or_left _ _ (lt-ltb _ _ h)))

  pub many_links : 4096 < length links / 2 → wrong_size net 0 ≡ true
  unfolding wrong_size size
  many_links h = or_left _ _ (true_or (ltb n 4 || ltb 1024 n) _ (true_or (ltb (length links / 2) 6) _ (lt-ltb _ _ h)))

  -- past check 1 there are at most 4,096 whole links
  pub right_size : wrong_size net 0 ≡ false → length links ≤ 8192
  unfolding wrong_size size
  right_size h =
      let (s, e) = or_false (ltb n 4 || ltb 1024 n || (ltb (length links / 2) 6 || ltb 4096 (length links / 2))) _ h in
      let (_, m) = or_false (ltb n 4 || ltb 1024 n) _ s in
      let (_, l) = or_false (ltb (length links / 2) 6) _ m in
      omega (arith, ltb-false 4096 (length links / 2) l, eqb-true (length links % 2) 0 (not-false _ e), div-add-mod' (length links) 2)

  pub whole_links : wrong_size net 0 ≡ false → 2 * (length links / 2) ≡ length links
  unfolding wrong_size size
  whole_links h =
      let (_, e) = or_false (ltb n 4 || ltb 1024 n || (ltb (length links / 2) 6 || ltb 4096 (length links / 2))) _ h in
      omega (arith, eqb-true (length links % 2) 0 (not-false _ e), div-add-mod' (length links) 2)

module _ (n : ℕ) (links : List ℕ) (root first last : ℕ) where
  pub load_1 : wrong_size (network_of n links 0 0 0) 0 ≡ true → loading (network_of n links root first last) ≡ refused 1 0
  unfolding wrong_size size
  load_1 h = table_loading (network_of n links root first last) ∙ check_fail 1 _ _ h

  pub load_rest : wrong_size (network_of n links 0 0 0) 0 ≡ false → loading (network_of n links root first last) ≡ loading_by table_order (network_of n links root first last)
  unfolding wrong_size size
  load_rest h = table_loading (network_of n links root first last) ∙ check_pass 1 1 _ _ (λ k _. h)

  -- what passes check 1 are whole links that fit
  pub loaded_paired : {vs : List ℕ} → loading (network_of n links root first last) ≡ given vs → Paired links
  unfolding wrong_size size
  loaded_paired {vs} q =
      let (clear, _) = check_given 1 1 _ _ vs (sym (table_loading (network_of n links root first last)) ∙ q) in
      record { fits = right_size n links (clear 0 (omega arith)); whole = whole_links n links (clear 0 (omega arith)) }
