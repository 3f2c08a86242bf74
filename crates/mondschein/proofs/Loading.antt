-- Loading succeeds exactly when the network is proper, and gives N and M.
-- `loading_given` and `proper_loading` are its two halves.
use mathlib.Core.Path.{◌≡◌, refl, sym, ap}
use mathlib.Core.Logic.{inl, inr, ⊎_elim}
use mathlib.Core.Bool.{Bool, not, ◌||◌}
use mathlib.Core.List.{List, [], ◌∷◌}
use Prim.Native.Nat.{ℕ, ◌*◌, ◌%◌, ◌<◌}
use native.Mathlib.Nat.{div-add-mod'}
use native.Mathlib.Omega.{arith}
use lib.Dec.{eqb, ltb, leb}
use lib.ListN.{length}
use borrow.Author.Tests.{ltb-false, le-ltb, leb-false, lt-leb, eqb-true, eqb-false, eq-eqb, ne_eqb, not-false}
use Rattle.mondschein.specs.Network.{low, any, Network, holds, size, former, latter, Joins, joins, joined, Proper}
use Rattle.mondschein.specs.Judge.{given, limits, wrong_size, link_too_large, self_link, repeated_link, wrong_names, missing_link, numbered, load_checks, load_order, loading_by, loading}
use Rattle.mondschein.proofs.Logic.{which, clash, trichotomy, and_true, true_and, or_false, false_or}
use Rattle.mondschein.proofs.Search.{any_false, false_any}
use Rattle.mondschein.proofs.Links.{joins_cases, cases_joins, joined_adjacent, adjacent_joined}
use Rattle.mondschein.proofs.Checks.{Clear, Passes, passes_none, passes_more, checked_given, checked_pass}

-- a number outside its limits
abbrev outside : ℕ → ℕ → ℕ → Bool
outside x low high = ltb x low || ltb high x

module _ (net : Network) where
  -- a whole table has an even number of numbers
  even_whole : length net.links % 2 ≡ 0 → length net.links ≡ 2 * size net
  unfolding size
  even_whole h = omega (arith, div-add-mod' (length net.links) 2)

  whole_even : length net.links ≡ 2 * size net → length net.links % 2 ≡ 0
  unfolding size
  whole_even h = omega (arith, div-add-mod' (length net.links) 2)

  -- two links between the same switches
  joins_back : (i j : ℕ) → Joins net j (former net i) (latter net i) → Joins net i (former net j) (latter net j)
  joins_back i j (inl (p, q)) = inl (sym p, sym q)
  joins_back i j (inr (p, q)) = inr (sym q, sym p)

  no_repeat : Clear (size net) (repeated_link net) → (i j : ℕ) → i < size net → j < i → Joins net j (former net i) (latter net i) → ⊥
  unfolding repeated_link
  no_repeat c i j l m h = clash {X = ⊥} (cases_joins net j _ _ h) (any_false (λ j. joins net j (former net i) (latter net i)) i (c i l) j m)

  pub loading_given : (vs : List ℕ) → loading net ≡ given vs → Proper net × (vs ≡ net.n ∷ size net ∷ [])
  unfolding loading_by numbered load_checks holds any low wrong_size link_too_large self_link wrong_names missing_link
  loading_given vs q =
      let (c, q') = checked_given (load_checks net) load_order _ vs q in
      let one : 0 < 1 = omega arith in
      let (s, e) = or_false (outside net.n limits.min_switches limits.max_switches || outside (size net) limits.min_links limits.max_links) _ (c 1 refl 0 one) in
      let (sn, sm) = or_false (outside net.n limits.min_switches limits.max_switches) _ s in
      let (n1, n2) = or_false (ltb net.n limits.min_switches) _ sn in
      let (m1, m2) = or_false (ltb (size net) limits.min_links) _ sm in
      let (below, diff) = or_false (leb net.n net.root || leb net.n net.first || leb net.n net.last) _ (c 5 refl 0 one) in
      let (b12, b3) = or_false (leb net.n net.root || leb net.n net.first) _ below in
      let (b1, b2) = or_false (leb net.n net.root) _ b12 in
      let (d12, d3) = or_false (eqb net.root net.first || eqb net.root net.last) _ diff in
      let (d1, d2) = or_false (eqb net.root net.first) _ d12 in
      let (l1, l2) = and_true (joined net net.root net.first) _ (not-false _ (c 6 refl 0 one)) in (
        record {
          switches = (ltb-false _ _ n1, ltb-false _ _ n2);
          whole = even_whole (eqb-true _ _ (not-false _ e));
          table = (ltb-false _ _ m1, ltb-false _ _ m2);
          inside = λ i l. let (x, y) = or_false (leb net.n (former net i)) _ (c 2 refl i l) in (leb-false _ _ x, leb-false _ _ y);
          different = λ i l. eqb-false _ _ (c 3 refl i l);
          once = λ i j l m h.
              ⊎_elim
              (λ (k : j < i). absurd (no_repeat (c 4 refl) i j l k h))
              (⊎_elim (λ (k : i < j). absurd (no_repeat (c 4 refl) j i m k (joins_back i j h))) (λ k. k))
              (trichotomy j i);
          named = (leb-false _ _ b1, leb-false _ _ b2, leb-false _ _ b3);
          distinct = (eqb-false _ _ d1, eqb-false _ _ d2, eqb-false _ _ d3);
          root_first = joined_adjacent net _ _ l1;
          root_last = joined_adjacent net _ _ l2;
        },
        cc,
      )

  proper_each : Proper net → (num : ℕ) → Passes (load_checks net) num
  unfolding load_checks wrong_size link_too_large self_link repeated_link wrong_names missing_link
  proper_each p =
      passes_more _ _
      (λ k l.
      false_or _ _
      (false_or _ _
      (false_or _ _ (le-ltb _ _ p.switches.0) (le-ltb _ _ p.switches.1))
      (false_or _ _ (le-ltb _ _ p.table.0) (le-ltb _ _ p.table.1)))
      (ap not (eq-eqb _ _ (whole_even p.whole))))
      (passes_more _ _ (λ i l. false_or _ _ (lt-leb _ _ (p.inside i l).0) (lt-leb _ _ (p.inside i l).1))
      (passes_more _ _ (λ i l. ne_eqb _ _ (p.different i l))
      (passes_more _ _
      (λ i l.
      false_any (λ j. joins net j (former net i) (latter net i)) i
      (λ j m. ⊎_elim (λ t. let z = p.once i j l (omega arith) (joins_cases net j _ _ t) in absurd (omega arith)) (λ f. f) (which (joins net j (former net i) (latter net i)))))
      (passes_more _ _
      (λ k l.
      false_or _ _
      (false_or _ _ (false_or _ _ (lt-leb _ _ p.named.0) (lt-leb _ _ p.named.1)) (lt-leb _ _ p.named.2))
      (false_or _ _ (false_or _ _ (ne_eqb _ _ p.distinct.0) (ne_eqb _ _ p.distinct.1)) (ne_eqb _ _ p.distinct.2)))
      (passes_more _ _ (λ k l. ap not (true_and _ _ (adjacent_joined net _ _ p.root_first) (adjacent_joined net _ _ p.root_last)))
      (passes_none))))))

  pub proper_loading : Proper net → loading net ≡ given (net.n ∷ size net ∷ [])
  unfolding loading_by
  proper_loading p = checked_pass (load_checks net) load_order _ (λ num _. proper_each p num)
