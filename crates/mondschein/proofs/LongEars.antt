-- Lists with empty ears, written out; and long ears are enough: those of a Mondschein sequence are accepted without the short ones, an empty
-- ear after them takes all that is left, and order and tables are those of the sequence.
use mathlib.Core.Path.{◌≡◌, refl, sym, ap, ap₂, ◌∙◌, subst, subst₂}
use mathlib.Core.Logic.{⊎_elim}
use mathlib.Core.Bool.{Bool, true, false, not, ◌&&◌, ◌||◌, cond}
use mathlib.Core.List.{List, [], ◌∷◌, ◌++◌, foldl, foldl-append, append_assoc, append-nil}
use Prim.Native.Nat.{ℕ, suc, ◌≤◌, ◌<◌}
use native.Mathlib.Omega.{arith}
use lib.Dec.{eqb, ltb}
use lib.ListN.{length, length-append}
use borrow.Author.Tests.{eqb-true, eqb-false, ne_eqb}
use Rattle.mondschein.specs.Network.{Network, holds, passes, Ears, born, birth, trail, used, new_switches, long_ears, long_birth}
use Rattle.mondschein.specs.Judge.{given, Accepted}
use Rattle.mondschein.specs.Order.{from_a, extend, order, Rule, parent1, parent2, parent_of}
use Rattle.mondschein.specs.Mondschein.{Mondschein}
use Rattle.mondschein.specs.EmptyEar.{is_empty, answer_to, entered, written_out, all_written_out, long_ones, LongEarsEnough}
use Rattle.mondschein.proofs.Logic.{which, less?, or_false, false_or}
use Rattle.mondschein.proofs.Passed.{Passed}
use Rattle.mondschein.proofs.Births.{Passing, accepted_passing, accepted_prefix, accepted_snoc, next_passed, used_snoc, long_snoc, long_birth_snoc}
use Rattle.mondschein.proofs.Counts.{judged, passing_accepted}
use Rattle.mondschein.proofs.SameTables.{SameTables, same_itself, same_on, same_more}
use Rattle.mondschein.proofs.Closing.{closing_used}
use Rattle.mondschein.proofs.Trees.{some_ear, all_born}
use Rattle.mondschein.proofs.Reaching.{parent3_ext}
use Rattle.mondschein.proofs.Sound.{sound}
use Rattle.mondschein.proofs.Complete.{complete, complete_used}
use Rattle.mondschein.proofs.Bounds.{later_birth}
use Rattle.mondschein.proofs.EmptyEar.{answer_granted, answer_judge, entered_itself, entered_judged, unchanged_short, same_unchanged, unchanged_same, takes_left_over, empty_accepted}

-- offered ears come after the list
pub entered_after : (net : Network) (rest es : Ears) → (ds : Ears) × (foldl (entered net) es rest ≡ es ++ ds)
entered_after net [] es = ([], sym (append-nil es))
entered_after net (e ∷ rest) es =
    let (ds, q) = entered_after net rest (entered net es e) in
    (written_out net es e ++ ds, q ∙ append_assoc es (written_out net es e) ds)

-- an ear that accepted ears follow from was accepted
pub entered_answer : (net : Network) (es : Ears) (e : List ℕ) (rest : Ears) → Passing net (foldl (entered net) (entered net es e) rest)
    → (vs : List ℕ) × (answer_to net es e ≡ given vs)
entered_answer net es e rest acc =
    ⊎_elim
    (λ t. (0 ∷ [], answer_granted net es e t))
    (λ f.
    let (ds, q) = entered_after net rest (entered net es e) in
    let next = subst (Passing net) (q ∙ ap (λ (z : Ears). z ++ ds) (entered_itself net es e f) ∙ append_assoc es (e ∷ []) ds) acc in
    (new_switches net es e ∷ [], answer_judge net es e f ∙ judged net es e (next_passed net es e ds next)))
    (which (is_empty (eqb (length es) 0) e))

-- an accepted list has no empty ear, and is written out as itself
pub accepted_entered : (net : Network) (rest es : Ears) → Passing net (es ++ rest) → foldl (entered net) es rest ≡ es ++ rest
accepted_entered net [] es acc = sym (append-nil es)
accepted_entered net (e ∷ rest) es acc =
    let q = judged net es e (next_passed net es e rest acc) in
    ap (λ (z : Ears). foldl (entered net) z rest) (entered_judged net es e _ q)
    ∙ accepted_entered net rest (es ++ (e ∷ [])) (subst (Passing net) (sym (append_assoc es (e ∷ []) rest)) acc)
    ∙ append_assoc es (e ∷ []) rest

-- a number that is not 0
above_none : (n : ℕ) → eqb n 0 ≡ false → 0 < n
above_none n f = ⊎_elim (λ (l : 0 < n). l) (λ (l : n ≤ 0). absurd (eqb-false n 0 f (omega arith))) (less? 0 n)

-- a list and one without its short ears: they have the same births and tables, and no more links are used
record Agrees (net : Network) (es ds : Ears) : Type 0 where
  first : eqb (length ds) 0 ≡ eqb (length es) 0
  useds : (l : ℕ) → used net es l ≡ false → used net ds l ≡ false
  longs : long_ears ds ≡ long_ears es
  long_births : (x : ℕ) → long_birth ds x ≡ long_birth es x
  tables : SameTables net es ds

agrees_itself : (net : Network) (es : Ears) → Agrees net es es
agrees_itself net es = record { first = refl; useds = λ l h. h; longs = refl; long_births = λ x. refl; tables = same_itself net es }

module _ (net : Network) (es ds : Ears) (g : Agrees net es ds) (e : List ℕ) (p : Passed net es (eqb (length es) 0) e) where
  borns : (x : ℕ) → born ds x ≡ born es x
  borns x = sym (g.tables.borns x)

  -- the next ear is accepted there too
  agrees_passed : Passed net ds (eqb (length ds) 0) e
  agrees_passed =
      subst (λ (b : Bool). Passed net ds b e) (sym g.first)
      record {
        at_least = p.at_least;
        fits = p.fits;
        below = p.below;
        simple = p.simple;
        linked = p.linked;
        unused = λ k l. g.useds _ (p.unused k l);
        cycle = p.cycle;
        ends = λ z. (borns _ ∙ (p.ends z).0, borns _ ∙ (p.ends z).1);
        inner = λ z k l m. borns _ ∙ p.inner z k l m;
        alone = λ k l f q.
            let (only, all, r, r') = p.alone k l f q in
            (only, (λ x m d. ap (λ (b : Bool). b || holds e x) (borns x) ∙ all x m d), r, r');
        neighbour = λ k l f d. let (x, m, j, u, v) = p.neighbour k l f d in (x, m, j, borns x ∙ u, v);
      }

  more_longs : long_ears (ds ++ (e ∷ [])) ≡ long_ears (es ++ (e ∷ []))
  more_longs = long_snoc ds e ∙ ap (λ (k : ℕ). cond (eqb (length e) 2) k (suc k)) g.longs ∙ sym (long_snoc es e)

  agrees_more : Agrees net (es ++ (e ∷ [])) (ds ++ (e ∷ []))
  agrees_more =
      record {
        first = ne_eqb (length (ds ++ (e ∷ []))) 0 (λ z. omega (arith, length-append ds (e ∷ []))) ∙ sym (ne_eqb (length (es ++ (e ∷ []))) 0 (λ z. omega (arith, length-append es (e ∷ []))));
        useds = λ l h.
            let (u, v) = or_false (used net es l) _ (sym (used_snoc net es e l) ∙ h) in
            used_snoc net ds e l ∙ false_or _ _ (g.useds l u) (ap (λ (b : Bool). passes net (trail b e) l) g.first ∙ v);
        longs = more_longs;
        long_births = λ x.
            long_birth_snoc ds e x
            ∙ ap₂ (λ (b : Bool) (k : ℕ). cond (holds e x && not b) k (long_birth ds x)) (borns x) more_longs
            ∙ ap (λ (k : ℕ). cond (holds e x && not (born es x)) (long_ears (es ++ (e ∷ []))) k) (g.long_births x)
            ∙ sym (long_birth_snoc es e x);
        tables = same_more net es ds g.tables e e (λ x. refl)
            (ap₂ (λ (b : Bool) (o : List ℕ). cond b e (from_a o e)) (sym g.first) g.tables.orders)
            (ap (λ (o : List ℕ). extend o e) g.tables.orders);
      }

  -- a short ear is left out
  agrees_short : length e ≡ 2 → Accepted net (es ++ (e ∷ [])) → Agrees net (es ++ (e ∷ [])) ds
  agrees_short two a =
      let some = later_ear (eqb (length es) 0) refl p in
      let u = unchanged_short net es e some a two in
      record {
        first = g.first ∙ ne_eqb (length es) 0 (λ z. omega arith) ∙ sym (ne_eqb (length (es ++ (e ∷ []))) 0 (λ z. omega (arith, length-append es (e ∷ []))));
        useds = λ l h. g.useds l (or_false (used net es l) _ (sym (used_snoc net es e l) ∙ h)).0;
        longs = g.longs ∙ sym u.longs;
        long_births = λ x. g.long_births x ∙ sym (u.long_births x);
        tables = same_on net (es ++ (e ∷ [])) es ds (unchanged_same net es (es ++ (e ∷ [])) u) g.tables;
      }
    where
      later_ear : (b : Bool) → eqb (length es) 0 ≡ b → Passed net es b e → 0 < length es
      later_ear true z p = absurd (omega (arith, p.at_least))
      later_ear false z p = above_none (length es) z

-- the long ears of an accepted list are accepted
long_accepted : (net : Network) (rest es ds : Ears) → Accepted net (es ++ rest) → Agrees net es ds → Accepted net ds
    → Accepted net (ds ++ long_ones rest) × Agrees net (es ++ rest) (ds ++ long_ones rest)
unfolding long_ones
long_accepted net [] es ds acc g a = rw (append-nil ds, append-nil es) (a, g)
long_accepted net (e ∷ rest) es ds acc g a = go (eqb (length e) 2) refl (λ cs. long_accepted net rest more cs acc')
  where
    more : Ears
    more = es ++ (e ∷ [])

    p : Passed net es (eqb (length es) 0) e
    p = next_passed net es e rest (accepted_passing net (es ++ (e ∷ rest)) acc)

    acc' : Accepted net (more ++ rest)
    acc' = subst (Accepted net) (sym (append_assoc es (e ∷ []) rest)) acc

    go : (b : Bool) → eqb (length e) 2 ≡ b
        → ((cs : Ears) → Agrees net more cs → Accepted net cs → Accepted net (cs ++ long_ones rest) × Agrees net (more ++ rest) (cs ++ long_ones rest))
        → Accepted net (ds ++ cond b (long_ones rest) (e ∷ long_ones rest)) × Agrees net (es ++ (e ∷ rest)) (ds ++ cond b (long_ones rest) (e ∷ long_ones rest))
    go true q f =
        subst (λ (z : Ears). Accepted net (ds ++ long_ones rest) × Agrees net z (ds ++ long_ones rest)) (append_assoc es (e ∷ []) rest)
        (f ds (agrees_short net es ds g e p (eqb-true _ _ q) (accepted_prefix net more rest acc')) a)
    go false q f =
        subst₂ (λ (y z : Ears). Accepted net z × Agrees net y z) (append_assoc es (e ∷ []) rest) (append_assoc ds (e ∷ []) (long_ones rest))
        (f (ds ++ (e ∷ [])) (agrees_more net es ds g e p) (accepted_snoc net ds e _ a (judged net ds e (agrees_passed net es ds g e p))))

-- lists with the same births and tables have the same third table too
same_tables : (net : Network) (es ds : Ears) → Passing net es → Passing net ds → ((x : ℕ) → long_birth ds x ≡ long_birth es x) → SameTables net es ds
    → ((x : ℕ) → x < net.n → born es x ≡ true) → (rule : Rule) (t v : ℕ) → v < net.n → parent_of rule net ds t v ≡ parent_of rule net es t v
unfolding parent_of
same_tables net es ds acc acc' long_births same all rule t v l =
    let alls : (x : ℕ) → x < net.n → born ds x ≡ true = λ x m. sym (same.borns x) ∙ all x m in
    rw (same.firsts v (all v l), same.seconds v (all v l))
    (ap (λ (k : ℕ). cond (eqb t 1) (parent1 net ds v) (cond (eqb t 2) (parent2 net ds v) k))
    (parent3_ext net (birth ds) (birth es)
    (λ v x l m.
    sym (later_birth net ds acc' v x (alls v l) (alls x m)) ∙ ap₂ ltb (long_births v) (long_births x) ∙ later_birth net es acc v x (all v l) (all x m))
    rule v l))

pub long_ears_enough : LongEarsEnough
unfolding all_written_out
long_ears_enough net es proper M =
    let acc = complete net proper es M in
    let done = complete_used net proper es M in
    let ls = long_ones es in
    let (a, g) = long_accepted net es [] [] (passing_accepted net es acc) (agrees_itself net []) (λ i l. absurd (omega arith)) in
    let some = some_ear net proper es acc done in
    let long = above_none (length ls) (g.first ∙ ne_eqb (length es) 0 (λ z. omega arith)) in
    let whole : entered net ls [] ≡ foldl (entered net) [] (ls ++ ([] ∷ [])) =
    sym (foldl-append (entered net) [] ls ([] ∷ []) ∙ ap (λ (z : Ears). entered net z []) (accepted_entered net ls [] (accepted_passing net ls a))) in
    let all = all_born net proper es acc done in
    let t = takes_left_over net proper ls long a in
    let passing = accepted_passing net (entered net ls []) (empty_accepted net proper ls long a) in
    let used = closing_used net (entered net ls []) [] (t.closes (λ v m. sym (g.tables.borns v) ∙ all v m)) in
    let same = same_on net es ls (entered net ls []) g.tables (same_unchanged net ls (entered net ls []) t.stays) in
    subst (λ (ds : Ears). Mondschein net ds × (order ds ≡ order es) × ((rule : Rule) (t v : ℕ) → v < net.n → parent_of rule net ds t v ≡ parent_of rule net es t v)) whole (
      sound net proper (entered net ls []) passing used,
      sym same.orders,
      same_tables net es (entered net ls []) acc passing (λ x. t.stays.long_births x ∙ g.long_births x) same all,
    )
