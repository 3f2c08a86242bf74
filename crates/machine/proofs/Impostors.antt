-- Document 01's impostors, and one or two each of Notes 1 to 3 and 6, as programs that are the machine but for one thing, with the demand that each does
-- not meet. So none of the demands 1, 2 and 3 holds of every program, nor do OneByOne, EmptyEar, OrderOfChecks, BringingOver and NoShorterWalk.
use mathlib.Core.Path.{◌≡◌, refl, ap, subst}
use mathlib.Core.Logic.{inr, ⊎_elim}
use mathlib.Core.Bool.{true, ◌&&◌, cond}
use mathlib.Core.List.{List, [], ◌∷◌, ◌++◌, foldl, map}
use Prim.Native.Nat.{ℕ, zero, suc, ◌<◌}
use native.Mathlib.Omega.{arith}
use lib.Dec.{ltb}
use lib.ListN.{length}
use Rattle.mondschein.specs.Network.{low, any, count, Network, at, holds, size, former, latter, joins, joined, passes, link_of, Ears, born, birth, trail, used, is_new, new_count, new_switches}
use Rattle.mondschein.specs.Judge.{Answer, given, refused, check, wrong_size, link_too_large, self_link, repeated_link, wrong_names, missing_link, load_checks, loading_by, wrong_length, too_large, repeated, not_joined, used_already, wrong_cycle, unborn_end, born_between, other_new, other_unborn, root_end, last_misplaced, none_unborn, checked, numbered, ear_checks, verdict_by, judge, closing}
use Rattle.mondschein.specs.Order.{position, from_a, between, extend, order, course, parent1, parent2, Rule, lowest, shortest, reaches, distance, taken, parent3_of, parent_of}
use Rattle.mondschein.specs.Outcome.{granted, Outcome, settle, unknown}
use Rattle.mondschein.specs.WholeList.{offering_from, ears_from, ears_in, flat}
use Rattle.mondschein.specs.EmptyEar.{left_over, short_ears, is_empty, entering, answer_to, written_out}
use Rattle.mondschein.specs.CheckOrder.{old_answer_to}
use Rattle.mondschein.specs.Mondschein.{Mondschein}
use Rattle.mondschein.specs.Routes.{Walk, arrived, onward}
use Rattle.mondschein.proofs.Checks.{never}
use Rattle.mondschein.proofs.Excluded.{link_in_three_trees}
use Rattle.machine.specs.Machine.{plan, closed_plan, State, empty, opened, closed, by_state, Call, load, ear, ears, close, bring_over, clear, longer, offer, answers, told, tells, parent_call, walk_call, order_of, size_of, duct_of, Program, history_from, history}
use Rattle.machine.specs.Demands.{Demand1, OneByOne, Demand2, EmptyEar, OrderOfChecks, Demand3, BringingOver, NoShorterWalk, DuctsIgnored, DuctsKept}
use Rattle.machine.proofs.Demand2.{demand2, plain}

-- to unfold this is to unfold the judge, the tables and the machine
computed : Unit {0}
unfolding low any count holds size former latter joins joined passes link_of born birth trail used is_new new_count new_switches check wrong_size link_too_large self_link repeated_link wrong_names missing_link load_checks loading_by wrong_length too_large repeated not_joined used_already wrong_cycle unborn_end born_between other_new other_unborn root_end last_misplaced none_unborn checked numbered ear_checks verdict_by judge closing position from_a between extend order course parent1 parent2 reaches distance taken parent3_of parent_of granted settle unknown offering_from ears_from flat left_over short_ears is_empty entering answer_to written_out longer offer answers told tells duct_of parent_call history_from
computed = tt

-- document 01's first network, and the list that closes there
abbrev net : Network
net = record { n = 4; links = 0 ∷ 1 ∷ 0 ∷ 2 ∷ 0 ∷ 3 ∷ 1 ∷ 2 ∷ 1 ∷ 3 ∷ 2 ∷ 3 ∷ []; root = 0; first = 1; last = 3 }

abbrev cycle : List ℕ
cycle = 0 ∷ 2 ∷ 1 ∷ []

abbrev later : Ears
later = (2 ∷ 3 ∷ 1 ∷ []) ∷ (0 ∷ 3 ∷ []) ∷ []

abbrev calls : Ears → List Call
calls es = load net [] ∷ (map ear es ++ (close shortest ∷ []))

-- the first value of an answer
abbrev value : Answer → ℕ
value (given vs) = at vs 0
value (refused num place) = 0

sequence : Mondschein net (cycle ∷ later)
unfolding computed
sequence = ((plain shortest net [] (cycle ∷ later)).0 refl).1

-- the machine with its answers changed
abbrev answering : (State → Answer → Answer) → Program
answering f =
    record {
      Session = State;
      fresh = empty;
      after = λ s c. tells c (f s (answers c s)) s;
      answer = λ s c. f s (answers c s);
      parent = parent_call;
      walk = walk_call;
      order = order_of;
      size = size_of;
      duct = duct_of;
    }

-- another answer for one of no value, as close gives, and for one of one, as an ear gives
abbrev replaced : Answer → (ℕ → Answer) → Answer → Answer
replaced a f (given []) = a
replaced a f (given (k ∷ [])) = f k
replaced a f (given (k ∷ j ∷ vs)) = given (k ∷ j ∷ vs)
replaced a f (refused num place) = refused num place

-- the machine with other parents and walks
abbrev reading : (State → ℕ → ℕ → Answer) → (State → ℕ → ℕ → List ℕ → Outcome (List ℕ)) → Program
reading f g =
    record {
      Session = State;
      fresh = empty;
      after = λ s c. tells c (answers c s) s;
      answer = λ s c. answers c s;
      parent = f;
      walk = g;
      order = order_of;
      size = size_of;
      duct = duct_of;
    }

-- it closes the list as the machine does
closed_after : (f : State → ℕ → ℕ → Answer) (g : State → ℕ → ℕ → List ℕ → Outcome (List ℕ)) → history (reading f g) (calls (cycle ∷ later)) ≡ closed (closed_plan shortest net [] (cycle ∷ later))
unfolding computed
closed_after f g = refl

-- a judge that turns every planner away
pub turns_all_away : Demand2 (answering (λ s. replaced (given []) (λ k. refused 16 0))) → ⊥
unfolding computed
turns_all_away d = never ((d.judges (load net [] ∷ []) (plan net [] []) refl).accepts cycle later sequence)

-- one that judges the first ear and waves the rest through: last's ear ends at root
abbrev waving : State → Answer → Answer
waving s (given vs) = given vs
waving s (refused num place) = by_state (refused num place) (λ p. cond (ltb 0 (length p.ears) && ltb num 17) (given (0 ∷ [])) (refused num place)) (λ p. refused num place) s

abbrev waved : Ears
waved = cycle ∷ (2 ∷ 3 ∷ 0 ∷ []) ∷ (1 ∷ 3 ∷ []) ∷ []

pub waves_the_rest_through : Demand2 (answering waving) → ⊥
unfolding computed
waves_the_rest_through d =
    let (proper, M, _) = d.sound (calls waved) (closed_plan shortest net [] waved) refl in
    let z : ◌≡◌ {A = ℕ} 1 2 = ap (by_state 0 (λ p. 1) (λ p. 2)) ((plain shortest net [] waved).1 (proper, M)) in
    absurd (omega arith)

-- one that hands out the same table for every tree
abbrev one_table : State → ℕ → ℕ → Answer
one_table s v t = parent_call s v 1

pub same_table : Demand3 (reading one_table walk_call) → ⊥
unfolding computed
same_table d =
    let (q, w, e, x, r) = d (calls (cycle ∷ later)) (closed_plan shortest net [] (cycle ∷ later)) (closed_after one_table walk_call) in
    link_in_three_trees net q w r 1 (omega arith) (λ t. 2)
    (λ t m. let z : 0 ≡ q t 2 = ap value (e t 2 m (omega arith)) in (omega arith, (λ (k : 2 ≡ 0). omega arith), inr (z, refl)))

-- one that reports success and leaves the session as it found it
pub leaves_the_session : Demand2 (record { Session = State; fresh = empty; after = λ s c. s; answer = λ s c. answers c s; parent = parent_call; walk = walk_call; order = order_of; size = size_of; duct = duct_of }) → ⊥
unfolding computed
leaves_the_session d = never ((d.judges (load net [] ∷ []) (plan net [] []) refl).accepts cycle later sequence)

-- one that makes up the number of new switches
pub makes_up_the_number : Demand2 (answering (λ s. replaced (given []) (λ k. given (0 ∷ [])))) → ⊥
unfolding computed
makes_up_the_number d =
    let z : ◌≡◌ {A = ℕ} 0 3 = ap value ((d.judges (load net [] ∷ []) (plan net [] []) refl).accepts cycle later sequence) in
    absurd (omega arith)

-- one that forgets all, even where it refuses
pub forgets : Demand1 (record { Session = State; fresh = empty; after = λ s c. empty; answer = λ s c. answers c s; parent = parent_call; walk = walk_call; order = order_of; size = size_of; duct = duct_of }) → ⊥
unfolding computed
forgets d =
    ⊎_elim
    (λ (vs, q). never q)
    (λ (num, place, q, r, e). let z : ◌≡◌ {A = ℕ} 0 1 = ap (by_state 0 (λ p. 1) (λ p. 2)) e in absurd (omega arith))
    (d.calls (opened (plan net [] [])) (close shortest))

-- ones that say 18 for a slice that is long enough, or 21 or 23 with nothing missing
abbrev no_room : State → ℕ → ℕ → List ℕ → Outcome (List ℕ)
no_room s v t out = record { answer = refused 18 0; after = out }

pub says_18 : Demand3 (reading parent_call no_room) → ⊥
says_18 d =
    let (q, w, e, x, r) = d (calls (cycle ∷ later)) (closed_plan shortest net [] (cycle ∷ later)) (closed_after parent_call no_room) in
    never (ap (λ (o : Outcome (List ℕ)). o.answer) (x.long_enough 1 0 (omega arith) (omega arith) (w 1 0) (omega arith)))

abbrev no_entry : State → ℕ → ℕ → Answer
no_entry s v t = refused 21 0

pub says_21 : Demand3 (reading no_entry walk_call) → ⊥
says_21 d =
    let (q, w, e, x, r) = d (calls (cycle ∷ later)) (closed_plan shortest net [] (cycle ∷ later)) (closed_after no_entry walk_call) in
    never (e 1 0 (omega arith) (omega arith))

pub says_23 : Demand2 (answering (λ s. replaced (refused 23 0) (λ k. given (k ∷ [])))) → ⊥
unfolding computed
says_23 d = never ((d.judges (load net [] ∷ map ear (cycle ∷ later)) (plan net [] (cycle ∷ later)) refl).closes sequence shortest)

-- one that takes a list of ears and goes on after a refused one
abbrev going_on : State → Call → State
going_on s (load net ducts) = tells (load net ducts) (answers (load net ducts) s) s
going_on s (ear e) = tells (ear e) (answers (ear e) s) s
going_on s (ears l) = foldl (λ s e. (offer s e).after) s (ears_in l)
going_on s (close rule) = tells (close rule) (answers (close rule) s) s
going_on s bring_over = tells bring_over (answers bring_over s) s
going_on s clear = tells clear (answers clear s) s

pub goes_on : OneByOne (record { Session = State; fresh = empty; after = going_on; answer = λ s c. answers c s; parent = parent_call; walk = walk_call; order = order_of; size = size_of; duct = duct_of }) → ⊥
unfolding computed
goes_on one =
    let z : ◌≡◌ {A = ℕ} 1 0 = ap (λ (o : Outcome State). by_state 0 (λ p. length p.ears) (λ p. 0) o.after) (one (opened (plan net [] [])) (flat ((0 ∷ []) ∷ cycle ∷ []))) in
    absurd (omega arith)

-- one that grants an empty ear, says 0 and takes nothing
abbrev taking_nothing : State → Call → State
taking_nothing s (load net ducts) = tells (load net ducts) (answers (load net ducts) s) s
taking_nothing s (ear []) = s
taking_nothing s (ear (x ∷ e)) = tells (ear (x ∷ e)) (answers (ear (x ∷ e)) s) s
taking_nothing s (ears l) = tells (ears l) (answers (ears l) s) s
taking_nothing s (close rule) = tells (close rule) (answers (close rule) s) s
taking_nothing s bring_over = tells bring_over (answers bring_over s) s
taking_nothing s clear = tells clear (answers clear s) s

pub takes_nothing : EmptyEar (record { Session = State; fresh = empty; after = taking_nothing; answer = λ s c. answers c s; parent = parent_call; walk = walk_call; order = order_of; size = size_of; duct = duct_of }) → ⊥
unfolding computed
takes_nothing d = never (d.closes (load net [] ∷ map ear long) (plan net [] long) refl (omega arith) all_born shortest)
  where
    long : Ears
    long = cycle ∷ (2 ∷ 3 ∷ 1 ∷ []) ∷ []

    all_born : (v : ℕ) → v < 4 → born long v ≡ true
    all_born zero l = refl
    all_born (suc zero) l = refl
    all_born (suc (suc zero)) l = refl
    all_born (suc (suc (suc zero))) l = refl
    all_born (suc (suc (suc (suc v)))) l = absurd (omega arith)

-- one that asks in the order of document 01: it tells the used link of a long ear
abbrev old_answer : State → Call → Answer
old_answer s (load net ducts) = answers (load net ducts) s
old_answer s (ear e) = by_state (refused 19 0) (λ p. old_answer_to p.net p.ears e) (λ p. refused 22 0) s
old_answer s (ears l) = answers (ears l) s
old_answer s (close rule) = answers (close rule) s
old_answer s bring_over = answers bring_over s
old_answer s clear = answers clear s

pub tells_the_link : OrderOfChecks (record { Session = State; fresh = empty; after = λ s c. tells c (old_answer s c) s; answer = old_answer; parent = parent_call; walk = walk_call; order = order_of; size = size_of; duct = duct_of }) → ⊥
unfolding computed old_answer_to
tells_the_link d =
    let (_, q) = (d (load net [] ∷ ear cycle ∷ []) (plan net [] (cycle ∷ [])) refl (3 ∷ 0 ∷ 2 ∷ [])).from11 ((omega arith, refl), omega arith, (1, omega arith, refl)) in
    let z : ◌≡◌ {A = ℕ} 11 14 = cc in
    absurd (omega arith)

-- one that brings over a session closed under the earlier rule alone, and refuses any other
abbrev by_rule : {A : Type 0} → A → A → Rule → A
by_rule a b lowest = a
by_rule a b shortest = b

abbrev choosing : State → Call → Answer
choosing s (load net ducts) = answers (load net ducts) s
choosing s (ear e) = answers (ear e) s
choosing s (ears l) = answers (ears l) s
choosing s (close rule) = answers (close rule) s
choosing s bring_over = by_state (refused 19 0) (λ p. refused 21 0) (λ p. by_rule (given []) (refused 22 0) p.rule) s
choosing s clear = answers clear s

pub brings_over_once : BringingOver (record { Session = State; fresh = empty; after = λ s c. tells c (choosing s c) s; answer = choosing; parent = parent_call; walk = walk_call; order = order_of; size = size_of; duct = duct_of }) → ⊥
unfolding computed
brings_over_once d = never (d.grants (calls (cycle ∷ later)) (closed_plan shortest net [] (cycle ∷ later)) refl)

-- one whose third walks make a detour of one switch
abbrev detour : State → ℕ → ℕ → List ℕ → Outcome (List ℕ)
detour s v t out = record { answer = given (4 ∷ []); after = out }

pub wanders : NoShorterWalk (reading parent_call detour) → ⊥
unfolding computed
wanders d =
    let (_, _, (_, _, (q, e, r))) = demand2.sound (calls (cycle ∷ later)) (closed_plan shortest net [] (cycle ∷ later)) refl in
    let from1 : 3 ≡ q 3 1 = ap value (e 3 1 (omega arith) (omega arith)) in
    let from3 : 0 ≡ q 3 3 = ap value (e 3 3 (omega arith) (omega arith)) in
    let w : List ℕ = 1 ∷ 3 ∷ 0 ∷ [] in
    let walked : Walk 0 (q 3) 1 w =
    onward (λ (z : ◌≡◌ {A = ℕ} 1 0). omega arith) (subst (λ x. Walk 0 (q 3) x (3 ∷ 0 ∷ [])) from1
    (onward (λ (z : ◌≡◌ {A = ℕ} 3 0). omega arith) (subst (λ x. Walk 0 (q 3) x (0 ∷ [])) from3 arrived))) in
    let (c, a, m) = d (calls (cycle ∷ later)) (closed_plan shortest net [] (cycle ∷ later)) (closed_after parent_call detour) refl
    (q 3) r.tree3.third 1 (omega arith) w walked w (omega arith) in
    let z : 4 ≡ c = ap value a in
    absurd (omega arith)

-- one that takes another duct for another link: with ducts no link repeats an earlier one
abbrev apart : State → Call → Answer
apart s (load net []) = answers (load net []) s
apart s (load net (d ∷ ducts)) = by_state (loading_by (1 ∷ 2 ∷ 3 ∷ 5 ∷ 6 ∷ []) net) (λ p. refused 20 0) (λ p. refused 20 0) s
apart s (ear e) = answers (ear e) s
apart s (ears l) = answers (ears l) s
apart s (close rule) = answers (close rule) s
apart s bring_over = answers bring_over s
apart s clear = answers clear s

abbrev repeating : Network
repeating = record { n = 4; links = 0 ∷ 1 ∷ 0 ∷ 2 ∷ 0 ∷ 3 ∷ 1 ∷ 2 ∷ 1 ∷ 3 ∷ 1 ∷ 0 ∷ []; root = 0; first = 1; last = 3 }

pub takes_ducts_apart : DuctsIgnored (record { Session = State; fresh = empty; after = λ s c. tells c (apart s c) s; answer = apart; parent = parent_call; walk = walk_call; order = order_of; size = size_of; duct = duct_of }) → ⊥
unfolding computed
takes_ducts_apart d = never (d empty repeating [] (7 ∷ []))

-- one that keeps the ducts of the links before them
pub shifts_the_ducts : DuctsKept (record { Session = State; fresh = empty; after = λ s c. tells c (answers c s) s; answer = λ s c. answers c s; parent = parent_call; walk = walk_call; order = order_of; size = size_of; duct = λ s i. duct_of s (suc i) }) → ⊥
unfolding computed
shifts_the_ducts d = let z : ◌≡◌ {A = ℕ} 7 0 = d (load net (0 ∷ 7 ∷ []) ∷ []) 0 in absurd (omega arith)
