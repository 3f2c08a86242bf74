-- Note 2 of the machine: an empty ear is answered by its place in the list, equals offering its short ears one after another, and where every
-- switch is born leaves nothing for 23.
use mathlib.Core.Path.{◌≡◌, refl, sym, ap, ◌∙◌, subst}
use mathlib.Core.List.{List, [], ◌∷◌, ◌++◌, foldl, foldl-append, map, append_assoc}
use Prim.Native.Nat.{ℕ, ◌<◌}
use lib.ListN.{length, take, drop, take-append-drop}
use Rattle.mondschein.specs.Network.{Ears, ear_at}
use Rattle.mondschein.specs.Judge.{given, Accepted}
use Rattle.mondschein.specs.EmptyEar.{written_out, entered}
use Rattle.mondschein.proofs.Births.{Passing, accepted_passing, accepted_prefix}
use Rattle.mondschein.proofs.EmptyEar.{answer_judged, answer_one, answer_none, answer_empty, takes_left_over, empty_accepted}
use Rattle.mondschein.proofs.LongEars.{accepted_entered}
use Rattle.machine.specs.Machine.{Plan, plan, State, empty, opened, Call, ear, close, answers, machine, history, session}
use Rattle.machine.specs.Demands.{Alike, EmptyEar}
use Rattle.machine.proofs.History.{state_is_history, Kept, Reached, state_of_lem, reached_of, accepted_run, offered_run}

-- an open session after calls, and ears that are accepted after those that it holds
module _ (cs : List Call) (p : Plan) (h : history machine cs ≡ opened p) (short : Ears) (acc : Accepted p.net (p.ears ++ short)) where
  short_run : session machine (cs ++ map ear short) ≡ opened (plan p.net p.ducts (p.ears ++ short))
  short_run =
      let passing = accepted_passing p.net (p.ears ++ short) acc in
      let whole = accepted_entered p.net short p.ears passing in
      foldl-append machine.after empty cs (map ear short)
      ∙ ap (λ (s : State). foldl machine.after s (map ear short)) (state_of_lem cs (opened p) h)
      ∙ offered_run p.net p.ducts short p.ears (subst (Passing p.net) (sym whole) passing)
      ∙ ap (λ (es : Ears). opened (plan p.net p.ducts es)) whole

alike_itself : (s : State) → Alike machine s s
alike_itself s = record { calls = λ c. refl; parents = λ v t. refl; walks = λ v t out. refl; orders = refl; ducts = λ i. refl }

-- on an open session that has its first ear
module _ (cs : List Call) (p : Plan) (h : history machine cs ≡ opened p) (some : 0 < length p.ears) where
  abbrev short : Ears
  short = written_out p.net p.ears []

  kept : Kept p.net p.ears
  unfolding Reached
  kept = reached_of cs (opened p) h

  accepted : Accepted p.net (entered p.net p.ears [])
  accepted = empty_accepted p.net kept.0 p.ears some kept.1

  in_turn_lem : (i : ℕ) → i < length short → answers (ear (ear_at short i)) (session machine (cs ++ map ear (take i short))) ≡ given (0 ∷ [])
  unfolding answers
  in_turn_lem i l =
      let before = accepted_prefix p.net (p.ears ++ take i short) (drop i short) (subst (Accepted p.net) split accepted) in
      ap (answers (ear (ear_at short i))) (short_run cs p h (take i short) before)
      ∙ answer_judged p.net (p.ears ++ take i short) (ear_at short i) (0 ∷ []) ((takes_left_over p.net kept.0 p.ears some kept.1).in_turn i l)
    where
      split : entered p.net p.ears [] ≡ (p.ears ++ take i short) ++ drop i short
      split = sym (append_assoc p.ears (take i short) (drop i short) ∙ ap (λ (ds : Ears). p.ears ++ ds) (take-append-drop i short))

  after_empty : (ds : List Call) → session machine (cs ++ (ear [] ∷ ds)) ≡ foldl machine.after (opened (plan p.net p.ducts (entered p.net p.ears []))) ds
  after_empty ds = accepted_run cs ds p [] (0 ∷ []) (state_of_lem cs (opened p) h) (answer_empty p.net p.ears some)

  equal : (ds : List Call) → session machine (cs ++ (ear [] ∷ ds)) ≡ session machine (cs ++ (map ear short ++ ds))
  equal ds =
      after_empty ds
      ∙ sym
      (ap (session machine) (sym (append_assoc cs (map ear short) ds))
      ∙ foldl-append machine.after empty (cs ++ map ear short) ds
      ∙ ap (λ (s : State). foldl machine.after s ds) (short_run cs p h short accepted))

pub empty_ear_lem : EmptyEar machine
unfolding answers
empty_ear_lem =
    record {
      grants = λ cs p h some. ap (answers (ear [])) (state_of_lem cs (opened p) h) ∙ answer_empty p.net p.ears some;
      first = λ cs p h none. ap (answers (ear [])) (state_of_lem cs (opened p) h) ∙ answer_none p.net p.ears none;
      one_number = λ cs p h x. ap (answers (ear (x ∷ []))) (state_of_lem cs (opened p) h) ∙ answer_one p.net p.ears x;
      in_turn = in_turn_lem;
      equals = λ cs p h some ds.
          let q = equal cs p h some ds in
          (sym (state_is_history _) ∙ q ∙ state_is_history _, subst (Alike machine (session machine (cs ++ (ear [] ∷ ds)))) q (alike_itself _));
      closes = λ cs p h some born rule.
          ap (answers (close rule)) (after_empty cs p h some [])
          ∙ (takes_left_over p.net (kept cs p h some).0 p.ears some (kept cs p h some).1).closes born;
    }
