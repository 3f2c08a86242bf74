-- Note 1: the machine takes a list of ears as its ears one after another. Of a program that does so: it may be given the single ears
-- instead; and each ear of a list is a call of its own in demand 1.
use mathlib.Core.Path.{◌≡◌, refl, sym, ap, ap₂, ◌∙◌, subst}
use mathlib.Core.Logic.{◌⊎◌, inl, inr, ⊎_elim}
use mathlib.Core.Bool.{cond}
use mathlib.Core.List.{List, [], ◌∷◌, ◌++◌, foldl, foldl-append, map}
use Prim.Native.Nat.{ℕ, zero, suc, ◌-◌, ◌≤◌, ◌<◌}
use native.Mathlib.Omega.{arith}
use lib.ListN.{length, take}
use Rattle.mondschein.specs.Network.{Network, at, Ears, ear_at}
use Rattle.mondschein.specs.Judge.{Answer, given, refused}
use Rattle.mondschein.specs.Outcome.{granted, Outcome, settle}
use Rattle.mondschein.specs.WholeList.{all_accepted, next_refused, by_answer, offering_from, offered, ears_in}
use Rattle.mondschein.specs.EmptyEar.{entered}
use Rattle.mondschein.proofs.Births.{Passing}
use Rattle.mondschein.proofs.LongEars.{entered_answer}
use Rattle.mondschein.proofs.WholeList.{given_values, offering_next, offering_ends, offering_given, offering_accepts, offering_single, offering_alike}
use Rattle.machine.specs.Machine.{plan, State, empty, opened, Call, ear, ears, longer, offer, answers, told, tells, Program, machine, history_from, history, session}
use Rattle.machine.specs.Demands.{Refusal, offer_by, after_ears, OneByOne, Replaced}
use Rattle.machine.proofs.History.{offer_grants, offer_refuses}

-- an ear that the machine is offered is a call
offer_call : (s : State) (e : List ℕ) → offer_by machine s e ≡ offer s e
unfolding answers offer settle granted told tells
offer_call s e = ap (λ (z : State). record { answer = (offer s e).answer; after = z }) (go (offer s e).answer)
  where
    go : (a : Answer) → tells (ear e) a s ≡ cond (granted a) (longer s e) s
    go (given vs) = refl
    go (refused num place) = refl

pub one_by_one_lem : OneByOne machine
unfolding answers told tells
one_by_one_lem s l =
    let es = ears_in l in
    let (vs, q) = offering_given offer 0 s es in
    let (x, y) =
    offering_alike offer (offer_by machine) (λ s s'. s ≡ s')
    (λ s s' e z.
    let o = ap (λ (z : State). offer z e) z ∙ sym (offer_call s' e) in
    (ap (λ (o : Outcome State). o.after) o, ap (λ (o : Outcome State). o.answer) o))
    0 s s es refl in
    ap₂ (λ (a : Answer) (z : State). record { answer = a; after = z }) y
    (ap (λ (a : Answer). tells (ears l) a s) q ∙ offering_accepts offer longer offer_grants offer_refuses s es vs q ∙ x)

-- ears that are accepted with those before them, in one call
pub listed_run : (net : Network) (ducts : List ℕ) (rest es : Ears) (k : ℕ) → Passing net (foldl (entered net) es rest)
    → (offering_from (offer_by machine) k (opened (plan net ducts es)) rest).after ≡ opened (plan net ducts (foldl (entered net) es rest))
unfolding offering_from answers told tells longer
listed_run net ducts [] es k acc = refl
listed_run net ducts (e ∷ rest) es k acc =
    let (vs, q) = entered_answer net es e rest acc in
    ap (λ (o : Outcome State). o.after)
    (offering_next (offer_by machine) k (opened (plan net ducts es)) e rest (ap (λ (a : Answer). record { answer = a; after = tells (ear e) a (opened (plan net ducts es)) }) q))
    ∙ listed_run net ducts rest (entered net es e) (suc k) acc

-- a call that is answered so and leaves a session gives values, or refuses and leaves the session s
abbrev pub Leaves : {A : Type 0} → ℕ → Call → A → Answer → A → Type 0
Leaves m c s a after = ((vs : List ℕ) × (a ≡ given vs)) ⊎ ((num place : ℕ) × (a ≡ refused num place) × Refusal m c num place × (after ≡ s))

module _ (prog : Program) where
  -- along calls in two parts
  history_append : (h : State) (s : prog.Session) (cs ds : List Call) → history_from prog h s (cs ++ ds) ≡ history_from prog (history_from prog h s cs) (foldl prog.after s cs) ds
  unfolding history_from
  history_append h s [] ds = refl
  history_append h s (c ∷ cs) ds = history_append (tells c (prog.answer s c) h) (prog.after s c) cs ds

  single_after : (s : prog.Session) (es : Ears) → foldl (λ s e. (offer_by prog s e).after) s es ≡ foldl prog.after s (map ear es)
  single_after s [] = refl
  single_after s (e ∷ es) = single_after (prog.after s (ear e)) es

  -- the ears that the count tells are those that the single answers tell
  single_told : (k : ℕ) (h : State) (s : prog.Session) (es : Ears) (vs : List ℕ) → (offering_from (offer_by prog) k s es).answer ≡ given vs
      → (k ≤ at vs 0) × (foldl longer h (take (at vs 0 - k) es) ≡ history_from prog h s (map ear (offered (offer_by prog) s es)))
  unfolding offering_from offered history_from tells told
  single_told k h s [] vs q = rw (← (given_values q)) (omega arith, ap (foldl longer h) (nothing (k - k)))
    where
      nothing : (n : ℕ) → take {A = List ℕ} n [] ≡ []
      nothing zero = refl
      nothing (suc n) = refl
  single_told k h s (e ∷ es) vs q = go (prog.answer s (ear e)) refl q (single_told (suc k) (longer h e) next es vs)
    where
      next : prog.Session
      next = prog.after s (ear e)

      go : (a : Answer) → prog.answer s (ear e) ≡ a
          → (by_answer a (offering_from (offer_by prog) (suc k) next es) (λ num place. record { answer = next_refused k num place; after = next })).answer ≡ given vs
          → ((offering_from (offer_by prog) (suc k) next es).answer ≡ given vs
          → (suc k ≤ at vs 0) × (foldl longer (longer h e) (take (at vs 0 - suc k) es) ≡ history_from prog (longer h e) next (map ear (offered (offer_by prog) next es))))
          → (k ≤ at vs 0) × (foldl longer h (take (at vs 0 - k) (e ∷ es)) ≡ history_from prog h s (map ear (by_answer a (e ∷ offered (offer_by prog) next es) (λ num place. e ∷ []))))
      go (given ws) g r f =
          let (l, x) = f r in
          let n : at vs 0 - k ≡ suc (at vs 0 - suc k) = omega arith in (
            omega arith,
            ap (λ (n : ℕ). foldl longer h (take n (e ∷ es))) n ∙ x
                ∙ ap (λ (a : Answer). history_from prog (tells (ear e) a h) next (map ear (offered (offer_by prog) next es))) (sym g),
          )
      go (refused num place) g r f =
          let n : at vs 0 ≡ k = ap (λ (l : List ℕ). at l 0) (sym (given_values r)) in (
            omega arith,
            ap (λ (n : ℕ). foldl longer h (take n (e ∷ es))) (let z : at vs 0 - k ≡ 0 = omega arith in z) ∙ ap (λ (a : Answer). tells (ear e) a h) (sym g),
          )

  pub replaced : OneByOne prog → Replaced prog
  unfolding history_from tells told
  replaced one cs ds l =
      let es = ears_in l in
      let s = session prog cs in
      let h = history prog cs in
      let single = map ear (offered (offer_by prog) s es) in
      let (vs, g) = offering_given (offer_by prog) 0 s es in
      let after : prog.after s (ears l) ≡ foldl prog.after s single =
      ap (λ (o : Outcome prog.Session). o.after) (one s l) ∙ offering_single (offer_by prog) 0 s es ∙ single_after s (offered (offer_by prog) s es) in
      let heard : tells (ears l) (prog.answer s (ears l)) h ≡ history_from prog h s single =
      ap (λ (a : Answer). tells (ears l) a h) (ap (λ (o : Outcome prog.Session). o.answer) (one s l) ∙ g)
      ∙ ap (λ (n : ℕ). foldl longer h (take n es)) (let z : at vs 0 ≡ at vs 0 - 0 = omega arith in z)
      ∙ (single_told 0 h s es vs g).1 in (
        foldl-append prog.after prog.fresh cs (ears l ∷ ds)
            ∙ ap (λ (z : prog.Session). foldl prog.after z ds) after
            ∙ sym (foldl-append prog.after prog.fresh cs (single ++ ds) ∙ foldl-append prog.after s single ds),
        history_append empty prog.fresh cs (ears l ∷ ds)
            ∙ ap₂ (λ (z : State) (y : prog.Session). history_from prog z y ds) heard after
            ∙ sym (history_append empty prog.fresh cs (single ++ ds) ∙ history_append h s single ds),
      )

  -- where each ear is granted, or gets a refusal of its own and leaves the session, so is each ear of a list
  module _ (calls : (s : prog.Session) (c : Call) → Leaves (prog.size s) c s (prog.answer s c) (prog.after s c)) where
    -- what a list is answered and leaves, where its ears are counted so
    abbrev Ends : (ℕ → ℕ) → prog.Session → Ears → Outcome prog.Session → Type 0
    Ends count s es o =
        ((o.answer ≡ all_accepted (count (length es))) × (o.after ≡ after_ears prog s es))
        ⊎ ((k num place : ℕ) × (k < length es) × (o.answer ≡ next_refused (count k) num place) × Refusal 0 (ear (ear_at es k)) num place
        × (o.after ≡ after_ears prog s (take k es)))

    ends : (count : ℕ → ℕ) → ((k : ℕ) → suc (count k) ≡ count (suc k)) → (s : prog.Session) (es : Ears) → Ends count s es (offering_from (offer_by prog) (count 0) s es)
    unfolding offering_from
    ends count more s [] = inl (refl, refl)
    ends count more s (e ∷ es) =
        ⊎_elim
        (λ (vs, q).
        subst (Ends count s (e ∷ es)) (sym (offering_next (offer_by prog) (count 0) s e es (answered q) ∙ ap (λ (k : ℕ). offering_from (offer_by prog) k next es) (more 0)))
        (⊎_elim inl (λ (k, num, place, l, a, r, z). inr (suc k, num, place, omega arith, a, r, z)) (ends (λ k. count (suc k)) (λ k. more (suc k)) next es)))
        (λ (num, place, q, r, z).
        subst (Ends count s (e ∷ es)) (sym (offering_ends (offer_by prog) (count 0) s e es (answered q))) (inr (0, num, place, omega arith, refl, r, z)))
        (calls s (ear e))
      where
        next : prog.Session
        next = prog.after s (ear e)

        answered : {a : Answer} → prog.answer s (ear e) ≡ a → offer_by prog s e ≡ record { answer = a; after = next }
        answered q = ap (λ (a : Answer). record { answer = a; after = next }) q

    pub lists_of : OneByOne prog → (s : prog.Session) (l : List ℕ) → Ends (λ k. k) s (ears_in l) (record { answer = prog.answer s (ears l); after = prog.after s (ears l) })
    lists_of one s l = subst (Ends (λ k. k) s (ears_in l)) (sym (one s l)) (ends (λ k. k) (λ k. refl) s (ears_in l))
