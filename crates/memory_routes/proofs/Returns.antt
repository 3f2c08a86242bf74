-- What the routes call for C gives back and leaves, in the code's terms: an answer in place as struct threeways_between, by its variant; and
-- by the length of the links, 255 with the slice as it was, or what the call in place told.
use mathlib.Core.Path.{◌≡◌, refl, sym, ap, ap₂, ◌∙◌, subst}
use mathlib.Core.Bool.{Bool, true, false}
use mathlib.Core.List.{List}
use Prim.Native.Nat.{ℕ}
use Rattle.in_place.specs.declared.State.{State}
use Rattle.in_place.specs.InPlace.{session_in}
use Rattle.disjoint.specs.Replies.{Told}
use Rattle.routing.specs.declared.Loss.{Loss}
use Rattle.std.specs.Prelude.{Result, Ok, Err}
use Rattle.refusals.specs.declared.Refusal.{Refusal}
use Rattle.refusals.specs.Refusals.{number, place}
use Rattle.routing.specs.declared.Routes.{Routes}
use Rattle.routing.specs.declared.Routes.TheVariants.{Walks, Parted}
use Rattle.routing.specs.declared.Things.{Things}
use Rattle.routing.specs.declared.Things.TheVariants.{Nothing, One, Two}
use Rattle.routing.specs.Answers.{thing_of, reply_of}
use Rattle.routes.specs.Calls.{between_by}
use Rattle.memory.specs.Memory.{wrong_lengths}
use Rattle.memory_routes.specs.declared.Part.{Part}
use Rattle.memory_routes.specs.declared.Routed.{Routed}
use Rattle.memory_routes.specs.Routes.{routed_by, part_of, no_part, first_of, second_of, parted_by, routed_of, sized_told, Shows}

-- an answer in numbers
abbrev numbered : Result Routes Refusal → Routed
numbered answer = routed_of (reply_of answer)

-- what is told of a session in one state is told of it in the same state by another name
pub told_of_lem : {st st' : State} {told : Told} → st ≡ st' → (links ducts used births order tree1 tree2 tree3 : List ℕ) (from to : ℕ) (out : List ℕ)
    → told ≡ between_by (session_in st links ducts used births order tree1 tree2 tree3) from to out
    → told ≡ between_by (session_in st' links ducts used births order tree1 tree2 tree3) from to out
told_of_lem e links ducts used births order tree1 tree2 tree3 from to out q =
    q ∙ ap (λ (x : State). between_by (session_in x links ducts used births order tree1 tree2 tree3) from to out) e

-- the length of the links, beside those of the arrays that are not lent
pub lengths_links : (l d u b o p q t : ℕ) → d ≡ 4096 → u ≡ 4096 → b ≡ 1024 → o ≡ 1024 → p ≡ 1024 → q ≡ 1024 → t ≡ 1024
    → wrong_lengths l d u b o p q t ≡ wrong_lengths l 4096 4096 1024 1024 1024 1024 1024
lengths_links l d u b o p q t v w x y z r s = simp (v, w, x, y, z, r, s)

-- by that length: 255, and the slice as it was; or what was told in place
module _ (out : List ℕ) (told : Told) {wrong : Bool} {r : Routed} where
  pub links_wrong : wrong ≡ true → r ≡ routed_by 255 0 0 0 0 0 0 0 0 0 → Shows (sized_told wrong out told) r out
  unfolding sized_told routed_of
  links_wrong e q = subst (λ (x : Bool). Shows (sized_told x out told) r out) (sym e) (record { routed = q; left = refl })

  pub links_right : (answer : Result Routes Refusal) {after : List ℕ} → wrong ≡ false → record { reply = reply_of answer; after = after } ≡ told
      → r ≡ numbered answer → Shows (sized_told wrong out told) r after
  unfolding sized_told
  links_right answer {after} e w q =
      subst (λ (x : Bool). Shows (sized_told x out told) r after) (sym e)
      (record { routed = q ∙ ap (λ (t : Told). routed_of t.reply) w; left = ap (λ (t : Told). t.after) w })
