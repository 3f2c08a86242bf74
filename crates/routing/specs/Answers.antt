-- Document 02's values and numbers for each answer of the routes call, and the test by which the code finds the switches of a cut.
-- Things are switches, and links by their index in the table.
use Rattle.std.specs.Prelude.{Bool, not, ◌&&◌, List, [], ◌∷◌, ℕ, eqb, Result, Ok, Err}
use Rattle.mondschein.specs.Routes.{Thing, switch, link}
use Rattle.disjoint.specs.Matching.{in_cut}
use Rattle.disjoint.specs.Replies.{Reply, counts, things, refusal, Told}
use Rattle.routing.specs.declared.Loss.{Loss}
use Rattle.routing.specs.declared.Loss.TheVariants.{Switch, Link}
use Rattle.routing.specs.declared.Things.{Things}
use Rattle.routing.specs.declared.Things.TheVariants.{Nothing, One, Two}
use Rattle.routing.specs.declared.Routes.{Routes}
use Rattle.routing.specs.declared.Routes.TheVariants.{Walks, Parted}
use Rattle.refusals.specs.declared.Refusal.{Refusal}
use Rattle.refusals.specs.Refusals.{number, place}

abbrev pub thing_of : Loss → Thing
thing_of (Switch x) = switch x
thing_of (Link l) = link l

abbrev pub things_of : Things → List Thing
things_of Nothing = []
things_of (One x) = thing_of x ∷ []
things_of (Two x y) = thing_of x ∷ thing_of y ∷ []

abbrev pub reply_of : Result Routes Refusal → Reply
reply_of (Ok (Walks a b c)) = counts a b c
reply_of (Ok (Parted xs)) = things (things_of xs)
reply_of (Err e) = refusal (number e) (place e)

-- an answer, and the slice after it
abbrev pub told_by : Result Routes Refusal → List ℕ → Told
told_by r out = record { reply = reply_of r; after = out }

-- w is in the cut and is not x
unfoldable pub in_cut_but : List ℕ → List ℕ → ℕ → ℕ → Bool
in_cut_but next mark x w = in_cut next mark w && not (eqb w x)
