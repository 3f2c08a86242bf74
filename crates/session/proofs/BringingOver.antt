-- Bringing over a session changes tree 3 alone; closed under either rule and brought over, it is the session that today's close leaves.
-- The row of tree 3 does not ask what stood there before.
use mathlib.Core.Path.{◌≡◌, refl, sym, ap, ◌∙◌}
use mathlib.Core.Bool.{cond}
use mathlib.Core.List.{[]}
use Rattle.mondschein.specs.Judge.{Answer, given, refused, closing}
use Rattle.mondschein.specs.Order.{Rule, shortest}
use Rattle.mondschein.specs.Outcome.{granted, Outcome, settle}
use Rattle.rows.specs.Rows.{marked}
use Rattle.thirds.proofs.Tree3.{tree3_again}
use Rattle.in_place.specs.declared.Stage.TheVariants.{Open}
use Rattle.in_place.specs.declared.Session.{Session}
use Rattle.in_place.specs.Session.{stored_in, network_in, tables_in, with_third, closed_with, third_in, by_stage, closed_by, brought_by}
use Rattle.in_place.proofs.Answers.{on_open_lem}
use Rattle.session.specs.BringingOver.{OnlyThird, AsIfClosed}

-- what holds of a session with another row for tree 3, and of the session, holds of it brought over
either_way : (Q : Session → Type 0) (s : Session) → Q s → Q (with_third s (third_in shortest s)) → Q (brought_by s).after
unfolding brought_by settle granted
either_way Q s x y = go (by_stage s.stage (refused 19 0) (refused 21 0) (given []))
  where
    go : (a : Answer) → Q (cond (granted a) (with_third s (third_in shortest s)) s)
    go (given vs) = y
    go (refused num place) = x

pub only_third : OnlyThird
only_third =
    record {
      stage = λ s. either_way (λ z. z.stage ≡ s.stage) s refl refl;
      network = λ s. either_way (λ z. stored_in z ≡ stored_in s) s refl refl;
      tables = λ s. either_way (λ z. tables_in z ≡ tables_in s) s refl refl;
    }

-- close on an open session asks for the links alone
closed_open : (rule : Rule) (s : Session) → s.stage ≡ Open → closed_by rule s ≡ settle s (closed_with s (third_in rule s)) (closing (network_in s) (marked s.used))
unfolding closed_by
closed_open rule s o = ap (settle s (closed_with s (third_in rule s))) (on_open_lem _ _ _ o)

-- whatever it is answered, bringing over then does what the rule has left to do
brought_after : (rule : Rule) (s : Session) → s.stage ≡ Open → (a : Answer)
    → (brought_by (settle s (closed_with s (third_in rule s)) a).after).after ≡ (settle s (closed_with s (third_in shortest s)) a).after
unfolding brought_by settle granted by_stage
brought_after rule s o (given vs) = ap (closed_with s) (tree3_again rule (network_in s) s.births s.tree3)
brought_after rule s o (refused num place) = ap (λ (a : Answer). cond (granted a) (with_third s (third_in shortest s)) s) (on_open_lem _ _ _ o)

pub as_if_closed : AsIfClosed
as_if_closed rule s o =
    ap (λ (x : Outcome Session). (brought_by x.after).after) (closed_open rule s o)
    ∙ brought_after rule s o (closing (network_in s) (marked s.used))
    ∙ sym (ap (λ (x : Outcome Session). x.after) (closed_open shortest s o))
