use Rattle.std.proofs.Common.{pred, length, sym, ◌∙◌, arith}
use Rattle.mondschein.proofs.Checks.{Clear}
use Rattle.shape.proofs.Shape.{apart, none_apart, all_free, links_10, links_14, links_11, links_given}
use Rattle.shape.proofs.check_links.Goals as goal
use Rattle.shape.proofs.check_links.Goals.{then-is_some+in_default, else-is_some}

pub returns-in-Some : goal.returns-in-Some
returns-in-Some c =
    links_10 c.args.links.now c.args.births.now c.args.used.now c.args.initial c.args.ear.now c.in-Some.ensures.lowest c.in-Some.ensures.within

pub returns-in-Some-first_born_between : goal.returns-in-Some-first_born_between
returns-in-Some-first_born_between c =
    let all_joined : Clear (pred (length c.args.ear.now)) (apart c.args.links.now c.args.ear.now) = elim c.if-is_some.branch [
      | then-is_some+in_default w ↦ none_apart c.args.links.now c.args.ear.now w.in_default.ensures.lowest
      | else-is_some w ↦ all_free c.args.links.now c.args.ear.now c.args.used.now _ (sym c.is_some.ensures ∙ w.if-is_some.false) c.first_not_free-not_free.ensures.lowest
    ] in
    links_14 c.args.links.now c.args.births.now c.args.used.now c.args.initial c.args.ear.now all_joined c.in-Some-first_born_between.ensures.lowest c.in-Some-first_born_between.ensures.within

pub returns-in-Some-not_free : goal.returns-in-Some-not_free
returns-in-Some-not_free c =
    let all_joined : Clear (pred (length c.args.ear.now)) (apart c.args.links.now c.args.ear.now) = elim c.if-is_some.branch [
      | then-is_some+in_default w ↦ none_apart c.args.links.now c.args.ear.now w.in_default.ensures.lowest
      | else-is_some w ↦ all_free c.args.links.now c.args.ear.now c.args.used.now _ (sym c.is_some.ensures ∙ w.if-is_some.false) c.first_not_free-not_free.ensures.lowest
    ] in
    links_11 c.args.links.now c.args.births.now c.args.used.now c.args.initial c.args.ear.now all_joined c.in_default-first_born_between.ensures.lowest (omega arith)
    (rw c.in-Some-not_free.is at c.first_not_free-not_free.ensures.lowest) (rw c.in-Some-not_free.is at c.first_not_free-not_free.ensures.within)

pub returns : goal.returns
returns c =
    let all_joined : Clear (pred (length c.args.ear.now)) (apart c.args.links.now c.args.ear.now) = elim c.if-is_some.branch [
      | then-is_some+in_default w ↦ none_apart c.args.links.now c.args.ear.now w.in_default.ensures.lowest
      | else-is_some w ↦ all_free c.args.links.now c.args.ear.now c.args.used.now _ (sym c.is_some.ensures ∙ w.if-is_some.false) c.first_not_free-not_free.ensures.lowest
    ] in
    links_given c.args.links.now c.args.births.now c.args.used.now c.args.initial c.args.ear.now all_joined c.in_default-first_born_between.ensures.lowest (omega arith)
    (rw c.in_default-not_free.is at c.first_not_free-not_free.ensures.lowest) c.new_count.ensures (omega arith)
