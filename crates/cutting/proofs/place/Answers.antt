use Rattle.std.proofs.Common.{sym, ap, ◌∙◌, set, arith}
use Rattle.zones.specs.Cut.{birth_in}
use Rattle.zones.proofs.Births.{birth_past}
use Rattle.cutting.specs.declared.Passed.{Passed}
use Rattle.cutting.specs.Cutting.{zone_new}
use Rattle.cutting.proofs.Steps.{by_older, by_new, by_later}
use Rattle.cutting.proofs.place.Goals as goal

pub returns-in_default : goal.returns-in_default
returns-in_default c =
    let a = c.args in
    let e = birth_past a.births.now a.switch (omega (arith, c.in_default.ensures.lookup.3)) in
    let (x, y) = by_later a.out.now a.switch (birth_in a.births.now a.switch) a.p a.cut (omega (arith, c.ranges)) (λ z. omega (arith, c.ranges)) in
    (sym x, sym y)

pub returns-then-birth-cut : goal.returns-then-birth-cut
unfolding birth_in
returns-then-birth-cut c =
    let a = c.args in
    let e = c.in-Some.ensures.lookup.3.1 65536 in
    let (x, y) = by_older a.out.now a.switch (birth_in a.births.now a.switch) a.p a.cut (omega arith) in
    (c.pass_older.ensures ∙ sym x, ap (set a.out.now a.switch) c.zone_older.ensures ∙ sym y)

pub returns-then-birth-cut-2 : goal.returns-then-birth-cut-2
unfolding birth_in
returns-then-birth-cut-2 c =
    let a = c.args in
    let e = c.in-Some.ensures.lookup.3.1 65536 in
    let (x, y) = by_new a.out.now a.switch (birth_in a.births.now a.switch) a.p a.cut (omega arith) in (
      c.pass_new-next.ensures ∙ sym x,
      ap (set a.out.now a.switch) (c.zone_new.ensures ∙ ap (λ (p : Passed). zone_new a.p.new p.share a.cut.left) c.pass_new-next.ensures) ∙ sym y,
    )

pub returns : goal.returns
unfolding birth_in
returns c =
    let a = c.args in
    let e = c.in-Some.ensures.lookup.3.1 65536 in
    let (x, y) = by_later a.out.now a.switch (birth_in a.births.now a.switch) a.p a.cut (omega arith) (λ z. omega arith) in
    (sym x, sym y)
