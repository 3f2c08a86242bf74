use Rattle.std.proofs.Common.{sym, ◌∙◌, arith}
use Rattle.disjoint.specs.Matching.{unnamed}
use Rattle.disjoint.proofs.Promising.{told_26, told_18, told_answer}
use Rattle.routing.proofs.routes_between.Goals as goal

pub returns-then-wrong_pair : goal.returns-then-wrong_pair
returns-then-wrong_pair c =
    let a = c.args in
    sym (told_26 (unnamed a.n a.links.now) a.s a.t a.out.now (sym c.wrong_pair.ensures ∙ c.if-wrong_pair.true))

pub returns-then-out-n : goal.returns-then-out-n
returns-then-out-n c =
    let a = c.args in
    sym (told_18 (unnamed a.n a.links.now) a.s a.t a.out.now (sym c.wrong_pair.ensures ∙ c.if-wrong_pair.false) (omega arith))

pub returns : goal.returns
returns c =
    let a = c.args in
    c.answer.ensures ∙ sym (told_answer (unnamed a.n a.links.now) a.s a.t a.out.now (sym c.wrong_pair.ensures ∙ c.if-wrong_pair.false) (omega arith))
