use Rattle.std.proofs.Common.{sym, subst}
use Rattle.mondschein.specs.Order.{shortest}
use Rattle.mondschein.specs.Outcome.{Outcome}
use Rattle.in_place.specs.declared.Session.{Session}
use Rattle.collect.proofs.Keeping.{printed_keeps}
use Rattle.calls.proofs.Stays.{SameLinks, closed_same}
use Rattle.calls.proofs.close.Goals as goal

pub returns-clause-keeps : goal.returns-clause-keeps
returns-clause-keeps c =
    let same : SameLinks c.args.s.now c.try_close-answer.new.self = subst (λ (o : Outcome Session). SameLinks c.args.s.now o.after) (sym c.try_close-answer.ensures) (closed_same shortest c.args.s.now) in
    (printed_keeps _ _ _ _ c.reply_to_close-written.ensures, same.m, same.links)
