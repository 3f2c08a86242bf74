use Rattle.std.proofs.Common.{sym, subst}
use Rattle.mondschein.specs.Outcome.{Outcome}
use Rattle.in_place.specs.declared.Session.{Session}
use Rattle.collect.proofs.Keeping.{printed_keeps}
use Rattle.calls.proofs.Stays.{SameLinks, offered_same, index_same}
use Rattle.calls.proofs.offer_ear.Goals as goal

pub returns-clause-keeps : goal.returns-clause-keeps
returns-clause-keeps c =
    let same : SameLinks c.args.s.now c.offer-answer.new.self = subst (λ (o : Outcome Session). SameLinks c.args.s.now o.after) (sym c.offer-answer.ensures) (offered_same c.args.s.now _) in
    (printed_keeps _ _ _ _ c.reply_to_ear-written.ensures, index_same _ _ same c.args.index.now c.requires.1)
