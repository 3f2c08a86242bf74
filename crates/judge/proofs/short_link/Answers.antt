use Rattle.std.proofs.Common.{◌∙◌, rules, tests}
use Rattle.mondschein.specs.Network.{size}
use Rattle.judge.proofs.Short.{short_found}
use Rattle.judge.proofs.short_link.Goals as goal

pub returns : goal.returns
unfolding size
returns c =
    let f = short_found c.args.n c.args.links.now c.args.births.now c.args.used.now c.args.ear.now c.if-ear-ne2.false c.if-n-a.false c.if-n-b.false c.if-a-b.false
    (λ z. c.if-entry-eq0.false (c.entry.ensures ∙ z)) (λ z. c.if-entry-eq0-2.false (c.entry-else-entry-eq0.ensures ∙ z)) c.if-initial.false
    c.link_by.result c.filter.result c.link_by.ensures.lowest c.link_by.ensures.within c.filter.ensures (λ l b h. search (rules, tests)) in
    record { short = f.0; within = f.1 }
