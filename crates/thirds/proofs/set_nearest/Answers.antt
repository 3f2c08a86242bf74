use Rattle.std.proofs.Common.{refl, ap, ◌∙◌, ℕ, replicate, arith}
use Rattle.thirds.specs.Tree3.{birth_read}
use Rattle.thirds.proofs.Chaining.{read_most, read_late, chained_none}
use Rattle.thirds.proofs.Following.{nearing_begin, nearing_all}
use Rattle.thirds.proofs.set_nearest.Goals as goal

pub chain_links-requires : goal.chain_links-requires
chain_links-requires c =
    (chained_none c.args.links.now (birth_read c.args.births.now) c.requires.2 refl refl, c.requires.2)

pub returns : goal.returns
returns c =
    let births = c.args.births.now in
    nearing_all c.args.n c.args.links.now c.args.last births c.args.row.now _ _ c.requires.0
    (λ root.
    c.follow_chains.ensures root c.args.last (birth_read births) c.chain_links.ensures
    (nearing_begin c.args.n c.args.links.now root c.args.last (birth_read births) _ _ _ (read_most births)
    (read_late births c.requires.1) (c.fill.ensures.after (λ y e. e) ∙ ap (λ (k : ℕ). replicate k c.args.n) c.requires.0)
    c.store.ensures (omega arith)))
