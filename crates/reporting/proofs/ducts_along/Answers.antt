use Rattle.std.proofs.Common.{ℕ, ◌+◌, ◌-◌, ◌≡◌, refl, sym, ap, ◌∙◌, subst, arith}
use Rattle.mondschein.specs.Network.{former, latter}
use Rattle.reporting.specs.Reporting.{duct_told}
use Rattle.reporting.proofs.Ducts.{Found, found_begin, found_next, found_end}
use Rattle.reporting.proofs.ducts_along.Goals as goal

pub loop-i-init : goal.loop-i-init
loop-i-init c = found_begin c.args.links.now c.args.ducts.now c.args.row.now

pub loop-i-preserved : goal.loop-i-preserved
unfolding former latter
loop-i-preserved c =
    let a = c.args in
    let l = c.loop-i in
    let j : ℕ = l.i - 1 in
    let e : l.i ≡ j + 1 = omega arith in
    subst (Found a.links.now a.ducts.now a.row.now j) (sym (c.tell_duct-in-loop-i.ensures ∙ ap (duct_told a.row.now _ _ c.mark_at-duct.result) c.tell_duct.ensures))
    (found_next a.links.now a.ducts.now a.row.now j (subst (λ (i : ℕ). Found a.links.now a.ducts.now a.row.now i l.found) e l.invariant) refl refl c.mark_at-duct.ensures)

pub returns : goal.returns
returns c =
    let a = c.args in
    let l = c.loop-i in
    found_end a.links.now a.ducts.now a.row.now (subst (λ (i : ℕ). Found a.links.now a.ducts.now a.row.now i l.found) (omega arith) l.invariant)
