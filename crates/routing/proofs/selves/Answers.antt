use Rattle.std.proofs.Common.{◌≡◌, ℕ, ◌<◌, sym, ◌∙◌, ◌+◌, get_or, ext_get_or, rules, tests, arith}
use Rattle.disjoint.specs.Matching.{up_from}
use Rattle.disjoint.proofs.Answering.{up_from_at, up_from_length}
use Rattle.routing.proofs.selves.Goals as goal

pub returns : goal.returns
returns c =
    let r = c.from_fn.ensures.items in
    let ys = c.from_fn.result in
    let each : (j : ℕ) → j < 1027 → get_or ys j 0 ≡ j = λ j h. let k = (r.at j 0 h).2 in search (rules, tests) in
    ext_get_or 0 ys (up_from 1027 0) (r.long ∙ sym (up_from_length 1027 0))
    (λ j h. each j (omega (arith, r.long)) ∙ sym (up_from_at 1027 0 j (omega (arith, r.long)) ∙ (let z : 0 + j ≡ j = omega arith in z)))
