use Rattle.std.proofs.Common.{sym, ◌∙◌, arith}
use Rattle.mondschein.specs.Network.{size, former, latter, joins}
use Rattle.mondschein.specs.Judge.{checked, numbered, link_too_large, self_link, repeated_link, load_checks, loading_by}
use Rattle.mondschein.proofs.Checks.{check_hit, check_miss}
use Rattle.network.proofs.check_table.Goals as goal

pub overflow_cast-result : goal.overflow_cast-result
unfolding size
overflow_cast-result c = omega (arith, c.in-Some.ensures.within)

pub returns-in-Some : goal.returns-in-Some
unfolding loading_by checked numbered load_checks link_too_large former latter size
returns-in-Some c = sym (check_hit 2 _ _ _ c.in-Some.ensures.lowest c.in-Some.ensures.within)

pub overflow_cast-result-in-Some-first_self_link : goal.overflow_cast-result-in-Some-first_self_link
unfolding size
overflow_cast-result-in-Some-first_self_link c = omega (arith, c.in-Some-first_self_link.ensures.within)

pub returns-in-Some-first_self_link : goal.returns-in-Some-first_self_link
unfolding loading_by checked numbered load_checks link_too_large self_link former latter size
returns-in-Some-first_self_link c =
    sym
    (check_miss 2 _ _ _ c.in_default.ensures.lowest (omega arith)
    ∙ check_hit 3 _ _ _ c.in-Some-first_self_link.ensures.lowest c.in-Some-first_self_link.ensures.within)

pub overflow_cast-result-in-Some-first_repeated_link : goal.overflow_cast-result-in-Some-first_repeated_link
unfolding size
overflow_cast-result-in-Some-first_repeated_link c = omega (arith, c.in-Some-first_repeated_link.ensures.within)

pub returns-in-Some-first_repeated_link : goal.returns-in-Some-first_repeated_link
unfolding loading_by checked numbered load_checks link_too_large self_link repeated_link joins former latter size
returns-in-Some-first_repeated_link c =
    sym
    (check_miss 2 _ _ _ c.in_default.ensures.lowest (omega arith)
    ∙ check_miss 3 _ _ _ c.in_default-first_self_link.ensures.lowest (omega arith)
    ∙ check_hit 4 _ _ _ c.in-Some-first_repeated_link.ensures.lowest c.in-Some-first_repeated_link.ensures.within)

pub returns : goal.returns
unfolding loading_by checked numbered load_checks link_too_large self_link repeated_link joins former latter size
returns c =
    c.check_names.ensures
    ∙ sym
    (check_miss 2 _ _ _ c.in_default.ensures.lowest (omega arith)
    ∙ check_miss 3 _ _ _ c.in_default-first_self_link.ensures.lowest (omega arith)
    ∙ check_miss 4 _ _ _ c.in_default-first_repeated_link.ensures.lowest (omega arith))
