use Prim.Native.Nat.{ℕ}
use mathlib.Core.Path.{◌≡◌, refl, sym, ◌∙◌}
use mathlib.Core.Bool.{true, false, not, ◌&&◌}
use mathlib.Core.List.{List}
use Rattle.mondschein.specs.Network.{size, former, latter, joins, joined}
use Rattle.mondschein.specs.Judge.{checked, numbered, wrong_names, missing_link, load_checks, loading_by}
use Rattle.mondschein.proofs.Checks.{check_fail, check_pass}
use Rattle.network.specs.Load.{network_of, table_of}
use Rattle.network.proofs.check_names.Goals as goal
use Rattle.network.proofs.check_names.Goals.{then-not-joined-via-then-not-joined, then-not-joined-via-else-not-joined+then-not-joined-2}

-- check 6 asks the table alone
module _ (n : ℕ) (links : List ℕ) (root first last k : ℕ) where
  asked : missing_link (network_of n links root first last) k ≡ not (joined (table_of links) root first && joined (table_of links) root last)
  unfolding missing_link joined joins former latter size
  asked = refl

  no_first : joined (table_of links) root first ≡ false → missing_link (network_of n links root first last) k ≡ true
  no_first f = asked ∙ rw f

  no_last : joined (table_of links) root first ≡ true → joined (table_of links) root last ≡ false → missing_link (network_of n links root first last) k ≡ true
  no_last t f = asked ∙ rw (t, f)

  both : joined (table_of links) root first ≡ true → joined (table_of links) root last ≡ true → missing_link (network_of n links root first last) k ≡ false
  both t u = asked ∙ rw (t, u)

pub returns-then-wrong_names : goal.returns-then-wrong_names
unfolding loading_by checked numbered load_checks wrong_names
returns-then-wrong_names c = sym (check_fail _ _ _ (sym c.wrong_names.ensures ∙ c.if-wrong_names.true))

pub returns-then-not-joined : goal.returns-then-not-joined
unfolding loading_by checked numbered load_checks wrong_names
returns-then-not-joined c =
    sym
    (check_pass _ _ _ _ (λ k l. sym c.wrong_names.ensures ∙ c.if-wrong_names.false)
    ∙ check_fail _ _ _
    (elim c.then-not-joined.branch [
      | then-not-joined-via-then-not-joined w ↦ no_first _ _ _ _ _ _ (sym c.joined.ensures ∙ w.if-not-joined.true)
      | then-not-joined-via-else-not-joined+then-not-joined-2 w ↦ no_last c.args.n c.args.links.now c.args.root c.args.first c.args.last 0 (sym c.joined.ensures ∙ w.if-not-joined.false) (sym w.joined-else-not-joined.ensures ∙ w.if-not-joined-2.true)
    ]))

pub returns : goal.returns
unfolding loading_by checked numbered load_checks wrong_names size
returns c =
    sym
    (check_pass _ _ _ _ (λ k l. sym c.wrong_names.ensures ∙ c.if-wrong_names.false)
    ∙ check_pass _ _ _ _
    (λ k l. both _ _ _ _ _ _ (sym c.joined.ensures ∙ c.if-not-joined.false)
    (sym c.joined-else-not-joined.ensures ∙ c.if-not-joined-2.false)))
