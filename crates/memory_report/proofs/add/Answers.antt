use Rattle.std.proofs.Common.{refl, sym, ◌∙◌}
use Rattle.memory.proofs.Returns.{lengths_wrong}
use Rattle.memory_report.proofs.Returns.{rows_wrong, rows_right, lengths_add, adding_refused, adding_counted, sized_right}
use Rattle.memory_report.proofs.add.Goals as goal
use Rattle.memory_report.proofs.add.Goals.{then-wrong_rows-via-then-wrong_rows, then-wrong_rows-via-else-wrong_rows+then-wrong_lengths}

pub returns-then-wrong_rows : goal.returns-then-wrong_rows
returns-then-wrong_rows c =
    elim c.then-wrong_rows.branch [
      | then-wrong_rows-via-then-wrong_rows w ↦
          λ used births order u b o. (lengths_wrong _ _ 0 (rows_wrong _ _ (sym c.wrong_rows.ensures ∙ w.if-wrong_rows.true)) refl).returns
      | then-wrong_rows-via-else-wrong_rows+then-wrong_lengths w ↦
          λ used births order u b o. (lengths_wrong _ _ 0
          (rows_right _ _ _ (sym c.wrong_rows.ensures ∙ w.if-wrong_rows.false)
          (lengths_add _ _ _ _ _ _ _ _ u b o ∙ sym w.wrong_lengths.ensures ∙ w.if-wrong_lengths.true))
          refl).returns
    ]

pub returns-in-Err : goal.returns-in-Err
returns-in-Err c =
    λ used births order u b o. sized_right _ _
    (rows_right _ _ _ (sym c.wrong_rows.ensures ∙ c.if-wrong_rows.false)
    (lengths_add _ _ _ _ _ _ _ _ u b o ∙ sym c.wrong_lengths.ensures ∙ c.if-wrong_lengths.false))
    (adding_refused c.args.sessions.now c.in-Err.refusal c.from.ensures (rw c.state_of-st.ensures at (c.in-Err.ensures used births order)))

pub returns-in-Ok : goal.returns-in-Ok
returns-in-Ok c =
    λ used births order u b o. sized_right _ _
    (rows_right _ _ _ (sym c.wrong_rows.ensures ∙ c.if-wrong_rows.false)
    (lengths_add _ _ _ _ _ _ _ _ u b o ∙ sym c.wrong_lengths.ensures ∙ c.if-wrong_lengths.false))
    (adding_counted c.args.sessions.now c.in-Ok.count (rw c.state_of-st.ensures at (c.in-Ok.ensures used births order)))
