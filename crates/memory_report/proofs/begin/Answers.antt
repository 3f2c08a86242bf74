use Rattle.std.proofs.Common.{◌≡◌, List, ℕ, length, replicate, refl, sym, ap₂, ◌∙◌, rules}
use Rattle.report.specs.Report.{report_of}
use Rattle.memory.proofs.Returns.{granting, lengths_wrong, lengths_right}
use Rattle.memory_report.proofs.Returns.{cleared}
use Rattle.memory_report.proofs.begin.Goals as goal

pub returns-then-wrong_rows : goal.returns-then-wrong_rows
returns-then-wrong_rows c = (lengths_wrong _ _ 0 (sym c.wrong_rows.ensures ∙ c.if-wrong_rows.true) refl).returns

pub returns : goal.returns
returns c =
    let right = sym c.wrong_rows.ensures ∙ c.if-wrong_rows.false in
    let two : c.fill.new.self ≡ replicate (length c.args.two.now) 0 = search rules in
    let three : c.fill-2.new.self ≡ replicate (length c.args.three.now) 0 = search rules in
    (lengths_right _ _ 0 right (granting _ 0 refl refl (ap₂ (λ (two three : List ℕ). report_of 0 two three) two three ∙ cleared _ _ right))).returns
