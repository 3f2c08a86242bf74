use Rattle.std.proofs.Common.{List, ℕ, ap₂, ◌∙◌}
use Rattle.lines.specs.declared.Line.{Line}
use Rattle.collect.specs.Answering.{dialogue_in, respond_to}
use Rattle.collect.proofs.Collecting.{coded_turn}
use Rattle.collect.proofs.Keeping.{numbers_keeps}
use Rattle.collect.proofs.answer.Goals as goal

pub returns-clause-answers : goal.returns-clause-answers
returns-clause-answers c = λ s.
    let d = dialogue_in c.args.d s c.args.links.now c.args.ducts.now in
    c.respond.ensures.responds s _
    ∙ ap₂ (λ (l : Line) (ns : List ℕ). respond_to d c.args.number l.form ns) c.read_line-line.ensures.0 c.read_line-line.ensures.1
    ∙ coded_turn d c.args.number c.args.bytes.now c.args.numbers.now

pub returns-clause-keeps_2 : goal.returns-clause-keeps_2
returns-clause-keeps_2 c = rw c.read_line-line.ensures.1 (numbers_keeps c.args.bytes.now c.args.numbers.now)
