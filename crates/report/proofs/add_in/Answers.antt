use Rattle.std.proofs.Common.{List, ℕ}
use Rattle.std.proofs.lemmas.Result.{err_from_is_err_and}
use Rattle.in_place.specs.declared.Session.{Session}
use Rattle.in_place.specs.InPlace.{session_in}
use Rattle.in_place.proofs.Queries.{stage_refused, stage_closed}
use Rattle.report.specs.declared.Report.{Report}
use Rattle.report.specs.Report.{report_of}
use Rattle.report.proofs.Answers.{added_refused, added_25, added_done}
use Rattle.report.proofs.add_in.Goals as goal

pub returns-in_err-require_closed : goal.returns-in_err-require_closed
returns-in_err-require_closed c =
    let report_in : Report = report_of c.args.sessions c.args.two.now c.args.three.now in
    let held : List ℕ → List ℕ → List ℕ → Session = λ used births order. session_in c.args.st c.args.links.now c.args.ducts.now used births order c.args.tree1.now c.args.tree2.now c.args.tree3.now in
    let p = err_from_is_err_and c.from_residual.result c.from_residual.ensures.1 in
    λ used births order. rw (p.1, p.2)
    (added_refused report_in (held used births order) (stage_refused c.args.st.stage c.require_closed.ensures c.in_err-require_closed.was _))

pub returns-then-sessions-eq65535 : goal.returns-then-sessions-eq65535
returns-then-sessions-eq65535 c =
    let report_in : Report = report_of c.args.sessions c.args.two.now c.args.three.now in
    let held : List ℕ → List ℕ → List ℕ → Session = λ used births order. session_in c.args.st c.args.links.now c.args.ducts.now used births order c.args.tree1.now c.args.tree2.now c.args.tree3.now in
    λ used births order. added_25 report_in (held used births order) (stage_closed c.args.st.stage c.require_closed.ensures c.in_ok-require_closed.was)
    c.if-sessions-eq65535.true

pub returns : goal.returns
returns c =
    let report_in : Report = report_of c.args.sessions c.args.two.now c.args.three.now in
    let held : List ℕ → List ℕ → List ℕ → Session = λ used births order. session_in c.args.st c.args.links.now c.args.ducts.now used births order c.args.tree1.now c.args.tree2.now c.args.tree3.now in
    λ used births order. added_done report_in (held used births order) (stage_closed c.args.st.stage c.require_closed.ensures c.in_ok-require_closed.was)
    c.if-sessions-eq65535.false c.min-switches.ensures c.stored-table.ensures c.add_losses.ensures.0 c.add_losses.ensures.1
