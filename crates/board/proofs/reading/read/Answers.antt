use Rattle.std.proofs.Common.{sym, subst, ap₂}
use Rattle.pasts.specs.Tables.{tables}
use Rattle.pasts.specs.Calls.{Outcome, reads}
use Rattle.pasts.specs.declared.call.Answer.{Answer}
use Rattle.pasts.specs.declared.call.Answer.TheVariants.{Graded}
use Rattle.pasts.specs.declared.call.Call.TheVariants.{Read}
use Rattle.pasts.proofs.Outcomes.{call_unsound, call_refused, call_done}
use Rattle.board.proofs.Exits.{exit_err}
use Rattle.board.proofs.reading.read.Goals as goal

pub returns-in_err-check_tables : goal.returns-in_err-check_tables
returns-in_err-check_tables g c d =
    rw (exit_err _ c.from_residual.result c.from_residual.ensures.1)
    (call_unsound g.G.Scale.meaning d (tables c.args.statements.now c.args.rules.now) (Read c.args.s) _ c.in_err-check_tables.ensures)

pub returns-in_err-check_read : goal.returns-in_err-check_read
returns-in_err-check_read g c d =
    rw (exit_err _ c.from_residual-in_err-check_read.result c.from_residual-in_err-check_read.ensures.1)
    (call_refused g.G.Scale.meaning d (tables c.args.statements.now c.args.rules.now) (Read c.args.s) _ c.in_ok-check_tables.ensures c.in_err-check_read.ensures)

pub returns : goal.returns
returns g c d =
    let m = g.G.Scale.meaning in
    let t = tables c.args.statements.now c.args.rules.now in
    let P : Answer g.row.G.Denot → Type 0 = λ a. Outcome m d (Read c.args.s) t a t in
    subst P (sym (ap₂ Graded c.grade_of-grade.ensures c.settled.ensures)) (call_done m d t (Read c.args.s) _ t c.in_ok-check_tables.ensures c.in_ok-check_read.ensures reads)
