use Rattle.std.proofs.Common.{refl}
use Rattle.pasts.specs.Tables.{tables}
use Rattle.pasts.specs.Calls.{wants}
use Rattle.pasts.specs.declared.call.Answer.TheVariants.{NowWanted}
use Rattle.pasts.specs.declared.call.Call.TheVariants.{Want}
use Rattle.pasts.proofs.Outcomes.{call_unsound, call_refused, call_done}
use Rattle.board.proofs.Exits.{exit_err}
use Rattle.board.proofs.wanting.want.Goals as goal

pub returns-in_err-check_tables : goal.returns-in_err-check_tables
returns-in_err-check_tables g c d =
    rw (exit_err _ c.from_residual.result c.from_residual.ensures.1)
    (call_unsound g.G.Scale.meaning d (tables c.args.statements.now c.args.rules.now) (Want c.args.s) _ c.in_err-check_tables.ensures)

pub returns-in_err-check_statement : goal.returns-in_err-check_statement
returns-in_err-check_statement g c d =
    rw (exit_err _ c.from_residual-in_err-check_statement.result c.from_residual-in_err-check_statement.ensures.1)
    (call_refused g.G.Scale.meaning d (tables c.args.statements.now c.args.rules.now) (Want c.args.s) _ c.in_ok-check_tables.ensures c.in_err-check_statement.ensures)

pub returns : goal.returns
returns g c d =
    call_done g.G.Scale.meaning d (tables c.args.statements.now c.args.rules.now) (Want c.args.s) NowWanted (tables c.tell.new.statements c.args.rules.now) c.in_ok-check_tables.ensures c.in_ok-check_statement.ensures
    (wants (record { rules = refl; statements = c.tell.ensures }))
