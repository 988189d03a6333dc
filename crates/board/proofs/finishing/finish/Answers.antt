use Rattle.pasts.specs.Tables.{tables}
use Rattle.pasts.specs.declared.call.Call.TheVariants.{Finish}
use Rattle.pasts.proofs.Outcomes.{call_unsound, finish_done}
use Rattle.board.proofs.Exits.{exit_err}
use Rattle.board.proofs.finishing.finish.Goals as goal

pub returns-in_err-check_tables : goal.returns-in_err-check_tables
returns-in_err-check_tables g c =
    rw (exit_err _ c.from_residual.result c.from_residual.ensures.1)
    (call_unsound g.V.Grade.Scale.meaning (g.V.Survey.degrees c.args.survey.now) (tables c.args.statements.now c.args.rules.now) Finish _ c.in_err-check_tables.ensures)

pub returns : goal.returns
returns g c =
    finish_done g.V.Grade.Scale.meaning (g.V.Survey.degrees c.args.survey.now) (tables c.args.statements.now c.args.rules.now) c.run_either.result (tables c.run_either.new.statements c.args.rules.now) c.in_ok-check_tables.ensures c.run_either.ensures
