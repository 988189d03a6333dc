use Rattle.pasts.specs.Tables.{tables}
use Rattle.pasts.specs.Calls.{adds}
use Rattle.pasts.specs.declared.call.Answer.TheVariants.{Added}
use Rattle.pasts.specs.declared.call.Call.TheVariants.{Add}
use Rattle.pasts.proofs.Outcomes.{call_unsound, call_refused, call_done}
use Rattle.board.proofs.Exits.{exit_err}
use Rattle.board.proofs.adding.add.Goals as goal

pub returns-in_err-check_tables : goal.returns-in_err-check_tables
returns-in_err-check_tables g c d =
    rw (exit_err _ c.from_residual.result c.from_residual.ensures.1)
    (call_unsound g.G.Scale.meaning d (tables c.args.statements.now c.args.rules.now) (Add c.args.k c.args.rule) _ c.in_err-check_tables.ensures)

pub returns-in_err-check_add : goal.returns-in_err-check_add
returns-in_err-check_add g c d =
    rw (exit_err _ c.from_residual-in_err-check_add.result c.from_residual-in_err-check_add.ensures.1)
    (call_refused g.G.Scale.meaning d (tables c.args.statements.now c.args.rules.now) (Add c.args.k c.args.rule) _ c.in_ok-check_tables.ensures c.in_err-check_add.ensures)

pub returns : goal.returns
returns g c d =
    call_done g.G.Scale.meaning d (tables c.args.statements.now c.args.rules.now) (Add c.args.k c.args.rule) Added (tables c.tell.new.statements c.put.new.items) c.in_ok-check_tables.ensures c.in_ok-check_add.ensures
    (adds (record { rules = c.put.ensures; statements = c.tell.ensures }))
