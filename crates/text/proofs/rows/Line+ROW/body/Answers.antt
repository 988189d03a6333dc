use Rattle.std.proofs.lemmas.Result.{err_from_is_err_and}
use Rattle.text.specs.Fields.{number_checks}
use Rattle.text.specs.Rows.{five, number_in, body_limits}
use Rattle.text.proofs.Judged.{stops}
use Rattle.text.proofs.rows.Line+ROW.body.Goals as goal

pub returns-in_err-body : goal.returns-in_err-body
returns-in_err-body c =
    let b = c.args.self.now.bytes.now in
    let k = c.args.column in
    let p = err_from_is_err_and c.from_residual.result c.from_residual.ensures.1 in
    rw (p.1, p.2) (stops (number_checks (five k b) c.args.self.now.number k) (body_limits c.args.statements c.args.self.now.number k c.args.absent (number_in b k)) (number_in b k) (number_in b k) _ c.in_err-body.ensures)
