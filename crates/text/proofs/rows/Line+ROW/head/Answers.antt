use Rattle.std.proofs.lemmas.Result.{err_from_is_err_and}
use Rattle.text.specs.Fields.{number_checks}
use Rattle.text.specs.Rows.{five, number_in, head_limits}
use Rattle.text.proofs.Judged.{stops}
use Rattle.text.proofs.rows.Line+ROW.head.Goals as goal

pub returns-in_err-head : goal.returns-in_err-head
returns-in_err-head c =
    let b = c.args.self.now.bytes.now in
    let p = err_from_is_err_and c.from_residual.result c.from_residual.ensures.1 in
    rw (p.1, p.2) (stops (number_checks (five 7 b) c.args.self.now.number 7) (head_limits c.args.statements c.args.self.now.number (number_in b 7)) (number_in b 7) (number_in b 7) _ c.in_err-head.ensures)
