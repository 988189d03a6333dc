use Rattle.std.proofs.lemmas.Result.{err_from_is_err_and}
use Rattle.text.specs.Fields.{number_checks}
use Rattle.text.specs.Rows.{five, number_in, mark_limits}
use Rattle.text.proofs.Judged.{stops}
use Rattle.text.proofs.rows.Line+ROW.mark.Goals as goal

pub returns-in_err-mark : goal.returns-in_err-mark
returns-in_err-mark c =
    let b = c.args.self.now.bytes.now in
    let p = err_from_is_err_and c.from_residual.result c.from_residual.ensures.1 in
    rw (p.1, p.2) (stops (number_checks (five 2 b) c.args.self.now.number 2) (mark_limits c.args.places c.args.last c.args.self.now.number (number_in b 2)) (number_in b 2) (number_in b 2) _ c.in_err-mark.ensures)
