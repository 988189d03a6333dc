use Rattle.std.proofs.lemmas.Result.{err_from_is_err_and}
use Rattle.text.proofs.Counts.{in_count, past_count}
use Rattle.text.proofs.rows.next_header.Goals as goal

pub returns-in_err-check_count-clause-read : goal.returns-in_err-check_count-clause-read
returns-in_err-check_count-clause-read c =
    let p = err_from_is_err_and c.from_residual-in_err-check_count.result c.from_residual-in_err-check_count.ensures.1 in
    rw (p.1, p.2) (in_count c.args.limits.statements c.args.limits.places c.args.reader.now c.in_ok-bytes.bytes.now c.in_ok-bytes.ensures.line c.in_ok-check_due.ensures _ c.in_err-check_count.ensures)

pub returns-clause-read : goal.returns-clause-read
returns-clause-read c =
    past_count c.args.limits.statements c.args.limits.places c.args.reader.now c.in_ok-bytes.bytes.now c.in_ok-bytes.ensures.line c.in_ok-check_due.ensures c.in_ok-check_count.ensures _ c.rule_count.ensures
