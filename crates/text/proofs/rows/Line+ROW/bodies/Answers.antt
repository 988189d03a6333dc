use Rattle.std.proofs.lemmas.Result.{err_from_is_err_and}
use Rattle.text.proofs.Bodies.{in_first, in_second, in_third, in_fourth, all_four}
use Rattle.text.proofs.rows.Line+ROW.bodies.Goals as goal

pub returns-in_err-first : goal.returns-in_err-first
returns-in_err-first c =
    let p = err_from_is_err_and c.from_residual.result c.from_residual.ensures.1 in
    rw (p.1, p.2) (in_first c.args.statements c.args.self.now.number c.args.self.now.bytes.now _ c.in_err-first.ensures)

pub returns-in_err-second : goal.returns-in_err-second
returns-in_err-second c =
    let p = err_from_is_err_and c.from_residual-in_err-second.result c.from_residual-in_err-second.ensures.1 in
    rw (p.1, p.2) (in_second c.args.statements c.args.self.now.number c.args.self.now.bytes.now c.in_ok-first.first c.in_ok-first.ensures _ c.in_err-second.ensures)

pub returns-in_err-third : goal.returns-in_err-third
returns-in_err-third c =
    let p = err_from_is_err_and c.from_residual-in_err-third.result c.from_residual-in_err-third.ensures.1 in
    rw (p.1, p.2) (in_third c.args.statements c.args.self.now.number c.args.self.now.bytes.now c.in_ok-first.first c.in_ok-first.ensures c.in_ok-second.second c.in_ok-second.ensures _ c.in_err-third.ensures)

pub returns-in_err-fourth : goal.returns-in_err-fourth
returns-in_err-fourth c =
    let p = err_from_is_err_and c.from_residual-in_err-fourth.result c.from_residual-in_err-fourth.ensures.1 in
    rw (p.1, p.2) (in_fourth c.args.statements c.args.self.now.number c.args.self.now.bytes.now c.in_ok-first.first c.in_ok-first.ensures c.in_ok-second.second c.in_ok-second.ensures c.in_ok-third.third c.in_ok-third.ensures _ c.in_err-fourth.ensures)

pub returns : goal.returns
returns c =
    all_four c.args.statements c.args.self.now.number c.args.self.now.bytes.now c.in_ok-first.first c.in_ok-first.ensures c.in_ok-second.second c.in_ok-second.ensures c.in_ok-third.third c.in_ok-third.ensures c.in_ok-fourth.fourth c.in_ok-fourth.ensures
