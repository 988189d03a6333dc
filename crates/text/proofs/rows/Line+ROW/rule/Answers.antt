use Rattle.std.proofs.lemmas.Result.{err_from_is_err_and}
use Rattle.text.proofs.RuleLines.{in_mark, in_head, in_form, in_weight, in_bodies, read}
use Rattle.text.proofs.rows.Line+ROW.rule.Goals as goal

pub returns-in_err-mark : goal.returns-in_err-mark
returns-in_err-mark g c =
    let p = err_from_is_err_and c.from_residual-in_err-mark.result c.from_residual-in_err-mark.ensures.1 in
    rw (p.1, p.2) (in_mark g.G.Scale.meaning g.G.Written.coding c.args.limits.statements c.args.limits.places c.args.last c.args.self.now.number c.args.self.now.bytes.now c.in_ok-check_due.ensures _ c.in_err-mark.ensures)

pub returns-in_err-head : goal.returns-in_err-head
returns-in_err-head g c =
    let p = err_from_is_err_and c.from_residual-in_err-head.result c.from_residual-in_err-head.ensures.1 in
    rw (p.1, p.2) (in_head g.G.Scale.meaning g.G.Written.coding c.args.limits.statements c.args.limits.places c.args.last c.args.self.now.number c.args.self.now.bytes.now c.in_ok-check_due.ensures c.in_ok-mark.mark c.in_ok-mark.ensures _ c.in_err-head.ensures)

pub returns-in_err-form : goal.returns-in_err-form
returns-in_err-form g c =
    let p = err_from_is_err_and c.from_residual-in_err-form.result c.from_residual-in_err-form.ensures.1 in
    rw (p.1, p.2) (in_form g.G.Scale.meaning g.G.Written.coding c.args.limits.statements c.args.limits.places c.args.last c.args.self.now.number c.args.self.now.bytes.now c.in_ok-check_due.ensures c.in_ok-mark.mark c.in_ok-mark.ensures c.in_ok-head.head c.in_ok-head.ensures _ c.in_err-form.ensures)

pub returns-in_err-weight : goal.returns-in_err-weight
returns-in_err-weight g c =
    let p = err_from_is_err_and c.from_residual-in_err-weight.result c.from_residual-in_err-weight.ensures.1 in
    rw (p.1, p.2) (in_weight g.G.Scale.meaning g.G.Written.coding c.args.limits.statements c.args.limits.places c.args.last c.args.self.now.number c.args.self.now.bytes.now c.in_ok-check_due.ensures c.in_ok-mark.mark c.in_ok-mark.ensures c.in_ok-head.head c.in_ok-head.ensures c.in_ok-form.form c.in_ok-form.ensures _ c.in_err-weight.ensures)

pub returns-in_err-bodies : goal.returns-in_err-bodies
returns-in_err-bodies g c =
    let p = err_from_is_err_and c.from_residual-in_err-bodies.result c.from_residual-in_err-bodies.ensures.1 in
    rw (p.1, p.2) (in_bodies g.G.Scale.meaning g.G.Written.coding c.args.limits.statements c.args.limits.places c.args.last c.args.self.now.number c.args.self.now.bytes.now c.in_ok-check_due.ensures c.in_ok-mark.mark c.in_ok-mark.ensures c.in_ok-head.head c.in_ok-head.ensures c.in_ok-form.form c.in_ok-form.ensures c.in_ok-weight.weight c.in_ok-weight.ensures _ c.in_err-bodies.ensures)

pub returns : goal.returns
returns g c = read g.G.Scale.meaning g.G.Written.coding c.args.limits.statements c.args.limits.places c.args.last c.args.self.now.number c.args.self.now.bytes.now c.in_ok-check_due.ensures c.in_ok-mark.mark c.in_ok-mark.ensures c.in_ok-head.head c.in_ok-head.ensures c.in_ok-form.form c.in_ok-form.ensures c.in_ok-weight.weight c.in_ok-weight.ensures c.in_ok-bodies.bodies c.in_ok-bodies.ensures
