use Rattle.std.proofs.Common.{◌+◌, ◌-◌, sym, ap, ◌∙◌}
use Rattle.std.proofs.lemmas.Result.{err_from_is_err_and}
use Rattle.text.specs.Boards.{placed}
use Rattle.text.specs.Rows.{rules_in}
use Rattle.text.proofs.Turns.{in_line, goes_on, on_place, placed_on}
use Rattle.text.proofs.loading.read_rules.Goals as goal

pub returns-in_err-read-clause-answer : goal.returns-in_err-read-clause-answer
returns-in_err-read-clause-answer g c =
    let p = err_from_is_err_and c.from_residual.result c.from_residual.ensures.1 in
    rw (p.1, p.2) (in_line g.G.Scale.meaning g.G.Written.coding c.args.limits.statements c.args.limits.places c.loop-line.last c.loop-line.line (c.args.count + 2) c.loop-line.reader _ c.loop-line-test.true c.in_err-read.ensures.read ∙ c.loop-line.invariant.answer)

pub put-requires : goal.put-requires
put-requires g c =
    (on_place g.G.Scale.meaning g.G.Written.coding c.args.limits.statements c.args.limits.places c.loop-line.last c.loop-line.line (c.args.count + 2) c.loop-line.reader _ c.in_ok-read.read c.loop-line-test.true c.in_ok-read.ensures.read c.in_ok-read.ensures.rest).0

pub loop-line-preserved : goal.loop-line-preserved
loop-line-preserved g c =
    let m = g.G.Scale.meaning in
    let k = g.G.Written.coding in
    let n = c.args.limits.statements in
    let p = c.args.limits.places in
    let end = c.args.count + 2 in
    let next = c.next_rule.new.reader in
    let read = c.in_ok-read.ensures.read in
    let moved = c.in_ok-read.ensures.rest in
    record {
      answer = sym (goes_on m k n p c.loop-line.last c.loop-line.line end c.loop-line.reader next c.in_ok-read.read c.loop-line-test.true read moved) ∙ c.loop-line.invariant.answer;
      placed = ap (λ rules. placed rules (rules_in m k (end - (c.loop-line.line + 1)) next)) c.put.ensures ∙ (placed_on m k n p c.loop-line.last c.loop-line.line end c.loop-line.reader next c.in_ok-read.read c.loop-line-test.true read moved c.loop-line.rules ∙ c.loop-line.invariant.placed);
    }
