use Rattle.std.proofs.Common.{drop, sym, ap, ◌∙◌}
use Rattle.model.specs.Rules.{joined}
use Rattle.pasts.specs.Tables.{grades}
use Rattle.board.specs.Indexed.{keyed, chosen}
use Rattle.board.proofs.Places.{join_all, joined_chosen}
use Rattle.board.proofs.following.chain_worth.Goals as goal

pub loop-rule-preserved : goal.loop-rule-preserved
loop-rule-preserved g c =
    let m = g.V.Grade.Scale.meaning in
    let at = grades m c.args.statements.now in
    let it = c.next.new.self in
    let total = c.join-total.ensures ∙ ap (m.join c.loop-rule.total) c.value.ensures in
    ap (λ x. join_all m at x (chosen it.key (drop it.at (keyed 1 it.rules.now)))) total ∙ sym (ap (join_all m at c.loop-rule.total) c.in-Some.ensures.steps) ∙ c.loop-rule.invariant

pub returns : goal.returns
returns g c =
    let m = g.V.Grade.Scale.meaning in
    let at = grades m c.args.statements.now in
    let rs = c.args.own.now.rules.now in
    let s = c.args.s in
    sym (ap (join_all m at c.loop-rule.total) c.in-None.ensures.steps.0)
    ∙ c.loop-rule.invariant
    ∙ sym (joined_chosen m at s rs c.degree-total.result)
    ∙ ap (λ x. joined m at s x rs) c.degree-total.ensures
