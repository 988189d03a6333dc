use Rattle.std.proofs.Common.{ℕ, rules, tests, not, eqb, ap, ◌∙◌}
use Rattle.std.proofs.lemmas.Iterator.{YieldsList-from_slice, YieldsList-from_map}
use Rattle.std.proofs.lemmas.Iterator.Consumers.{YieldsList-at, YieldsList-from_filter}
use Rattle.std.specs.List.{filter}
use Rattle.model.specs.Rules.{by_form}
use Rattle.pasts.specs.Tables.{grades}
use Rattle.board.proofs.Weighed.{present_filter, drained_weighed}
use Rattle.board.proofs.valuing.any_value.Goals as goal

pub returns : goal.returns
returns g c =
    let m = g.G.Scale.meaning in
    let at = grades m c.args.statements.now in
    let r = c.args.rule.now in
    let test = λ (b : ℕ). not (eqb b 0) in
    drained_weighed _ m at r.form r.weight c.by_form.result (filter test r.bodies) c.by_form.ensures
    (YieldsList-from_map _ at
    (YieldsList-at c.map.ensures.source
    (YieldsList-from_filter _ test (YieldsList-at c.filter-there.ensures.source (YieldsList-from_slice r.bodies (search rules))) c.filter-there.ensures.closure (λ x b q k. search (rules, tests))))
    c.map.ensures.closure (λ x y q k. search rules))
    ∙ ap (by_form m at r.form r.weight) (present_filter r.bodies)
