use Rattle.std.proofs.Common.{rules, sym, ◌∙◌}
use Rattle.std.proofs.lemmas.Iterator.{YieldsList-from_slice, YieldsList-from_map}
use Rattle.std.proofs.lemmas.Iterator.Adapters.{serves_from_places}
use Rattle.std.proofs.lemmas.Iterator.Consumers.{YieldsList-at}
use Rattle.model.specs.Rules.{present}
use Rattle.pasts.specs.Tables.{grades}
use Rattle.board.proofs.Weighed.{present_there, drained_weighed}
use Rattle.board.proofs.valuing.front.Goals as goal

pub by_form-requires-clause-can : goal.by_form-requires-clause-can
by_form-requires-clause-can g c =
    let bs = c.args.rule.now.bodies in
    (tt, serves_from_places (YieldsList-at c.map.ensures.source (YieldsList-from_slice (present bs) (search rules ∙ sym c.requires.only))) (λ x q h. search rules) (λ x k h e. let there = present_there bs x.now k h e in search rules))

pub returns : goal.returns
returns g c =
    let m = g.G.Scale.meaning in
    let at = grades m c.args.statements.now in
    let r = c.args.rule.now in
    drained_weighed _ m at r.form r.weight c.by_form.result (present r.bodies) c.by_form.ensures
    (YieldsList-from_map _ at (YieldsList-at c.map.ensures.source (YieldsList-from_slice (present r.bodies) (search rules ∙ sym c.requires.only))) c.map.ensures.closure (λ x y q k. search rules))
