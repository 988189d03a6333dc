use Rattle.std.proofs.Common.{rules, ap}
use Rattle.board.specs.Values.{weighed}
use Rattle.board.proofs.Weighed.{reduced_by, folded_by}
use Rattle.board.proofs.valuing.by_form.Goals as goal

pub returns-in-All : goal.returns-in-All
returns-in-All g c =
    let m = g.G.Scale.meaning in
    let r = c.args.rule.now in
    reduced_by _ m.meet _ (λ a x b q k. search rules) g.I.Iterator.next_gives c.args.grades m r.form r.weight c.map_or.result (ap (weighed m) c.in-All.is) c.reduce.result c.reduce.ensures.ran (search rules)

pub returns-in-Any : goal.returns-in-Any
returns-in-Any g c =
    let m = g.G.Scale.meaning in
    let r = c.args.rule.now in
    reduced_by _ m.join _ (λ a x b q k. search rules) g.I.Iterator.next_gives c.args.grades m r.form r.weight c.map_or-in-Any.result (ap (weighed m) c.in-Any.is) c.reduce-in-Any.result c.reduce-in-Any.ensures.ran (search rules)

pub returns-in-Chain : goal.returns-in-Chain
returns-in-Chain g c =
    let m = g.G.Scale.meaning in
    let r = c.args.rule.now in
    folded_by _ m.blend _ (λ a x b q k. search rules) g.I.Iterator.next_gives c.args.grades m r.form r.weight c.fold.result (ap (weighed m) c.in-Chain.is) c.fold.ensures.ran
