use Rattle.std.proofs.Common.{◌+◌, ◌∷◌, length, get_or, drop, sym, ap, ◌∙◌, arith}
use Rattle.index.specs.Chains.{place}
use Rattle.board.specs.Indexed.{keys, keyed, chosen}
use Rattle.board.proofs.Places.{chosen_none, chosen_more, inside, key_at}
use Rattle.board.proofs.chaining.RulesOfIterator.next.Goals as goal

pub returns-in_err-rule-clause-steps : goal.returns-in_err-rule-clause-steps
returns-in_err-rule-clause-steps g c =
    let it = c.args.self.now in
    let none = chosen_none g.row.EACH it.rules.now it.key it.each it.at c.in_err-rule.ensures.lookup.3 in
    rw c.from_residual.ensures (none, none)

pub bounds-self-self : goal.bounds-self-self
bounds-self-self g c =
    let it = c.args.self.now in
    omega (arith, inside g.row.EACH it.each it.rules.now it.at c.in_ok-rule.ensures.lookup.3.0, it.room)

pub invariant_of-self : goal.invariant_of-self
invariant_of-self g c =
    let it = c.args.self.now in
    let n = g.row.EACH in
    let on = inside n it.each it.rules.now it.at c.in_ok-rule.ensures.lookup.3.0 in
    record {
      each = it.each;
      room = it.room;
      here = λ h. key_at n it.rules.now it.key (it.at + 1) _ (it.goes_on it.at on ∙ ap (λ y. place (keys n it.rules.now) y (it.at + 1)) (it.here on)) h;
      goes_on = it.goes_on;
    }

pub returns-clause-steps : goal.returns-clause-steps
returns-clause-steps g c =
    let it = c.args.self.now in
    let n = g.row.EACH in
    let h = c.in_ok-rule.ensures.lookup in
    let on = inside n it.each it.rules.now it.at h.3.0 in
    chosen_more n it.rules.now it.key it.each it.at _ c.in_ok-rule.rule.now h.3.0 (it.here on) (it.goes_on it.at on)
    ∙ ap (λ r. r ∷ chosen it.key (drop (get_or it.next.now it.at 0) (keyed n it.rules.now))) (sym h.1)

pub returns-clause-goes : goal.returns-clause-goes
returns-clause-goes g c =
    let it = c.args.self.now in
    let n = g.row.EACH in
    let h = c.in_ok-rule.ensures.lookup in
    let on = inside n it.each it.rules.now it.at h.3.0 in
    let more = chosen_more n it.rules.now it.key it.each it.at _ c.in_ok-rule.rule.now h.3.0 (it.here on) (it.goes_on it.at on) in
    record { on = λ _. (tt, tt, omega (arith, ap length more)); keeps = tt; rests = λ _. tt }

pub offset_bounds-self-self : goal.offset_bounds-self-self
offset_bounds-self-self g c =
    let it = c.args.self.now in
    omega (arith, inside g.row.EACH it.each it.rules.now it.at c.in_ok-rule.ensures.lookup.3.0, it.room)
