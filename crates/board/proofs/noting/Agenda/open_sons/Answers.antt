use Rattle.std.proofs.Common.{drop, sym, ap, ◌∙◌}
use Rattle.model.specs.Rules.{present}
use Rattle.pasts.specs.declared.statement.Event.TheVariants.{Opened}
use Rattle.board.specs.Telling.{all_told}
use Rattle.board.specs.Indexed.{keyed, chosen}
use Rattle.board.proofs.Turns.{all_told_append}
use Rattle.board.proofs.Places.{bodies_of, sons_chosen}
use Rattle.board.proofs.noting.Agenda.open_sons.Goals as goal

pub loop-rule-preserved : goal.loop-rule-preserved
loop-rule-preserved g c =
    let m = g.G.Scale.meaning in
    let it = c.next.new.self in
    let rest = bodies_of (chosen it.key (drop it.at (keyed 1 it.rules.now))) in
    let xs = c.loop-rule.self.statements.now in (
      ap (λ x. all_told m Opened x rest) c.open_bodies.ensures.hears ∙ sym (all_told_append m Opened (present c.in-Some.rule.now.bodies) rest xs) ∙ sym (ap (λ l. all_told m Opened xs (bodies_of l)) c.in-Some.ensures.steps) ∙ c.loop-rule.invariant.0,
      c.open_bodies.ensures.same_reference ∙ c.loop-rule.invariant.1,
    )

pub returns : goal.returns
returns g c =
    let m = g.G.Scale.meaning in
    record {
      same_reference = c.loop-rule.invariant.1;
      hears = sym (ap (λ l. all_told m Opened c.loop-rule.self.statements.now (bodies_of l)) c.in-None.ensures.steps.0) ∙ c.loop-rule.invariant.0 ∙ ap (all_told m Opened c.args.self.now.statements.now) (sym (sons_chosen c.args.s c.args.own.now.rules.now));
    }
