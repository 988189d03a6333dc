use Rattle.std.proofs.Common.{◌+◌, drop, sym, ap, ◌∙◌, arith}
use Rattle.model.specs.Rules.{present}
use Rattle.pasts.specs.declared.statement.Event.TheVariants.{Opened}
use Rattle.board.specs.Telling.{all_told}
use Rattle.board.proofs.Turns.{present_skip, present_more, none_left}
use Rattle.board.proofs.noting.Agenda.open_bodies.Goals as goal
use Rattle.board.proofs.noting.Agenda.open_bodies.Goals.{then-b-ne0, else-b-ne0}

pub loop-b-preserved : goal.loop-b-preserved
loop-b-preserved g c =
    let m = g.G.Scale.meaning in
    let bs = c.args.bodies in
    let i = c.loop-b.b-index in
    elim c.if-b-ne0.branch [
      | then-b-ne0 w ↦ (
        ap (λ x. all_told m Opened x (present (drop (i + 1) bs))) (ap (λ a. a.statements.now) w.self-is ∙ w.tell.ensures.hears) ∙ sym (ap (all_told m Opened c.loop-b.self.statements.now) (present_more bs i (omega arith) w.if-b-ne0.true)) ∙ c.loop-b.invariant.0,
        ap (λ a. a.statements.ghost_name) w.self-is ∙ w.tell.ensures.same_reference ∙ c.loop-b.invariant.1,
      )
      | else-b-ne0 w ↦ (
        ap (λ x. all_told m Opened x (present (drop (i + 1) bs))) (ap (λ a. a.statements.now) w.self-is) ∙ sym (ap (all_told m Opened c.loop-b.self.statements.now) (present_skip bs i (omega arith) w.if-b-ne0.false)) ∙ c.loop-b.invariant.0,
        ap (λ a. a.statements.ghost_name) w.self-is ∙ c.loop-b.invariant.1,
      )
    ]

pub returns : goal.returns
returns g c =
    let m = g.G.Scale.meaning in
    record {
      same_reference = c.loop-b.invariant.1;
      hears = sym (none_left (λ l. all_told m Opened c.loop-b.self.statements.now (present l)) c.args.bodies c.loop-b.b-index (omega arith)) ∙ c.loop-b.invariant.0;
    }
