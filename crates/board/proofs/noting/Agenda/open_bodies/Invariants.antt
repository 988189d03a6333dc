use Rattle.std.proofs.Common.{◌≡◌, drop}
use Rattle.model.specs.Rules.{present}
use Rattle.board.specs.Telling.{all_told}
use Rattle.pasts.specs.declared.statement.Event.TheVariants.{Opened}
use Rattle.board.proofs.noting.Agenda.open_bodies.Given as goal

abbrev pub invariant-loop-b : goal.invariant-loop-b
invariant-loop-b g l =
    let m = g.G.Scale.meaning in
    (all_told m Opened l.self.statements.now (present (drop l.b-index l.b-items)) ≡ all_told m Opened l.initial.self.statements.now (present l.b-items))
    × (l.self.statements.ghost_name ≡ l.initial.self.statements.ghost_name)
