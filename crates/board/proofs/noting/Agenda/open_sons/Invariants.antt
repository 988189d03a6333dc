use Rattle.std.proofs.Common.{◌≡◌, drop}
use Rattle.board.specs.Telling.{all_told}
use Rattle.board.specs.Indexed.{keyed, chosen}
use Rattle.pasts.specs.declared.statement.Event.TheVariants.{Opened}
use Rattle.board.proofs.Places.{bodies_of}
use Rattle.board.proofs.noting.Agenda.open_sons.Given as goal

abbrev pub invariant-loop-rule : goal.invariant-loop-rule
invariant-loop-rule g l =
    let m = g.G.Scale.meaning in
    let it = l.rule-iterator in
    (all_told m Opened l.self.statements.now (bodies_of (chosen it.key (drop it.at (keyed 1 it.rules.now)))) ≡ all_told m Opened l.initial.self.statements.now (bodies_of (chosen l.s (keyed 1 l.own.rules.now))))
    × (l.self.statements.ghost_name ≡ l.initial.self.statements.ghost_name)
