use Rattle.std.proofs.Common.{◌≡◌, ◌≤◌, drop}
use Rattle.std.specs.List.{AllByRecursion as All}
use Rattle.board.specs.Telling.{all_told}
use Rattle.board.specs.Indexed.{keyed, chosen}
use Rattle.index.specs.Uses.{heads}
use Rattle.pasts.specs.declared.statement.Event.TheVariants.{SonRose}
use Rattle.board.proofs.noting.Agenda.tell_parents.Given as goal

abbrev pub invariant-loop-rule : goal.invariant-loop-rule
invariant-loop-rule g l =
    let m = g.G.Scale.meaning in
    let it = l.rule-iterator in
    (all_told m SonRose l.self.statements.now (heads (chosen it.key (drop it.at (keyed 4 it.rules.now)))) ≡ all_told m SonRose l.initial.self.statements.now (heads (chosen l.s (keyed 4 l.uses.rules.now))))
    × (l.self.statements.ghost_name ≡ l.initial.self.statements.ghost_name)
    × All (λ t. 1 ≤ t) (heads (chosen it.key (drop it.at (keyed 4 it.rules.now))))
