use Rattle.std.proofs.Common.{◌≡◌, drop}
use Rattle.board.specs.Telling.{all_told, sons}
use Rattle.pasts.specs.declared.statement.Event.TheVariants.{Opened}
use Rattle.board.proofs.telling.open_sons.Given as goal

abbrev pub invariant-loop-rule : goal.invariant-loop-rule
invariant-loop-rule g l =
    let m = g.G.Scale.meaning in
    all_told m Opened l.statements (sons (drop l.rule-index l.rules) l.s) ≡ all_told m Opened l.initial.statements (sons l.rules l.s)
