use Rattle.std.proofs.Common.{◌≡◌, drop}
use Rattle.board.specs.Telling.{all_told, parents}
use Rattle.pasts.specs.declared.statement.Event.TheVariants.{SonRose}
use Rattle.board.proofs.telling.tell_parents.Given as goal

abbrev pub invariant-loop-rule : goal.invariant-loop-rule
invariant-loop-rule g l =
    let m = g.G.Scale.meaning in
    all_told m SonRose l.statements (parents (drop l.rule-index l.rules) l.s) ≡ all_told m SonRose l.initial.statements (parents l.rules l.s)
