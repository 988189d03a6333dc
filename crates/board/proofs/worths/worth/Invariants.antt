use Rattle.std.proofs.Common.{◌≡◌, drop}
use Rattle.model.specs.Rules.{joined}
use Rattle.pasts.specs.Tables.{grades}
use Rattle.board.proofs.worths.worth.Given as goal

abbrev pub invariant-loop-rule : goal.invariant-loop-rule
invariant-loop-rule g l =
    let m = g.V.Grade.Scale.meaning in
    joined m (grades m l.statements) l.s l.total (drop l.rule-index l.rules) ≡ joined m (grades m l.statements) l.s l.initial.total l.rules
