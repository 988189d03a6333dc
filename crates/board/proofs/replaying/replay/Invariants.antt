use Rattle.std.proofs.Common.{◌≡◌, reverse, length, take}
use Rattle.pasts.specs.Tables.{tables}
use Rattle.pasts.specs.Pasts.{Past}
use Rattle.board.specs.Replays.{calls}
use Rattle.board.proofs.replaying.replay.Given as goal

abbrev pub invariant-loop-entry : goal.invariant-loop-entry
invariant-loop-entry g l =
    Past g.V.Grade.Scale.meaning (g.V.Survey.degrees l.survey) (length l.initial.statements) (length l.initial.rules) (reverse (take l.entry-index l.entries)) (tables l.statements l.rules)
    × (calls l.entries ≡ calls l.initial.entries)
