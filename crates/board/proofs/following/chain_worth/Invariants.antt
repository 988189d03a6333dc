use Rattle.std.proofs.Common.{◌≡◌, drop}
use Rattle.pasts.specs.Tables.{grades}
use Rattle.board.specs.Indexed.{keyed, chosen}
use Rattle.board.proofs.Places.{join_all}
use Rattle.board.proofs.following.chain_worth.Given as goal

abbrev pub invariant-loop-rule : goal.invariant-loop-rule
invariant-loop-rule g l =
    let m = g.V.Grade.Scale.meaning in
    let at = grades m l.statements in
    let it = l.rule-iterator in
    join_all m at l.total (chosen it.key (drop it.at (keyed 1 it.rules.now))) ≡ join_all m at l.initial.total (chosen l.s (keyed 1 l.own.rules.now))
