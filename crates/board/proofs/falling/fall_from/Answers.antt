use Rattle.std.proofs.Common.{length, arith}
use Rattle.board.proofs.Spread.{formed_more}
use Rattle.board.proofs.Fallen.{falls_by}
use Rattle.board.proofs.falling.fall_from.Goals as goal

pub leading-flags-requires-clause-formed : goal.leading-flags-requires-clause-formed
leading-flags-requires-clause-formed g c =
    formed_more (length c.args.statements.now) 1024 c.requires.few c.args.rules.now c.requires.formed

pub returns : goal.returns
returns g c =
    falls_by g.G.Scale.meaning c.args.rules.now c.args.head c.args.statements.now c.fall.new.statements c.leading-flags.result c.fall.auto.statements (omega (arith, c.requires.few)) c.leading-flags.ensures c.fall.ensures
