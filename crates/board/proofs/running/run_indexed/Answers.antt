use Rattle.std.proofs.Common.{arith}
use Rattle.model.specs.Rules.{blank}
use Rattle.board.proofs.Chained.{heads_keyed, uses_keyed}
use Rattle.board.proofs.running.run_indexed.Goals as goal

pub by_heads-own-requires-clause-keyed : goal.by_heads-own-requires-clause-keyed
by_heads-own-requires-clause-keyed g c k h =
    let low = heads_keyed _ c.args.rules.now k (blank g.V.Grade.Scale.meaning) c.requires.formed h in omega (arith, c.requires.few)

pub by_bodies-uses-requires-clause-keyed : goal.by_bodies-uses-requires-clause-keyed
by_bodies-uses-requires-clause-keyed g c k h =
    let low = uses_keyed _ c.args.rules.now k (blank g.V.Grade.Scale.meaning) c.requires.formed h in omega (arith, c.requires.few)
