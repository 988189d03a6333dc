use Rattle.std.proofs.Common.{arith}
use Rattle.model.specs.Rules.{blank}
use Rattle.board.proofs.Chained.{uses_keyed}
use Rattle.board.proofs.reaching.leading_by_chains.Goals as goal

pub by_bodies-uses-requires-clause-keyed : goal.by_bodies-uses-requires-clause-keyed
by_bodies-uses-requires-clause-keyed g c k h =
    let low = uses_keyed _ c.args.rules.now k (blank g.G.Scale.meaning) c.requires.formed h in omega arith
