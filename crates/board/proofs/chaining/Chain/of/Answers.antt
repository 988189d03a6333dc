use Rattle.std.proofs.Common.{arith}
use Rattle.board.proofs.Places.{chosen_first, key_at}
use Rattle.board.proofs.chaining.Chain.of.Goals as goal

pub invariant_of-result : goal.invariant_of-result
invariant_of-result g c =
    let chain = c.args.self.now in
    let start = chain.starts c.args.s (omega (arith, c.requires)) in
    record {
      each = chain.each;
      room = chain.room;
      here = λ h. key_at g.row.EACH chain.rules.now c.args.s 0 _ start h;
      goes_on = chain.goes_on;
    }

pub returns : goal.returns
returns g c =
    let chain = c.args.self.now in
    chosen_first g.row.EACH chain.rules.now c.args.s _ (chain.starts c.args.s (omega (arith, c.requires)))
