use Rattle.std.proofs.Common.{arith, w64}
use Rattle.std.proofs.lemmas.Nat.Bits.{bit_at-trailing_zeros}
use Rattle.index.proofs.sets.place_of_lowest.Goals as goal

pub returns : goal.returns
returns c =
    let at = bit_at-trailing_zeros w64 c.args.word c.requires (omega arith) in rw c.lowest.ensures (record { place = at.0; one = at.1; below = at.2 })
