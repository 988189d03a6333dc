use Rattle.std.proofs.Common.{sym, arith}
use Rattle.plaintext.proofs.Cutting.{read_one}
use Rattle.plaintext.proofs.decimals.number.Goals as goal

pub loop-byte-preserved : goal.loop-byte-preserved
loop-byte-preserved c = (
  omega arith,
  read_one c.loop-byte.value c.args.word.now c.loop-byte.byte-index c.loop-byte.invariant.1 _ _ c.loop-byte-test.true (sym c.in_ok-digit.ensures) c.min-value.ensures,
)
