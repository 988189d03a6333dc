use Rattle.std.proofs.Common.{◌≤◌, drop}
use Rattle.plaintext.proofs.Cutting.{Alike}
use Rattle.plaintext.specs.Numbers.{digits}
use Rattle.plaintext.proofs.decimals.number.Given as goal

-- what is left to read goes on from the value so far as the word goes on from 0, as far as 65,536
abbrev pub invariant-loop-byte : goal.invariant-loop-byte
invariant-loop-byte l = (l.value ≤ 65536) × Alike (digits l.value (drop l.byte-index l.word)) (digits 0 l.word)
