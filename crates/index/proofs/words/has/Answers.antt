use Rattle.std.proofs.Common.{◌≡◌, ◌/◌, ◌%◌, ◌^◌, eqb, get_or, sym, ap, ◌∙◌}
use lib.Bits.{and_mask}
use Rattle.std.proofs.lemmas.List.{get_or_past}
use Rattle.std.proofs.lemmas.Bool.{le-ltb}
use Rattle.index.specs.Words.{digit}
use Rattle.std.proofs.lemmas.Nat.Bits.{bit_at-zero}
use Rattle.index.proofs.words.has.Goals as goal

pub returns-then-q-words : goal.returns-then-q-words
returns-then-q-words c =
    ap (λ n. eqb n 1) (and_mask (get_or c.args.words.now (c.args.i / 64) 0 / 2 ^ (c.args.i % 64)) 1)

pub returns-else-q-words : goal.returns-else-q-words
returns-else-q-words c =
    let i = c.args.i in
    let none : digit (i % 64) (get_or c.args.words.now (i / 64) 0) ≡ 0 = ap (digit (i % 64)) (get_or_past c.args.words.now (i / 64) 0 c.if-q-words.false) ∙ bit_at-zero (i % 64) in
    le-ltb _ _ c.if-q-words.false ∙ sym (ap (λ n. eqb n 1) none)
