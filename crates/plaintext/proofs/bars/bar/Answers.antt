use Rattle.std.proofs.Common.{◌≡◌, ℕ, zero, suc, replicate, [], ◌∷◌, refl, ap}
use Rattle.std.specs.List.{repeat}
use Rattle.plaintext.proofs.bars.bar.Goals as goal

-- a text of one mark, repeated, is that many marks
marks : (n mark : ℕ) → repeat n (mark ∷ []) ≡ replicate n mark
marks zero mark = refl
marks (suc n) mark = ap (λ ms. mark ∷ ms) (marks n mark)

pub returns : goal.returns
returns c = rw (marks, c.filled.ensures) at c.repeat.ensures.bytes
