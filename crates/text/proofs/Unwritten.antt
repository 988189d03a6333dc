-- A number above 65535 is no grade's code.
use Rattle.std.proofs.Common.{◌≡◌, ℕ, ◌<◌, false, is_some, Some, None, Option, refl, arith}
use Rattle.scales.specs.Meaning.{Meaning}
use Rattle.scales.specs.Codes.{Coding, Codes}

module _ {G : Type 0} {m : Meaning G} {c : Coding G} (codes : Codes m c 65535) (n : ℕ) (high : 65535 < n) where
  none_there : (o : Option G) → c.decode n ≡ o → is_some o ≡ false
  none_there (Some g) e = absurd (omega (arith, codes.encodes n g e, codes.code_bound g))
  none_there None e = refl

  pub unwritten : is_some (c.decode n) ≡ false
  unwritten = none_there (c.decode n) refl
