-- A line at the front of what is left of a text.
use Rattle.std.proofs.Common.{◌≡◌, ℕ, List, [], ◌∷◌, take, Ok}
use Rattle.text.specs.Faults.{judged}
use Rattle.text.specs.Rows.{whole_check}
use Rattle.text.proofs.Judged.{passed}

-- a line that was taken
pub taken_is : (width number : ℕ) (rest bytes : List ℕ) → Ok bytes ≡ judged (whole_check width number rest ∷ []) (take width rest) → bytes ≡ take width rest
taken_is width number rest bytes e = (passed (whole_check width number rest ∷ []) (take width rest) bytes e).1
