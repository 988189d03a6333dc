-- The fault of a refused load comes no later than any row of the table of refusals that holds of the text.
use Rattle.std.proofs.Common.{length, refl}
use Rattle.scales.specs.Meaning.{Meaning}
use Rattle.scales.specs.Codes.{Coding, Codes}
use Rattle.pasts.specs.Tables.{count}
use Rattle.text.specs.FaultRows.{FaultsAreFirst}
use Rattle.text.proofs.EachCheck.{until_first}
use Rattle.text.proofs.RowsRefused.{NoLater, reached}

module _ {G : Type 0} {m : Meaning G} {c : Coding G} (codes : Codes m c 65535) where
  pub faults_are_first : FaultsAreFirst m c
  faults_are_first text t u f k layer line column l row =
      until_first (NoLater line column k) ⊥ (reached codes (count t) (length t.rules) text row) (l.refused f refl).1
