use Rattle.scales.specs.SupplierLaws.{sets_are}
use Rattle.scales.proofs.suppliers.supplier_sets_are_sets.Goals as goal

pub returns : goal.returns
returns c = sets_are
