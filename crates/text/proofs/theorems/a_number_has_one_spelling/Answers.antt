use Rattle.text.proofs.Numbers.{reads_back, one_spelling}
use Rattle.text.proofs.theorems.a_number_has_one_spelling.Goals as goal

pub returns : goal.returns
returns c = record { reads_back = reads_back; one_spelling = one_spelling }
