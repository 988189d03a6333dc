use Rattle.plaintext.proofs.Listing.{lines_fit}
use Rattle.plaintext.proofs.cuts.lines.Goals as goal

pub returns-clause-bound : goal.returns-clause-bound
returns-clause-bound c = lines_fit c.args.text.now
