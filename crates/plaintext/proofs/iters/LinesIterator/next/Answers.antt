use Rattle.std.proofs.Common.{rules, ◌≡◌, ◌+◌, length}
use Rattle.plaintext.specs.Bytes.{lines}
use Rattle.plaintext.proofs.Listing.{line_then}
use Rattle.plaintext.proofs.iters.LinesIterator.next.Goals as goal

pub returns-clause-steps : goal.returns-clause-steps
returns-clause-steps c = line_then c.args.self.now c.in_ok-line.line.now c.in_ok-line.after.now (search rules)

pub returns-clause-goes : goal.returns-clause-goes
returns-clause-goes c = let e = line_then c.args.self.now c.in_ok-line.line.now c.in_ok-line.after.now (search rules) in let k : length (lines c.args.self.now) ≡ length (lines c.in_ok-line.after.now) + 1 = search rules in search rules
