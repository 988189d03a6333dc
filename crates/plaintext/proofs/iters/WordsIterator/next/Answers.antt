use Rattle.std.proofs.Common.{rules, ◌≡◌, ◌+◌, length}
use Rattle.plaintext.specs.Bytes.{words}
use Rattle.plaintext.proofs.Listing.{no_word, word_then}
use Rattle.plaintext.proofs.iters.WordsIterator.next.Goals as goal

pub returns-in_err-word-clause-steps : goal.returns-in_err-word-clause-steps
returns-in_err-word-clause-steps c = let e = no_word c.args.self.now (search rules) in search rules

pub returns-clause-steps : goal.returns-clause-steps
returns-clause-steps c = (word_then c.args.self.now c.in_ok-word.word.now c.in_ok-word.rest.now (search rules), search rules)

pub returns-clause-goes : goal.returns-clause-goes
returns-clause-goes c = let e = word_then c.args.self.now c.in_ok-word.word.now c.in_ok-word.rest.now (search rules) in let k : length (words c.args.self.now) ≡ length (words c.in_ok-word.rest.now) + 1 = search rules in search rules
