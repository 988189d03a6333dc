use Rattle.std.proofs.Common.{sym}
use Rattle.std.proofs.lemmas.List.{set_past}
use Rattle.index.proofs.words.insert.Goals as goal

pub returns-else-q-words : goal.returns-else-q-words
returns-else-q-words c = sym (set_past _ _ _ c.if-q-words.false)
