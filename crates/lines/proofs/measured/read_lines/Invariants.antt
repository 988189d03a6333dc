use Rattle.std.proofs.Common.{◌≡◌, ◌+◌, [], length, None, vec_items}
use Rattle.std.specs.Iterator.Adapters.{enumerate_count, enumerate_source}
use Rattle.plaintext.specs.Bytes.{lines}
use Rattle.lines.specs.Measured.{Outcome, Says}
use Rattle.lines.proofs.measured.read_lines.Given as goal

-- so many lines are behind, and these and the rest are all of the text's; what the rest makes of the file is what the whole text does
abbrev pub invariant-loop-i : goal.invariant-loop-i
invariant-loop-i l =
    (goal.iterator-loop-i).can_next l.i-iterator × (goal.iterator-loop-i).is_finite l.i-iterator
    × (l.behind ≡ enumerate_count l.i-iterator)
    × (enumerate_count l.i-iterator + length (lines (enumerate_source l.i-iterator)) ≡ length (lines l.text))
    × ((o : Outcome) → Says (enumerate_count l.i-iterator) l.ends (vec_items l.readings) (lines (enumerate_source l.i-iterator)) o → Says 0 None [] (lines l.text) o)
