-- What is printed of a line that is not carried out. Assumes nothing.
--     error_text e                what should have stood on it, or that memory is wanting
use Rattle.std.specs.Prelude.{ℕ, List, ◌++◌, codes}
use Rattle.spelling.specs.Spoken.{expected_text}
use Rattle.script.specs.declared.faults.ScriptError.{ScriptError}
use Rattle.script.specs.declared.faults.ScriptError.TheVariants.{Malformed, NoMemory}

abbrev pub error_text : ScriptError → List ℕ
error_text (Malformed x) = codes "expected " ++ expected_text x
error_text NoMemory = codes "out of memory"
