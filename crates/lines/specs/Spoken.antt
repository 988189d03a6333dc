-- What is printed of a fault of a file. Assumes nothing.
--     expected_text x             what should have stood there
--     fault_text f                the line of the fault f, and what should have stood there
--     error_text e                the fault, or that memory is wanting
use Rattle.std.specs.Prelude.{ℕ, List, ◌++◌, codes, decimal}
use Rattle.lines.specs.declared.measured.Expected.{Expected}
use Rattle.lines.specs.declared.measured.Expected.TheVariants.{Shoulders, Reading}
use Rattle.lines.specs.declared.measured.Fault.{Fault}
use Rattle.lines.specs.declared.measured.ReadError.{ReadError}
use Rattle.lines.specs.declared.measured.ReadError.TheVariants.{Bad, NoMemory}

abbrev pub expected_text : Expected → List ℕ
expected_text Shoulders = codes "`ramp NEAR FAR`, two numbers up to 65535"
expected_text Reading = codes "one reading, a number up to 65535"

abbrev pub fault_text : Fault → List ℕ
fault_text f = codes "line " ++ decimal f.line ++ codes ": expected " ++ expected_text f.expected

abbrev pub error_text : ReadError → List ℕ
error_text (Bad f) = fault_text f
error_text NoMemory = codes "out of memory"
