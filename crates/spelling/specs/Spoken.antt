-- What is printed of a malformed line. Assumes nothing.
--     expected_text x             what should have stood on it
use Rattle.std.specs.Prelude.{ℕ, List, codes}
use Rattle.spelling.specs.declared.fields.Expected.{Expected}
use Rattle.spelling.specs.declared.fields.Expected.TheVariants.{LineEnd, Number, Reading, GradeCode, FormLetter, FourBodies, Verb, BoardFirst, ScaleName, SurveyPart, NoRamp}

abbrev pub expected_text : Expected → List ℕ
expected_text LineEnd = codes "the end of the line"
expected_text Number = codes "a decimal number"
expected_text Reading = codes "a number up to 65535"
expected_text GradeCode = codes "the code of a grade of this scale"
expected_text FormLetter = codes "a form: A, O or L"
expected_text FourBodies = codes "at most four bodies"
expected_text Verb = codes "board, add, withdraw, want, step, finish, read, tables, grades, load PATH or write"
expected_text BoardFirst = codes "a `board` line first"
expected_text ScaleName = codes "a scale: percent, verdict, suppliers or belief"
expected_text SurveyPart = codes "`listed`, `ramp` or the end of the line"
expected_text NoRamp = codes "no ramp, since only percent has one"
