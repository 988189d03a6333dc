-- What a file of measured lines says. Assumes nothing.
--     comment word            the line is skipped: it has no word, or its first word begins with #
--     kind line               what one line says: nothing, the shoulders, a reading, or none of these
--     Says n ends rs ls o     after n lines that gave the shoulders `ends`, if any, and the readings rs, the other lines ls make o of the
--                             file: a ramp, or a first fault and what was expected there
--     Reads text r            r is what all lines of the text make; only memory may be wanting besides
use Rattle.std.specs.Prelude.{◌≡◌, ℕ, ◌+◌, Bool, true, false, cond, ◌||◌, List, [], ◌∷◌, ◌++◌, length, Some, None, Ok, Err, vec_items, codes, Option, Result, ◌==◌, slice_index}
use Rattle.std.specs.Str.{bytes_eq}
use Rattle.plaintext.specs.Bytes.{lines, first_word, after_word, all_blank}
use Rattle.plaintext.specs.Numbers.{decimal, small}
use Rattle.surveys.specs.declared.ramp.Ramp.{Ramp}
use Rattle.lines.specs.declared.measured.Line.{Line}
use Rattle.lines.specs.declared.measured.Line.TheVariants.{Skipped, Shoulders, Reading, Other}
use Rattle.lines.specs.declared.measured.Expected.{Expected}
use Rattle.lines.specs.declared.measured.Expected.TheVariants as expected
use Rattle.lines.specs.declared.measured.ReadError.{ReadError}
use Rattle.lines.specs.declared.measured.ReadError.TheVariants.{Bad, NoMemory}

abbrev pub comment : List ℕ → Bool
comment word = length word == 0 || slice_index word 0 == 35

abbrev pub shoulders_from : Option ℕ → Option ℕ → Bool → Line
shoulders_from None far last = Other
shoulders_from (Some near) None last = Other
shoulders_from (Some near) (Some far) last = cond last (Shoulders near far) Other

abbrev pub shoulders_of : List ℕ → Line
shoulders_of line =
    shoulders_from (small (decimal (first_word line))) (small (decimal (first_word (after_word line)))) (all_blank (after_word (after_word line)))

abbrev pub reading_from : Option ℕ → Bool → Line
reading_from None last = Other
reading_from (Some r) last = cond last (Reading r) Other

abbrev pub reading_of : List ℕ → List ℕ → Line
reading_of word rest = reading_from (small (decimal word)) (all_blank rest)

abbrev pub kind : List ℕ → Line
kind line =
    cond (comment (first_word line)) Skipped (cond (bytes_eq (first_word line) (codes "ramp")) (shoulders_of (after_word line)) (reading_of (first_word line) (after_word line)))

pub data Outcome : Type 0 where
  ramp : (near far : ℕ) (readings : List ℕ) → Outcome
  fault : (line : ℕ) (due : Expected) → Outcome

-- what is due on the next line that is not skipped
abbrev pub due : Option (ℕ × ℕ) → Expected
due None = expected.Shoulders
due (Some ends) = expected.Reading

-- the line fits what is due
abbrev pub fits : Option (ℕ × ℕ) → Line → Bool
fits None Skipped = true
fits None (Shoulders near far) = true
fits None (Reading r) = false
fits None Other = false
fits (Some ends) Skipped = true
fits (Some ends) (Shoulders near far) = false
fits (Some ends) (Reading r) = true
fits (Some ends) Other = false

-- the shoulders and the readings after a line that fits
abbrev pub ends_after : Option (ℕ × ℕ) → Line → Option (ℕ × ℕ)
ends_after ends Skipped = ends
ends_after ends (Shoulders near far) = Some (near, far)
ends_after ends (Reading r) = ends
ends_after ends Other = ends

abbrev pub readings_after : List ℕ → Line → List ℕ
readings_after rs Skipped = rs
readings_after rs (Shoulders near far) = rs
readings_after rs (Reading r) = rs ++ r ∷ []
readings_after rs Other = rs

pub data Says : ℕ → Option (ℕ × ℕ) → List ℕ → List (List ℕ) → Outcome → Type 0 where
  ends : {n near far : ℕ} {rs : List ℕ} → Says n (Some (near, far)) rs [] (ramp near far rs)
  no_shoulders : {n : ℕ} {rs : List ℕ} → Says n None rs [] (fault (n + 1) expected.Shoulders)
  goes_on : {n : ℕ} {e : Option (ℕ × ℕ)} {rs line : List ℕ} {rest : List (List ℕ)} {o : Outcome} → fits e (kind line) ≡ true → Says (n + 1) (ends_after e (kind line)) (readings_after rs (kind line)) rest o → Says n e rs (line ∷ rest) o
  fails : {n : ℕ} {e : Option (ℕ × ℕ)} {rs line : List ℕ} {rest : List (List ℕ)} → fits e (kind line) ≡ false → Says n e rs (line ∷ rest) (fault (n + 1) (due e))

abbrev pub Reads : List ℕ → Result Ramp ReadError → Type 0
Reads text (Ok t) = Says 0 None [] (lines text) (ramp t.near t.far (vec_items t.readings))
Reads text (Err (Bad f)) = Says 0 None [] (lines text) (fault f.line f.expected)
Reads text (Err NoMemory) = Unit {0}
