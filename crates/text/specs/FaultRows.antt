-- What a fault says of the text, by its number, layer, line and column. Assumes nothing.
--     Spells bytes column v       the five columns of a line that begin at the column spell the number v
--     Short width rest            too few bytes are left for a line of that width, or its line feed is not in place
--     first_line text             the first line, before its line feed
--     at_line line text           what is left of the text where a line after the first begins
--     rule_line line text         that line, before its line feed
--     Due text line               the line is that of a rule, by the rule count in the first line
--     numbers, bodies             the columns at which the numbers of a rule's line begin, and those of its bodies
--     FaultRow c n p text k layer line column    that row of the table of refusals holds of the text over n statements and p places
--     FaultsAreRows m c           a refused load leaves the tables, and the row of its fault holds
--     RowsAreRefused m c          where a row holds of the text the load is refused
--     NotAfter line column k l c j    the fault k at the line and column comes no later than the fault j at the line l and column c: it is
--                                 in a line above, or in the same line to the left, or at the same place with k at most j
--     FaultsAreFirst m c          the fault of a refused load comes no later than any row that holds
use Rattle.std.specs.Prelude.{◌≡◌, ℕ, ◌+◌, ◌-◌, ◌*◌, ◌<◌, ◌≤◌, ◌⊎◌, List, [], ◌∷◌, length, take, drop, Err, Result, ◌≢◌, slice_index}
use Rattle.scales.specs.Meaning.{Meaning}
use Rattle.scales.specs.Codes.{Coding}
use Rattle.model.specs.Least.{On}
use Rattle.model.specs.Letters.{letter}
use Rattle.model.specs.Pins.{OneOf}
use Rattle.model.specs.declared.rule.Form.{Form}
use Rattle.pasts.specs.Refusals.{number}
use Rattle.pasts.specs.Tables.{Tables, count}
use Rattle.text.specs.Decimal.{written}
use Rattle.text.specs.Faults.{report}
use Rattle.text.specs.Loads.{Loads}
use Rattle.text.specs.declared.faults.Fault.{Fault}
use Rattle.text.specs.declared.faults.Layer.{Layer}
use Rattle.text.specs.declared.faults.Layer.TheVariants.{Field, Line, Board}

abbrev pub Spells : List ℕ → ℕ → ℕ → Type 0
Spells bytes column v = (v < 100000) × (take 5 (drop (column - 1) bytes) ≡ written v)

abbrev pub Short : ℕ → List ℕ → Type 0
Short width rest = (length rest ≤ width) ⊎ (slice_index rest width ≢ 10)

abbrev pub first_line : List ℕ → List ℕ
first_line text = take 11 text

abbrev pub at_line : ℕ → List ℕ → List ℕ
at_line line text = drop (12 + 38 * (line - 2)) text

abbrev pub rule_line : ℕ → List ℕ → List ℕ
rule_line line text = take 37 (at_line line text)

pub record Due (text : List ℕ) (line : ℕ) : Type 0 where
  pub rules : ℕ
  pub said : Spells (first_line text) 7 rules
  pub from : 2 ≤ line
  pub to : line ≤ rules + 1

abbrev pub numbers : List ℕ
numbers = 2 ∷ 7 ∷ 13 ∷ 18 ∷ 23 ∷ 28 ∷ 33 ∷ []

abbrev pub bodies : List ℕ
bodies = 18 ∷ 23 ∷ 28 ∷ 33 ∷ []

module _ {G : Type 0} (c : Coding G) (n p : ℕ) (text : List ℕ) where
  pub data FaultRow : ℕ → Layer → ℕ → ℕ → Type 0 where
    table_length : (On 1024 n × On 4096 p → ⊥) → FaultRow 1 Board 0 0
    no_head : {line v : ℕ} → Due text line → Spells (rule_line line text) 7 v → (On n v → ⊥) → FaultRow 3 Board line 7
    no_body : {line column v : ℕ} → Due text line → OneOf column bodies → Spells (rule_line line text) column v → n < v → FaultRow 3 Board line column
    no_mark : {line v : ℕ} → Due text line → Spells (rule_line line text) 2 v → (On p v → ⊥) → FaultRow 4 Board line 2
    body_gap : {line column v : ℕ} → Due text line → OneOf column bodies → 18 < column → Spells (rule_line line text) (column - 5) 0 → Spells (rule_line line text) column v → (v ≢ 0) → FaultRow 7 Board line column
    first_short : Short 11 text → FaultRow 10 Line 1 1
    rule_short : {line : ℕ} → Due text line → Short 37 (at_line line text) → FaultRow 10 Line line 1
    first_letter : (slice_index (first_line text) 0 ≢ 66) → FaultRow 11 Line 1 1
    rule_letter : {line : ℕ} → Due text line → (slice_index (rule_line line text) 0 ≢ 82) → FaultRow 11 Line line 1
    no_form : {line : ℕ} → Due text line → ((f : Form) → slice_index (rule_line line text) 11 ≢ letter f) → FaultRow 11 Field line 12
    first_number : {column : ℕ} → OneOf column (2 ∷ 7 ∷ []) → ((v : ℕ) → Spells (first_line text) column v → ⊥) → FaultRow 12 Field 1 column
    rule_number : {line column : ℕ} → Due text line → OneOf column numbers → ((v : ℕ) → Spells (rule_line line text) column v → ⊥) → FaultRow 12 Field line column
    no_grade : {line v : ℕ} → Due text line → Spells (rule_line line text) 13 v → ((g : G) → c.code g ≢ v) → FaultRow 13 Field line 13
    wrong_count : {v : ℕ} → Spells (first_line text) 2 v → (v ≢ n) → FaultRow 14 Board 1 2
    many_rules : {v : ℕ} → Spells (first_line text) 7 v → p < v → FaultRow 14 Board 1 7
    bytes_follow : {line v : ℕ} → Spells (first_line text) 7 v → line ≡ v + 2 → 1 ≤ length (at_line line text) → FaultRow 14 Board line 1
    mark_order : {line v w : ℕ} → Due text line → 3 ≤ line → Spells (rule_line (line - 1) text) 2 w → Spells (rule_line line text) 2 v → v ≤ w → FaultRow 15 Board line 2

abbrev pub NotAfter : ℕ → ℕ → ℕ → ℕ → ℕ → ℕ → Type 0
NotAfter line column k l c j = (line < l) ⊎ ((line ≡ l) × ((column < c) ⊎ ((column ≡ c) × (k ≤ j))))

module _ {G : Type 0} (m : Meaning G) (c : Coding G) where
  abbrev pub FaultsAreRows : Type 0
  FaultsAreRows =
      (text : List ℕ) (t u : Tables G) (f : Fault) → Loads m c text t (Err f) u
      → (u ≡ t) × FaultRow c (count t) (length t.rules) text (number (report f).refusal) (report f).layer (report f).place.line (report f).place.column

  abbrev pub RowsAreRefused : Type 0
  RowsAreRefused =
      (text : List ℕ) (t u : Tables G) (r : Result ℕ Fault) (k : ℕ) (layer : Layer) (line column : ℕ) → Loads m c text t r u
      → FaultRow c (count t) (length t.rules) text k layer line column → (f : Fault) × (r ≡ Err f)

  abbrev pub FaultsAreFirst : Type 0
  FaultsAreFirst =
      (text : List ℕ) (t u : Tables G) (f : Fault) (k : ℕ) (layer : Layer) (line column : ℕ) → Loads m c text t (Err f) u
      → FaultRow c (count t) (length t.rules) text k layer line column → NotAfter (report f).place.line (report f).place.column (number (report f).refusal) line column k
