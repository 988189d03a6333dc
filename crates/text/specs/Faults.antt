-- What is amiss in a text, and which fault comes first. Assumes nothing.
--     in_field r line column      the refusal r of the field that begins at the column
--     of_line r line column       the refusal r of a line
--     of_board r line column      the refusal r of the board
--     at_no_place r               the refusal r of the tables
--     report f                    the refusal, the layer, the line and the column of the fault f
--     Check                       a fault, and whether its case is met
--     judged cs x                 x, or the fault of the first check that is met
--     Unmet cs                    none of the checks is met
--     FirstMet cs q               the first check that is met has the report q
--     field_risen r, line_risen r     a result whose fault has risen to the board
use Rattle.std.specs.Prelude.{◌≡◌, ℕ, Bool, true, false, cond, List, [], ◌∷◌, Ok, Err, Result}
use Rattle.pasts.specs.declared.refusal.Refusal.{Refusal}
use Rattle.text.specs.declared.faults.Place.{Place}
use Rattle.text.specs.declared.faults.FieldFault.{FieldFault}
use Rattle.text.specs.declared.faults.LineFault.{LineFault}
use Rattle.text.specs.declared.faults.LineFault.TheVariants.{OnLine, InField}
use Rattle.text.specs.declared.faults.Fault.{Fault}
use Rattle.text.specs.declared.faults.Fault.TheVariants.{OnBoard, InLine}
use Rattle.text.specs.declared.faults.Layer.TheVariants.{Field, Line, Board}
use Rattle.text.specs.declared.faults.Report.{Report}

abbrev pub place : ℕ → ℕ → Place
place line column = record { line = line; column = column }

abbrev pub in_field : Refusal → ℕ → ℕ → Fault
in_field r line column = InLine (InField (record { refusal = r; place = place line column }))

abbrev pub of_line : Refusal → ℕ → ℕ → Fault
of_line r line column = InLine (OnLine r (place line column))

abbrev pub of_board : Refusal → ℕ → ℕ → Fault
of_board r line column = OnBoard r (place line column)

abbrev pub at_no_place : Refusal → Fault
at_no_place r = of_board r 0 0

abbrev pub report : Fault → Report
report (OnBoard r p) = record { refusal = r; layer = Board; place = p }
report (InLine (OnLine r p)) = record { refusal = r; layer = Line; place = p }
report (InLine (InField f)) = record { refusal = f.refusal; layer = Field; place = f.place }

pub record Check : Type 0 where
  pub fault : Fault
  pub met : Bool

abbrev pub check : Fault → Bool → Check
check f b = record { fault = f; met = b }

abbrev pub Unmet : List Check → Type 0
Unmet [] = Unit {0}
Unmet (c ∷ cs) = (c.met ≡ false) × Unmet cs

pub data FirstMet : List Check → Report → Type 0 where
  here : {c : Check} {cs : List Check} → c.met ≡ true → FirstMet (c ∷ cs) (report c.fault)
  later : {c : Check} {cs : List Check} {q : Report} → c.met ≡ false → FirstMet cs q → FirstMet (c ∷ cs) q

module _ {X : Type 0} where
  abbrev pub judged : List Check → X → Result X Fault
  judged [] x = Ok x
  judged (c ∷ cs) x = cond c.met (Err c.fault) (judged cs x)

  abbrev pub line_risen : Result X LineFault → Result X Fault
  line_risen (Ok x) = Ok x
  line_risen (Err f) = Err (InLine f)

  abbrev pub field_risen : Result X FieldFault → Result X Fault
  field_risen (Ok x) = Ok x
  field_risen (Err f) = Err (InLine (InField f))
