-- What is printed of a fault. Assumes nothing.
--     place_text p                the line and the column of a place
--     layer_text l                the word for a layer
--     report_text r               a refusal with its number, its layer and its place
use Rattle.std.specs.Prelude.{ℕ, List, ◌++◌, codes, decimal}
use Rattle.pasts.specs.Spoken.{refusal_text}
use Rattle.text.specs.declared.faults.Layer.{Layer}
use Rattle.text.specs.declared.faults.Layer.TheVariants.{Field, Line, Board}
use Rattle.text.specs.declared.faults.Place.{Place}
use Rattle.text.specs.declared.faults.Report.{Report}

abbrev pub place_text : Place → List ℕ
place_text p = codes "line " ++ decimal p.line ++ codes " column " ++ decimal p.column

abbrev pub layer_text : Layer → List ℕ
layer_text Field = codes "field"
layer_text Line = codes "line"
layer_text Board = codes "board"

abbrev pub report_text : Report → List ℕ
report_text r = refusal_text r.refusal ++ codes " at " ++ layer_text r.layer ++ codes " " ++ place_text r.place
