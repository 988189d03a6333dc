-- What loads and writes have to do with each other, and with a board's past. Assumes nothing.
--     NumbersAreOne                 a number below 100000 reads back from its five columns, and they are the only ones that read so
--     SampleLine                    R    1    1A   90    2    0    0    0 is the line of rule 1 of the sample board
--     LoadHasOneOutcome m c         a load of a text into tables has one answer, and leaves one board
--     OneSpelling m c               two texts that load to the same rules over as many statements are the same text
--     LoadAfterWrite m c            a load of what a write wrote is accepted and gives the rules back, as grades
--     WriteAfterLoad m c            a write of what a load read, into a buffer that is long enough, gives the text back
--     LoadedPast m c degree         what a load leaves is what accepted adds of the rules, in rising marks, leave of a cleared board;
--                                     so all that is promised after a past holds of it
use Rattle.std.specs.Prelude.{◌≡◌, ℕ, ◌<◌, ◌≤◌, List, [], ◌∷◌, ◌++◌, length, take, Some, Ok, codes, Result}
use Rattle.scales.specs.Meaning.{Meaning}
use Rattle.scales.specs.Codes.{Coding}
use Rattle.scales.specs.Percents.{percent, percent_coding}
use Rattle.model.specs.declared.rule.Form.TheVariants.{All}
use Rattle.pasts.specs.Pasts.{Past}
use Rattle.pasts.specs.Promises.{Promise}
use Rattle.pasts.specs.Tables.{Tables, count}
use Rattle.pasts.specs.declared.refusal.Refusal.{Refusal}
use Rattle.text.specs.Boards.{Four, numbered, held, AllAlike, adds}
use Rattle.text.specs.Decimal.{parsed, written}
use Rattle.text.specs.Loads.{Decodes, Loads, Writes}
use Rattle.text.specs.Spelling.{row_bytes}
use Rattle.text.specs.declared.faults.Fault.{Fault}

pub record NumbersAreOne : Type 0 where
  pub reads_back : (n : ℕ) → n < 100000 → parsed (written n) ≡ Some n
  pub one_spelling : (field : List ℕ) (n : ℕ) → length field ≡ 5 → parsed field ≡ Some n → (n < 100000) × (field ≡ written n)

abbrev pub SampleLine : Type 0
SampleLine =
    row_bytes percent_coding (numbered 1 (record { head = 1; form = All; weight = percent 90; bodies = 2 ∷ 0 ∷ 0 ∷ 0 ∷ [] })) ≡ codes "R    1    1A   90    2    0    0    0" ++ (10 ∷ [])

module _ {G : Type 0} (m : Meaning G) (c : Coding G) where
  abbrev pub LoadHasOneOutcome : Type 0
  LoadHasOneOutcome =
      (text : List ℕ) (t u v : Tables G) (r q : Result ℕ Fault) → Loads m c text t r u → Decodes m c text t r u → Loads m c text t q v → Decodes m c text t q v → (r ≡ q) × (u ≡ v)

  abbrev pub OneSpelling : Type 0
  OneSpelling =
      (text other : List ℕ) (t s u v : Tables G) (j i : ℕ) → Loads m c text t (Ok j) u → Loads m c other s (Ok i) v → count t ≡ count s → AllAlike m (held 1 u.rules) (held 1 v.rules) → text ≡ other

  abbrev pub LoadAfterWrite : Type 0
  LoadAfterWrite =
      (t s u : Tables G) (buffer out : List ℕ) (k : ℕ) (r : Result ℕ Fault) → Four t.rules → Writes c t buffer (Ok k) out → count s ≡ count t → length s.rules ≡ length t.rules → Loads m c (take k out) s r u → (r ≡ Ok (length (held 1 t.rules))) × AllAlike m (held 1 u.rules) (held 1 t.rules)

  abbrev pub WriteAfterLoad : Type 0
  WriteAfterLoad =
      (text : List ℕ) (t u : Tables G) (j : ℕ) (buffer out : List ℕ) (r : Result ℕ Refusal) → Loads m c text t (Ok j) u → length text ≤ length buffer → Writes c u buffer r out → (r ≡ Ok (length text)) × (take (length text) out ≡ text)

  abbrev pub LoadedPast : (ℕ → G) → Type 0
  LoadedPast degree =
      (text : List ℕ) (t u : Tables G) (j : ℕ) → Loads m c text t (Ok j) u → Past m degree (count t) (length t.rules) (adds (held 1 u.rules)) u × Promise m degree (count t) (length t.rules) (adds (held 1 u.rules)) u
