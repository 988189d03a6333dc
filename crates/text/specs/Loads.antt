-- What load and write do. Assumes nothing.
--     Loads m c text t r u            a load of the text into the tables t answers r and leaves u
--     Decodes m c text t r u          where it is taken, each weight in u is what its code decodes to
--     text_length t                   how long the text of the board t is
--     write_checks t buffer           what a write checks, in order
--     Writes c t buffer r out         a write of the board t into the buffer answers r and leaves out
use Rattle.std.specs.Prelude.{◌≡◌, ℕ, ◌+◌, ◌*◌, List, [], ◌∷◌, ◌++◌, length, drop, Some, None, Ok, Err, Option, Result, nat_lt}
use Rattle.scales.specs.Meaning.{Meaning}
use Rattle.scales.specs.Codes.{Coding}
use Rattle.model.specs.Least.{On}
use Rattle.pasts.specs.Refusals.{Check, check, first}
use Rattle.pasts.specs.Tables.{Tables, count, table_checks}
use Rattle.pasts.specs.declared.refusal.Refusal.{Refusal}
use Rattle.pasts.specs.declared.refusal.Refusal.TheVariants.{BufferShort}
use Rattle.text.specs.Faults.{judged, report, FirstMet}
use Rattle.text.specs.Rows.{text_checks, rule_count}
use Rattle.text.specs.Boards.{Fits, Decoded, board, held, AllAlike}
use Rattle.text.specs.Spelling.{spelling}
use Rattle.text.specs.declared.faults.Fault.{Fault}
use Rattle.text.specs.declared.numbered.Numbered.{Numbered}

module _ {G : Type 0} (m : Meaning G) (c : Coding G) where
  pub record Loads (text : List ℕ) (t : Tables G) (r : Result ℕ Fault) (u : Tables G) : Type 0 where
    -- the number of rules, or the first fault
    pub answer : r ≡ judged (text_checks c (count t) (length t.rules) text) (rule_count text)
    -- a refused text leaves the tables, and the fault has the number, layer, line and column of the first check that is met
    pub refused : (f : Fault) → r ≡ Err f → (u ≡ t) × FirstMet (text_checks c (count t) (length t.rules) text) (report f)
    -- a text that is taken spells rules that fit the tables, and these are on the board
    pub taken : (k : ℕ) → r ≡ Ok k → (xs : List (Numbered G)) × (length xs ≡ k) × Fits (count t) (length t.rules) 0 xs × (text ≡ spelling c (count t) xs) × (u ≡ board m (count t) (length t.rules) xs)
    -- every such text is taken
    pub takes : (xs : List (Numbered G)) → On 1024 (count t) → On 4096 (length t.rules) → Fits (count t) (length t.rules) 0 xs → text ≡ spelling c (count t) xs → (r ≡ Ok (length xs)) × AllAlike m (held 1 u.rules) xs

  -- a text that is taken is on the board with each weight as its code decodes
  pub record Decodes (text : List ℕ) (t : Tables G) (r : Result ℕ Fault) (u : Tables G) : Type 0 where
    pub decoded : (k : ℕ) → r ≡ Ok k → (xs : List (Numbered G)) × (length xs ≡ k) × Fits (count t) (length t.rules) 0 xs × Decoded c xs × (text ≡ spelling c (count t) xs) × (u ≡ board m (count t) (length t.rules) xs)

abbrev pub or_length : Option Refusal → ℕ → Result ℕ Refusal
or_length (Some q) k = Err q
or_length None k = Ok k

module _ {G : Type 0} where
  abbrev pub text_length : Tables G → ℕ
  text_length t = 12 + 38 * length (held 1 t.rules)

  abbrev pub write_checks : Tables G → List ℕ → List Check
  write_checks t buffer = table_checks t ++ check BufferShort (nat_lt (length buffer) (text_length t)) ∷ []

module _ {G : Type 0} (c : Coding G) where
  pub record Writes (t : Tables G) (buffer : List ℕ) (r : Result ℕ Refusal) (out : List ℕ) : Type 0 where
    -- the length of the text, or the first refusal
    pub answer : r ≡ or_length (first (write_checks t buffer)) (text_length t)
    pub refused : (q : Refusal) → r ≡ Err q → out ≡ buffer
    pub written : (k : ℕ) → r ≡ Ok k → out ≡ spelling c (count t) (held 1 t.rules) ++ drop k buffer
