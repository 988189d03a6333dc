-- What is proved of every well_formed table of rules over n statements. Assumes nothing.
--     WorthsRise m degree       grades at or above others give worths at or above theirs
--     LeastIsLeast m degree     least is the least model
--     LeastIsFixed m degree     each grade of least is its statement's worth
--     LeadsIsDecided G          whether one statement leads to another can be decided
use Rattle.std.specs.Prelude.{◌≡◌, ℕ, false, ◌⊎◌, List}
use Rattle.scales.specs.Meaning.{Meaning, Under, Same}
use Rattle.model.specs.Rules.{Leads}
use Rattle.model.specs.Formed.{malformed}
use Rattle.model.specs.Least.{On, worth, LeastModel, least}
use Rattle.model.specs.declared.rule.Rule.{Rule}

abbrev pub LeadsIsDecided : Type 0 → Type 0
LeadsIsDecided G =
    (rules : List (Rule G)) (n s t : ℕ) → malformed n rules ≡ false → On n s → Leads rules s t ⊎ (Leads rules s t → ⊥)

module _ {G : Type 0} (m : Meaning G) (degree : ℕ → G) where
  abbrev pub WorthsRise : Type 0
  WorthsRise =
      (rules : List (Rule G)) (n : ℕ) (f g : ℕ → G) → malformed n rules ≡ false → ((s : ℕ) → On n s → Under m (f s) (g s)) → (s : ℕ) → On n s → Under m (worth m degree rules f s) (worth m degree rules g s)

  abbrev pub LeastIsLeast : Type 0
  LeastIsLeast = (rules : List (Rule G)) (n : ℕ) → malformed n rules ≡ false → LeastModel m degree rules n (least m degree rules n)

  abbrev pub LeastIsFixed : Type 0
  LeastIsFixed =
      (rules : List (Rule G)) (n : ℕ) → malformed n rules ≡ false → (s : ℕ) → On n s → Same m (worth m degree rules (least m degree rules n) s) (least m degree rules n s)
