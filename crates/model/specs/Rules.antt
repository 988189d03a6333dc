-- What rules say of a board's statements under given grades. Assumes nothing.
--     blank m                     a place with no rule
--     present bs                  the bodies of a rule that are there: those that are not 0
--     holds bs t                  t is one of bs
--     folds grade op g bs         the grades of bs taken into g by the operation, from the left, each as right operand
--     meets, joins, blends        by meet, by join, by blend
--     by_form m grade f w bs      the weight w with the bodies bs, by the form f: w alone where there are none
--     value m grade r             what the rule r says of its head
--     joined m grade s g rules    the join of g and the values of the rules with head s
--     son rules s t               t is a son of s: a body of a rule with head s
--     Leads rules s t             s leads to t: s is t, or a son of s leads to t
use Rattle.std.specs.Prelude.{◌≡◌, ℕ, Bool, true, false, cond, ◌||◌, List, [], ◌∷◌, ◌==◌}
use Rattle.scales.specs.Meaning.{Meaning}
use Rattle.model.specs.declared.rule.Form.{Form}
use Rattle.model.specs.declared.rule.Form.TheVariants.{All, Any, Chain}
use Rattle.model.specs.declared.rule.Rule.{Rule}

module _ {G : Type 0} (m : Meaning G) where
  abbrev pub blank : Rule G
  blank = record { head = 0; form = All; weight = m.lowest; bodies = 0 ∷ 0 ∷ 0 ∷ 0 ∷ [] }

abbrev pub present : List ℕ → List ℕ
present [] = []
present (b ∷ bs) = cond (b == 0) (present bs) (b ∷ present bs)

abbrev pub holds : List ℕ → ℕ → Bool
holds [] t = false
holds (b ∷ bs) t = b == t || holds bs t

module _ {G : Type 0} (grade : ℕ → G) where
  abbrev pub folds : (G → G → G) → G → List ℕ → G
  folds op g [] = g
  folds op g (b ∷ bs) = folds op (op g (grade b)) bs

module _ {G : Type 0} (m : Meaning G) (grade : ℕ → G) where
  abbrev pub meets : G → List ℕ → G
  meets g bs = folds grade m.meet g bs

  abbrev pub joins : G → List ℕ → G
  joins g bs = folds grade m.join g bs

  abbrev pub blends : G → List ℕ → G
  blends g bs = folds grade m.blend g bs

  abbrev pub by_form : Form → G → List ℕ → G
  by_form f w [] = w
  by_form All w (b ∷ bs) = m.blend w (meets (grade b) bs)
  by_form Any w (b ∷ bs) = m.blend w (joins (grade b) bs)
  by_form Chain w (b ∷ bs) = blends w (b ∷ bs)

  abbrev pub value : Rule G → G
  value r = by_form r.form r.weight (present r.bodies)

  abbrev pub joined : ℕ → G → List (Rule G) → G
  joined s g [] = g
  joined s g (r ∷ rs) = cond (r.head == s) (joined s (m.join g (value r)) rs) (joined s g rs)

module _ {G : Type 0} where
  abbrev pub son : List (Rule G) → ℕ → ℕ → Bool
  son [] s t = false
  son (r ∷ rs) s t = cond (r.head == s) (holds (present r.bodies) t || son rs s t) (son rs s t)

pub data Leads {G : Type 0} (rules : List (Rule G)) : ℕ → ℕ → Type 0 where
  here : {s : ℕ} → Leads rules s s
  by_son : {s t u : ℕ} → son rules s t ≡ true → Leads rules t u → Leads rules s u
