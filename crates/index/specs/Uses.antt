-- Which rules have a statement for a body. Assumes nothing.
--     heads rules         the heads of the rules, the keys by which a statement's own rules are chained
--     Use                 one body of a rule: the statement that it names, and the rule's head
--     use_by j r          the body j of the rule r; it names 0 where the place is blank or has no such body
--     uses rules          four to a rule, in the order of the rules
--     used us             the statements that they name, the keys by which uses are chained
--     users us s          the heads of the uses of s
--     Wide rules          every rule has four bodies, absent ones counted
--     UsersAre G          the users of a statement are exactly those that have it for a son
use Rattle.std.specs.Prelude.{◌≡◌, ℕ, ◌<◌, ◌≤◌, cond, List, [], ◌∷◌, map, length, ◌==◌, slice_index, slice_index_or}
use Rattle.model.specs.Rules.{holds, son}
use Rattle.model.specs.declared.rule.Rule.{Rule}

pub record Use : Type 0 where
  pub son : ℕ
  pub head : ℕ

abbrev pub users : List Use → ℕ → List ℕ
users [] s = []
users (u ∷ us) s = cond (u.son == s) (u.head ∷ users us s) (users us s)

abbrev pub used : List Use → List ℕ
used us = map (λ u. u.son) us

module _ {G : Type 0} where
  abbrev pub heads : List (Rule G) → List ℕ
  heads rules = map (λ r. r.head) rules

  abbrev pub use_by : ℕ → Rule G → Use
  use_by j r = record { son = cond (r.head == 0) 0 (slice_index r.bodies j); head = r.head }

  abbrev pub uses : List (Rule G) → List Use
  uses [] = []
  uses (r ∷ rs) = use_by 0 r ∷ use_by 1 r ∷ use_by 2 r ∷ use_by 3 r ∷ uses rs

  abbrev pub Wide : List (Rule G) → Type 0
  Wide rules = (k : ℕ) → k < length rules → (d : Rule G) → length (slice_index_or rules k d).bodies ≡ 4

abbrev pub UsersAre : Type 0 → Type 0
UsersAre G =
    (rules : List (Rule G)) (s t : ℕ) → Wide rules → 1 ≤ s → 1 ≤ t → holds (users (uses rules) s) t ≡ son rules t s
