-- How finish finds the rules of a statement, its parents, and the active statement with the lowest number. Assumes nothing.
--     key n r j                   the key of the place j among the n places of the rule r: with one place the head, with four the
--                                 statements used
--     keyed n rules               those keys, each with its rule, in the order of the rules
--     keys n rules                the keys alone
--     chosen s ps                 the rules of ps whose key is s
--     Noted m words xs            every active one of the statements xs is in the set, by its place; others may be in it too
--     Resting m k xs              none of the first k statements is active
--     SonsOpen m rules xs s       every son of s among the statements xs is open
use Rattle.std.specs.Prelude.{◌≡◌, ℕ, ◌<◌, true, false, cond, List, [], ◌∷◌, ◌++◌, map, length, ◌==◌, slice_index_or}
use Rattle.std.specs.List.{range_with_len}
use Rattle.scales.specs.Meaning.{Meaning}
use Rattle.model.specs.Rules.{son}
use Rattle.model.specs.Least.{On}
use Rattle.model.specs.declared.rule.Rule.{Rule}
use Rattle.index.specs.Uses.{use_by}
use Rattle.index.specs.Words.{Has}
use Rattle.pasts.specs.Marks.{active, open_mark}
use Rattle.pasts.specs.Tables.{unopened, entered}
use Rattle.pasts.specs.declared.statement.Statement.{Statement}

module _ {G : Type 0} where
  abbrev pub key : ℕ → Rule G → ℕ → ℕ
  key n r j = cond (n == 1) r.head (use_by j r).son

  abbrev pub places_of : ℕ → Rule G → List ℕ → List (ℕ × Rule G)
  places_of n r js = map (λ j. (key n r j, r)) js

  abbrev pub keyed : ℕ → List (Rule G) → List (ℕ × Rule G)
  keyed n [] = []
  keyed n (r ∷ rs) = places_of n r (range_with_len 0 n) ++ keyed n rs

  abbrev pub keys : ℕ → List (Rule G) → List ℕ
  keys n rules = map (λ p. p.0) (keyed n rules)

  abbrev pub chosen : ℕ → List (ℕ × Rule G) → List (Rule G)
  chosen s [] = []
  chosen s (p ∷ ps) = cond (p.0 == s) (p.1 ∷ chosen s ps) (chosen s ps)

module _ {G : Type 0} (m : Meaning G) where
  abbrev pub Noted : List ℕ → List (Statement G) → Type 0
  Noted words xs = (i : ℕ) → i < length xs → active (slice_index_or xs i (unopened m)).mark ≡ true → Has words i

  abbrev pub Resting : ℕ → List (Statement G) → Type 0
  Resting k xs = (i : ℕ) → i < k → active (slice_index_or xs i (unopened m)).mark ≡ false

  abbrev pub SonsOpen : List (Rule G) → List (Statement G) → ℕ → Type 0
  SonsOpen rules xs s = (t : ℕ) → On (length xs) t → son rules s t ≡ true → open_mark (entered m xs t).mark ≡ true
