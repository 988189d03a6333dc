-- Collections of rules with their marks, and the boards that hold them. Assumes nothing.
--     placed rules xs             the places of rules, once the rules xs came to theirs
--     board m n p xs              the cleared board of n statements and p places, with the rules xs
--     held k rules                the rules that a table holds from the place k on, with their marks
--     Fitting n p last x          x is a rule for a board of n statements and p places, with a mark above last
--     Fits n p last xs            so are all of xs, in rising marks
--     Decoded c xs                each weight of xs is what its code decodes to
--     Alike m x y                 x and y are one rule: their weights hold one grade, and all else is the same
--     AllAlike m xs ys            xs and ys are the same rules
--     Four rules                  every rule of a table has four bodies
--     adds xs                     the past of an accepted add of each of xs, newest first
use Rattle.std.specs.Prelude.{◌≡◌, ℕ, suc, ◌-◌, ◌<◌, ◌≤◌, false, cond, List, [], ◌∷◌, ◌++◌, length, replicate, Some, ◌==◌, slice_set}
use Rattle.scales.specs.Meaning.{Meaning, Same}
use Rattle.scales.specs.Codes.{Coding}
use Rattle.model.specs.Formed.{malformed_place}
use Rattle.model.specs.Least.{On}
use Rattle.model.specs.declared.rule.Rule.{Rule}
use Rattle.pasts.specs.Tables.{Tables, tables, unopened, blank}
use Rattle.pasts.specs.declared.call.Call.TheVariants.{Add}
use Rattle.pasts.specs.declared.call.Answer.TheVariants.{Added}
use Rattle.pasts.specs.declared.call.Entry.{Entry}
use Rattle.text.specs.declared.numbered.Numbered.{Numbered}

module _ {G : Type 0} where
  abbrev pub numbered : ℕ → Rule G → Numbered G
  numbered k r = record { mark = k; rule = r }

  abbrev pub placed : List (Rule G) → List (Numbered G) → List (Rule G)
  placed rules [] = rules
  placed rules (x ∷ xs) = placed (slice_set rules (x.mark - 1) x.rule) xs

  abbrev pub held : ℕ → List (Rule G) → List (Numbered G)
  held k [] = []
  held k (r ∷ rs) = cond (r.head == 0) (held (suc k) rs) (numbered k r ∷ held (suc k) rs)

  pub record Fitting (n p last : ℕ) (x : Numbered G) : Type 0 where
    pub above : last < x.mark
    pub within : x.mark ≤ p
    pub head : On n x.rule.head
    pub formed : malformed_place n x.rule ≡ false
    pub bodies : length x.rule.bodies ≡ 4

  abbrev pub Fits : ℕ → ℕ → ℕ → List (Numbered G) → Type 0
  Fits n p last [] = Unit {0}
  Fits n p last (x ∷ xs) = Fitting n p last x × Fits n p x.mark xs

  abbrev pub Decoded : Coding G → List (Numbered G) → Type 0
  Decoded c [] = Unit {0}
  Decoded c (x ∷ xs) = (c.decode (c.code x.rule.weight) ≡ Some x.rule.weight) × Decoded c xs

  abbrev pub Four : List (Rule G) → Type 0
  Four [] = Unit {0}
  Four (r ∷ rs) = (length r.bodies ≡ 4) × Four rs

  abbrev pub adds : List (Numbered G) → List (Entry G)
  adds [] = []
  adds (x ∷ xs) = adds xs ++ record { call = Add x.mark x.rule; answer = Added } ∷ []

module _ {G : Type 0} (m : Meaning G) where
  abbrev pub board : ℕ → ℕ → List (Numbered G) → Tables G
  board n p xs = tables (replicate n (unopened m)) (placed (replicate p (blank m)) xs)

  pub record Alike (x y : Numbered G) : Type 0 where
    pub mark : x.mark ≡ y.mark
    pub head : x.rule.head ≡ y.rule.head
    pub form : x.rule.form ≡ y.rule.form
    pub weight : Same m x.rule.weight y.rule.weight
    pub bodies : x.rule.bodies ≡ y.rule.bodies

  pub data AllAlike : List (Numbered G) → List (Numbered G) → Type 0 where
    none : AllAlike [] []
    more : {x y : Numbered G} {xs ys : List (Numbered G)} → Alike x y → AllAlike xs ys → AllAlike (x ∷ xs) (y ∷ ys)
