-- A board's two tables, and what is checked before a call. Assumes nothing.
--     Tables G                    a board's statements, and the places of its rules
--     tables xs rules             the two together
--     count t                     how many statements there are
--     some_active xs              one of the statements is active
--     told e x                    the statement x after the event e
--     unopened m, blank m         a statement that no one asked for, and a place with no rule
--     cleared m n p               the tables of n such statements and p such places
--     entered m xs s              the statement with the number s, counted from 1; 0 reads as 1, and beyond the table there is an unopened one
--     grades m xs s               its grade
--     statement m t s             the statement s of t, with `grade` and `mark`
--     rule_at m t k               the rule with the mark k: the one in the place k, counted from 1; 0 reads as 1, and beyond the table there is
--                                 a blank place
--     body_checks n absent bs     the checks of the bodies bs from the left, where `absent` says that the one before them was absent
--     length_checks t             the checks of the tables' lengths
--     table_checks t              the checks that every call makes first
--     call_checks m c t           those that the call c makes then, in their order
--     checks m c t                all checks of the call c, in their order
use Rattle.std.specs.Prelude.{ℕ, ◌-◌, Bool, false, not, ◌&&◌, ◌||◌, List, [], ◌∷◌, ◌++◌, length, replicate, ◌==◌, nat_lt, slice_index_or}
use Rattle.scales.specs.Meaning.{Meaning}
use Rattle.model.specs.Formed.{malformed}
pub use Rattle.model.specs.Rules.{blank}
use Rattle.model.specs.declared.rule.Rule.{Rule}
use Rattle.pasts.specs.Marks.{answered, active, open_mark}
use Rattle.pasts.specs.Refusals.{Check, check, outside}
use Rattle.pasts.specs.declared.statement.Mark.{Mark}
use Rattle.pasts.specs.declared.statement.Mark.TheVariants.{Unopened}
use Rattle.pasts.specs.declared.statement.Event.{Event}
use Rattle.pasts.specs.declared.statement.Statement.{Statement}
use Rattle.pasts.specs.declared.refusal.Refusal.TheVariants.{TableLength, MalformedPlace, NoSuchStatement, NoSuchMark, PlaceTaken, PlaceBlank, BodyAfterAbsent, NothingActive, NotOpen}
use Rattle.pasts.specs.declared.call.Call.{Call}
use Rattle.pasts.specs.declared.call.Call.TheVariants.{Add, Withdraw, Want, Step, Finish, Read}

pub record Tables (G : Type 0) : Type 0 where
  pub statements : List (Statement G)
  pub rules : List (Rule G)

abbrev pub body_checks : ℕ → Bool → List ℕ → List Check
body_checks n absent [] = []
body_checks n absent (b ∷ bs) =
    check NoSuchStatement (nat_lt n b) ∷ check BodyAfterAbsent (absent && not (b == 0)) ∷ body_checks n (b == 0) bs

module _ {G : Type 0} where
  abbrev pub tables : List (Statement G) → List (Rule G) → Tables G
  tables xs rules = record { statements = xs; rules = rules }

  abbrev pub count : Tables G → ℕ
  count t = length t.statements

  abbrev pub some_active : List (Statement G) → Bool
  some_active [] = false
  some_active (x ∷ xs) = active x.mark || some_active xs

  abbrev pub told : Event → Statement G → Statement G
  told e x = record { grade = x.grade; mark = answered x.mark e }

  abbrev pub length_checks : Tables G → List Check
  length_checks t = check TableLength (outside 1024 (count t) || outside 4096 (length t.rules)) ∷ []

  abbrev pub table_checks : Tables G → List Check
  table_checks t = length_checks t ++ check MalformedPlace (malformed (count t) t.rules) ∷ []

module _ {G : Type 0} (m : Meaning G) where
  abbrev pub unopened : Statement G
  unopened = record { grade = m.lowest; mark = Unopened }

  abbrev pub cleared : ℕ → ℕ → Tables G
  cleared n p = record { statements = replicate n unopened; rules = replicate p (blank m) }

  abbrev pub entered : List (Statement G) → ℕ → Statement G
  entered xs s = slice_index_or xs (s - 1) unopened

  abbrev pub grades : List (Statement G) → ℕ → G
  grades xs s = (entered xs s).grade

  abbrev pub statement : Tables G → ℕ → Statement G
  statement t s = entered t.statements s

  abbrev pub rule_at : Tables G → ℕ → Rule G
  rule_at t k = slice_index_or t.rules (k - 1) (blank m)

  abbrev pub grade : Tables G → ℕ → G
  grade t s = (statement t s).grade

  abbrev pub mark : Tables G → ℕ → Mark
  mark t s = (statement t s).mark

  abbrev pub call_checks : Call G → Tables G → List Check
  call_checks (Add k r) t =
      check NoSuchMark (outside (length t.rules) k) ∷ check PlaceTaken (not ((rule_at t k).head == 0)) ∷ check NoSuchStatement (outside (count t) r.head) ∷ body_checks (count t) false r.bodies
  call_checks (Withdraw k) t =
      check NoSuchMark (outside (length t.rules) k) ∷ check PlaceBlank ((rule_at t k).head == 0) ∷ []
  call_checks (Want s) t = check NoSuchStatement (outside (count t) s) ∷ []
  call_checks Step t = check NothingActive (not (some_active t.statements)) ∷ []
  call_checks Finish t = []
  call_checks (Read s) t =
      check NoSuchStatement (outside (count t) s) ∷ check NotOpen (not (open_mark (mark t s))) ∷ []

  abbrev pub checks : Call G → Tables G → List Check
  checks c t = table_checks t ++ call_checks c t
