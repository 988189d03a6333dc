-- What a board promises after every past. Assumes nothing.
-- Of the tables t that the past h left, on n statements and p places:
--     Sound m degree n p h t      the grades are at or below the least model of the rules in force, and exact where nothing is to be done
--     Usable m degree n p t       a call is refused only for what it asks
--     Shelf m n p h t             the rules in the table are those in force (Shelved), and every other place is blank
--     Settles m degree n p h t    where none is active, a read of an open statement answers its least grade, and that it is settled
--     Serves m degree n p h t     after a finish, a read of a wanted statement answers its least grade as settled
--     Promise m degree n p h t    all of this, and what the next call does, whichever it is
-- The theorems, each over a scale and a survey's degrees:
--     StaysSound, StaysUsable, KeepsItsShelf, ReadIsSettled, WantsAreServed, KeepsItsPromise   each after every past
--     SameRules xs ys             xs and ys have the same rules, in whatever places and order, and however often; blank places do not count
--     PastIsForgotten             what a resting statement has depends on the rules in force alone
--     SameRulesAgree              two boards of n statements with the same rules in force give each statement that rests on both the same
--                                 grade, whatever the marks of the rules, the number of places and the pasts
use Rattle.std.specs.Prelude.{◌≡◌, ℕ, Bool, true, false, not, List, length, ◌≢◌}
use Rattle.scales.specs.Meaning.{Meaning, Under, Same}
use Rattle.model.specs.Formed.{malformed, malformed_place}
use Rattle.model.specs.Least.{On, LeastModel}
use Rattle.model.specs.Pins.{OneOf}
use Rattle.model.specs.declared.rule.Rule.{Rule}
use Rattle.pasts.specs.Marks.{open_mark, Resting}
use Rattle.pasts.specs.Tables.{Tables, blank, rule_at, grade, mark, count, some_active}
use Rattle.pasts.specs.Calls.{Outcome}
use Rattle.pasts.specs.Rows.{RefusalsAreRows, RowsAreRefused, RefusalsAreDue, DueIsRefused}
use Rattle.pasts.specs.Moves.{OneOutcome, SomeOutcome, WithdrawIsLocal, AddIsLocal, WantIsLocal, Wakes, FinishIsBounded, FinishCounts, FinishFits}
use Rattle.pasts.specs.Pasts.{WasWanted, Shelved, in_force, Past, EveryPast, least_grade}
use Rattle.pasts.specs.declared.call.Call.TheVariants.{Add, Withdraw, Want, Step, Finish, Read}
use Rattle.pasts.specs.declared.call.Answer.TheVariants.{Added, Withdrawn, NowWanted, Stepped, Finished, Graded}
use Rattle.pasts.specs.declared.call.Entry.{Entry}

module _ {G : Type 0} where
  abbrev pub SameRules : List (Rule G) → List (Rule G) → Type 0
  SameRules xs ys = (r : Rule G) → (r.head ≢ 0) → (OneOf r xs → OneOf r ys) × (OneOf r ys → OneOf r xs)

module _ {G : Type 0} (m : Meaning G) where
  pub record Shelf (n p : ℕ) (h : List (Entry G)) (t : Tables G) : Type 0 where
    pub places : length t.rules ≡ p
    pub holds : (k : ℕ) (r : Rule G) → Shelved k r h → On p k × On n r.head × (rule_at m t k ≡ r)
    pub only : (k : ℕ) → On p k → ((rule_at m t k).head ≢ 0) → Shelved k (rule_at m t k) h
    pub else_blank : (k : ℕ) → On p k → (rule_at m t k).head ≡ 0 → rule_at m t k ≡ blank m
    pub well_formed : malformed n t.rules ≡ false

module _ {G : Type 0} (m : Meaning G) (degree : ℕ → G) where
  pub record Sound (n p : ℕ) (h : List (Entry G)) (t : Tables G) : Type 0 where
    pub same_count : count t ≡ n
    pub same_rules : t.rules ≡ in_force m p h
    -- the least grades are a model of the rules in force, and the least
    pub is_least : LeastModel m degree (in_force m p h) n (least_grade m degree n p h)
    -- every grade is at or below the least model's, and an unopened statement has the lowest
    pub under_least : (s : ℕ) → On n s → Under m (grade m t s) (least_grade m degree n p h s)
    pub unopened_lowest : (s : ℕ) → On n s → open_mark (mark m t s) ≡ false → grade m t s ≡ m.lowest
    -- a resting statement has exactly its grade in the least model; so has every open one, where none is active
    pub resting_exact : (s : ℕ) → On n s → Resting (in_force m p h) n (mark m t) s → Same m (grade m t s) (least_grade m degree n p h s)
    pub exact : some_active t.statements ≡ false → (s : ℕ) → On n s → open_mark (mark m t s) ≡ true → Same m (grade m t s) (least_grade m degree n p h s)
    pub wanted_open : (s : ℕ) → WasWanted s h → On n s × (open_mark (mark m t s) ≡ true)
    -- what a read of these tables answers
    pub read_under : (s : ℕ) (g : G) (settled : Bool) (u : Tables G) → Outcome m degree (Read s) t (Graded g settled) u → Under m g (least_grade m degree n p h s)
    pub read_exact : (s : ℕ) (g : G) (u : Tables G) → Outcome m degree (Read s) t (Graded g true) u → Same m g (least_grade m degree n p h s)

  pub record Usable (n p : ℕ) (t : Tables G) : Type 0 where
    pub add : (k : ℕ) (r : Rule G) → On p k → (rule_at m t k).head ≡ 0 → On n r.head → malformed_place n r ≡ false → (u : Tables G) × Outcome m degree (Add k r) t Added u
    pub withdraw : (k : ℕ) → On p k → ((rule_at m t k).head ≢ 0) → (u : Tables G) × Outcome m degree (Withdraw k) t Withdrawn u
    pub want : (s : ℕ) → On n s → (u : Tables G) × Outcome m degree (Want s) t NowWanted u
    pub step : some_active t.statements ≡ true → (s : ℕ) × (rose : Bool) × (u : Tables G) × Outcome m degree Step t (Stepped s rose) u
    pub finish : (k : ℕ) × (u : Tables G) × Outcome m degree Finish t (Finished k) u
    pub read : (s : ℕ) → On n s → open_mark (mark m t s) ≡ true → Outcome m degree (Read s) t (Graded (grade m t s) (not (some_active t.statements))) t

  -- on tables within their limits
  abbrev pub UsableWithin : ℕ → ℕ → List (Entry G) → Tables G → Type 0
  UsableWithin n p h t = On 1024 n → On 4096 p → Usable n p t

  abbrev pub Settles : ℕ → ℕ → List (Entry G) → Tables G → Type 0
  Settles n p h t =
      On 1024 n → On 4096 p → some_active t.statements ≡ false → (s : ℕ) → On n s → open_mark (mark m t s) ≡ true → (g : G) × Outcome m degree (Read s) t (Graded g true) t × Same m g (least_grade m degree n p h s)

  abbrev pub Serves : ℕ → ℕ → List (Entry G) → Tables G → Type 0
  Serves n p h t =
      (u : Tables G) (k s : ℕ) → WasWanted s h → Outcome m degree Finish t (Finished k) u → (g : G) × Outcome m degree (Read s) u (Graded g true) u × Same m g (least_grade m degree n p h s)

  pub record Promise (n p : ℕ) (h : List (Entry G)) (t : Tables G) : Type 0 where
    pub sound : Sound n p h t
    pub usable : UsableWithin n p h t
    pub shelf : Shelf m n p h t
    pub settles : Settles n p h t
    pub serves : Serves n p h t
    -- the next call, whichever it is
    pub some_outcome : SomeOutcome m degree t
    pub one_outcome : OneOutcome m degree t
    pub refusals_rows : RefusalsAreRows m degree t
    pub rows_refused : RowsAreRefused m degree t
    pub refusals_due : RefusalsAreDue m degree t
    pub due_refused : DueIsRefused m t
    pub add_local : AddIsLocal m degree t
    pub withdraw_local : WithdrawIsLocal m degree t
    pub want_local : WantIsLocal m degree t
    pub wakes : Wakes m degree t
    pub finish_bounded : FinishIsBounded m degree t
    pub finish_counts : FinishCounts m degree t
    pub finish_fits : FinishFits m degree t

  abbrev pub StaysSound : Type 0
  StaysSound = EveryPast m degree Sound

  abbrev pub StaysUsable : Type 0
  StaysUsable = EveryPast m degree UsableWithin

  abbrev pub KeepsItsShelf : Type 0
  KeepsItsShelf = EveryPast m degree (Shelf m)

  abbrev pub ReadIsSettled : Type 0
  ReadIsSettled = EveryPast m degree Settles

  abbrev pub WantsAreServed : Type 0
  WantsAreServed = EveryPast m degree Serves

  abbrev pub KeepsItsPromise : Type 0
  KeepsItsPromise = EveryPast m degree Promise

  abbrev pub PastIsForgotten : Type 0
  PastIsForgotten =
      (n p q : ℕ) (h i : List (Entry G)) (t u : Tables G) (s : ℕ) → Past m degree n p h t → Past m degree n q i u → in_force m p h ≡ in_force m q i → On n s → Resting t.rules n (mark m t) s → Resting u.rules n (mark m u) s → Same m (grade m t s) (grade m u s)

  abbrev pub SameRulesAgree : Type 0
  SameRulesAgree =
      (n p q : ℕ) (h i : List (Entry G)) (t u : Tables G) (s : ℕ) → Past m degree n p h t → Past m degree n q i u → SameRules (in_force m p h) (in_force m q i) → On n s → Resting t.rules n (mark m t) s → Resting u.rules n (mark m u) s → Same m (grade m t s) (grade m u s)
