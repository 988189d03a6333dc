-- What a refusal says of the tables and of the call, by its number. Assumes nothing.
--     InLimits t                  the lengths of both tables lie within their limits
--     Row m t c k                 the row k of the table of refusals holds of the call c on the tables t
--     RefusalsAreRows m degree t  a refused call on t leaves t, and the row of its number holds
--     RowsAreRefused m degree t   where a row holds the call is refused
--     ClearRow m t                a clear of t is refused exactly where t is not within its limits, with the number 1, and leaves t
--     Refuses m c t k             the call c on t is refused with the number k, whatever the survey says
--     a_rule m h bs               a rule with the head h and the bodies bs
--     three m                     the cleared board of three statements and one place
--     with_rule m r               the same with the rule r in its place
--     OrderOfChecks m             which refusal comes where several rows hold, in worked cases
--     InOrder n bs                no body of bs is above n, and none comes after an absent one
--     GoodTables m t              t is within its limits, and no place that is not blank is malformed
--     Placeable m t k r           so, and the place k is there and blank, and the head of r is a statement
--     Due m t c k                 the first check of the call c on t that is met has the number k: what each check before it found, and what it
--                                 found itself; the bodies of a rule are looked at from the left
--     RefusalsAreDue m degree t   a refused call on t has the number that is due
--     DueIsRefused m t            what is due refuses the call, with that number
use Rattle.std.specs.Prelude.{◌≡◌, ℕ, ◌<◌, ◌≤◌, false, List, [], ◌∷◌, ◌++◌, length, replicate, Some, None, ◌≢◌}
use Rattle.scales.specs.Meaning.{Meaning}
use Rattle.model.specs.Pins.{OneOf, AfterAbsent, Malformed}
use Rattle.model.specs.Least.{On}
use Rattle.model.specs.declared.rule.Form.TheVariants.{All}
use Rattle.model.specs.declared.rule.Rule.{Rule}
use Rattle.pasts.specs.Marks.{open_mark}
use Rattle.pasts.specs.Refusals.{number}
use Rattle.pasts.specs.Tables.{Tables, tables, count, some_active, unopened, cleared, rule_at, mark}
use Rattle.pasts.specs.Calls.{Clears, Outcome}
use Rattle.pasts.specs.declared.refusal.Refusal.{Refusal}
use Rattle.pasts.specs.declared.refusal.Refusal.TheVariants.{TableLength}
use Rattle.pasts.specs.declared.call.Call.{Call}
use Rattle.pasts.specs.declared.call.Call.TheVariants.{Add, Withdraw, Want, Step, Finish, Read}
use Rattle.pasts.specs.declared.call.Answer.TheVariants.{Refused}

module _ {G : Type 0} where
  abbrev pub InLimits : Tables G → Type 0
  InLimits t = On 1024 (count t) × On 4096 (length t.rules)

module _ {G : Type 0} (m : Meaning G) where
  pub data Row (t : Tables G) : Call G → ℕ → Type 0 where
    table_length : {c : Call G} → (On 1024 (count t) × On 4096 (length t.rules) → ⊥) → Row t c 1
    bad_place : {c : Call G} {k : ℕ} → On (length t.rules) k → ((rule_at m t k).head ≢ 0) → Malformed (count t) (rule_at m t k) → Row t c 2
    no_head : {k : ℕ} {r : Rule G} → (On (count t) r.head → ⊥) → Row t (Add k r) 3
    no_body : {k b : ℕ} {r : Rule G} → OneOf b r.bodies → count t < b → Row t (Add k r) 3
    no_want : {s : ℕ} → (On (count t) s → ⊥) → Row t (Want s) 3
    no_read : {s : ℕ} → (On (count t) s → ⊥) → Row t (Read s) 3
    no_add : {k : ℕ} {r : Rule G} → (On (length t.rules) k → ⊥) → Row t (Add k r) 4
    no_withdraw : {k : ℕ} → (On (length t.rules) k → ⊥) → Row t (Withdraw k) 4
    full : {k : ℕ} {r : Rule G} → ((rule_at m t k).head ≢ 0) → Row t (Add k r) 5
    no_rule : {k : ℕ} → (rule_at m t k).head ≡ 0 → Row t (Withdraw k) 6
    body_gap : {k : ℕ} {r : Rule G} → AfterAbsent r.bodies → Row t (Add k r) 7
    idle : some_active t.statements ≡ false → Row t Step 8
    shut : {s : ℕ} → open_mark (mark m t s) ≡ false → Row t (Read s) 9

  abbrev pub RefusalsAreRows : (ℕ → G) → Tables G → Type 0
  RefusalsAreRows degree t = (c : Call G) (u : Tables G) (r : Refusal) → Outcome m degree c t (Refused r) u → (u ≡ t) × Row t c (number r)

  abbrev pub RowsAreRefused : (ℕ → G) → Tables G → Type 0
  RowsAreRefused degree t = (c : Call G) (k : ℕ) → Row t c k → (r : Refusal) × Outcome m degree c t (Refused r) t

  pub record ClearRow (t : Tables G) : Type 0 where
    pub refused : (u : Tables G) (r : Refusal) → Clears m t (Some r) u → (u ≡ t) × (number r ≡ 1) × (InLimits t → ⊥)
    pub beyond : (InLimits t → ⊥) → Clears m t (Some TableLength) t
    pub within : InLimits t → Clears m t None (cleared m (count t) (length t.rules))

  abbrev pub Refuses : Call G → Tables G → ℕ → Type 0
  Refuses c t k = (degree : ℕ → G) → (r : Refusal) × (number r ≡ k) × Outcome m degree c t (Refused r) t

  abbrev pub a_rule : ℕ → List ℕ → Rule G
  a_rule h bs = record { head = h; form = All; weight = m.highest; bodies = bs }

  abbrev pub three : Tables G
  three = cleared m 3 1

  abbrev pub with_rule : Rule G → Tables G
  with_rule r = tables (replicate 3 (unopened m)) (r ∷ [])

  pub record OrderOfChecks : Type 0 where
    -- the lengths come before the places, and the places before what the call asks
    pub length_first : Refuses (Add 0 (a_rule 9 (0 ∷ 9 ∷ 0 ∷ 0 ∷ []))) (tables [] (a_rule 9 (0 ∷ 0 ∷ 0 ∷ 0 ∷ []) ∷ [])) 1
    pub place_next : Refuses (Add 0 (a_rule 9 (0 ∷ 9 ∷ 0 ∷ 0 ∷ []))) (with_rule (a_rule 9 (0 ∷ 0 ∷ 0 ∷ 0 ∷ []))) 2
    pub place_gap : Refuses Finish (with_rule (a_rule 1 (0 ∷ 2 ∷ 0 ∷ 0 ∷ []))) 2
    pub place_before_active : Refuses Step (with_rule (a_rule 4 (0 ∷ 0 ∷ 0 ∷ 0 ∷ []))) 2
    -- an add: the mark, then the place, then the head, then the bodies from the left
    pub mark_before_head : Refuses (Add 0 (a_rule 9 (0 ∷ 2 ∷ 0 ∷ 0 ∷ []))) three 4
    pub mark_before_place : Refuses (Add 0 (a_rule 1 (0 ∷ 0 ∷ 0 ∷ 0 ∷ []))) (with_rule (a_rule 1 (0 ∷ 0 ∷ 0 ∷ 0 ∷ []))) 4
    pub mark_above : Refuses (Add 2 (a_rule 9 (0 ∷ 2 ∷ 0 ∷ 0 ∷ []))) three 4
    pub place_before_head : Refuses (Add 1 (a_rule 9 (0 ∷ 2 ∷ 0 ∷ 0 ∷ []))) (with_rule (a_rule 1 (0 ∷ 0 ∷ 0 ∷ 0 ∷ []))) 5
    pub head_before_gap : Refuses (Add 1 (a_rule 9 (0 ∷ 2 ∷ 0 ∷ 0 ∷ []))) three 3
    pub no_head_before_gap : Refuses (Add 1 (a_rule 0 (0 ∷ 2 ∷ 0 ∷ 0 ∷ []))) three 3
    pub body_before_gap : Refuses (Add 1 (a_rule 1 (0 ∷ 9 ∷ 0 ∷ 0 ∷ []))) three 3
    pub gap_alone : Refuses (Add 1 (a_rule 1 (0 ∷ 2 ∷ 0 ∷ 0 ∷ []))) three 7
    pub gap_on_the_left : Refuses (Add 1 (a_rule 1 (0 ∷ 2 ∷ 9 ∷ 0 ∷ []))) three 7
    pub body_on_the_left : Refuses (Add 1 (a_rule 1 (9 ∷ 0 ∷ 2 ∷ 0 ∷ []))) three 3
    pub last_body : Refuses (Add 1 (a_rule 3 (1 ∷ 2 ∷ 3 ∷ 4 ∷ []))) three 3
    -- the other calls
    pub withdraw_mark : Refuses (Withdraw 0) three 4
    pub withdraw_above : Refuses (Withdraw 2) three 4
    pub withdraw_blank : Refuses (Withdraw 1) three 6
    pub want_none : Refuses (Want 0) three 3
    pub want_above : Refuses (Want 4) three 3
    pub step_idle : Refuses Step three 8
    pub read_none : Refuses (Read 0) three 3
    pub read_above : Refuses (Read 4) three 3
    pub read_shut : Refuses (Read 3) three 9

pub record InOrder (n : ℕ) (bs : List ℕ) : Type 0 where
  pub low : (b : ℕ) → OneOf b bs → b ≤ n
  pub flush : AfterAbsent bs → ⊥

module _ {G : Type 0} (m : Meaning G) where
  pub record GoodTables (t : Tables G) : Type 0 where
    pub lengths : InLimits t
    pub places : (k : ℕ) → On (length t.rules) k → ((rule_at m t k).head ≢ 0) → Malformed (count t) (rule_at m t k) → ⊥

  pub record Placeable (t : Tables G) (k : ℕ) (r : Rule G) : Type 0 where
    pub good : GoodTables t
    pub place : On (length t.rules) k
    pub free : (rule_at m t k).head ≡ 0
    pub on_head : On (count t) r.head

  pub data Due (t : Tables G) : Call G → ℕ → Type 0 where
    due_lengths : {c : Call G} → (InLimits t → ⊥) → Due t c 1
    due_place : {c : Call G} {k : ℕ} → InLimits t → On (length t.rules) k → ((rule_at m t k).head ≢ 0) → Malformed (count t) (rule_at m t k) → Due t c 2
    due_add_mark : {k : ℕ} {r : Rule G} → GoodTables t → (On (length t.rules) k → ⊥) → Due t (Add k r) 4
    due_add_full : {k : ℕ} {r : Rule G} → GoodTables t → On (length t.rules) k → ((rule_at m t k).head ≢ 0) → Due t (Add k r) 5
    due_add_head : {k : ℕ} {r : Rule G} → GoodTables t → On (length t.rules) k → (rule_at m t k).head ≡ 0 → (On (count t) r.head → ⊥) → Due t (Add k r) 3
    due_add_body : {k b : ℕ} {r : Rule G} (left right : List ℕ) → Placeable t k r → r.bodies ≡ left ++ (b ∷ right) → InOrder (count t) left → count t < b → Due t (Add k r) 3
    due_add_gap : {k b : ℕ} {r : Rule G} (left right : List ℕ) → Placeable t k r → r.bodies ≡ left ++ (b ∷ right) → InOrder (count t) left → OneOf {A = ℕ} 0 left → (b ≢ 0) → b ≤ count t → Due t (Add k r) 7
    due_withdraw_mark : {k : ℕ} → GoodTables t → (On (length t.rules) k → ⊥) → Due t (Withdraw k) 4
    due_withdraw_blank : {k : ℕ} → GoodTables t → On (length t.rules) k → (rule_at m t k).head ≡ 0 → Due t (Withdraw k) 6
    due_want : {s : ℕ} → GoodTables t → (On (count t) s → ⊥) → Due t (Want s) 3
    due_step : GoodTables t → some_active t.statements ≡ false → Due t Step 8
    due_read : {s : ℕ} → GoodTables t → (On (count t) s → ⊥) → Due t (Read s) 3
    due_read_shut : {s : ℕ} → GoodTables t → On (count t) s → open_mark (mark m t s) ≡ false → Due t (Read s) 9

  abbrev pub RefusalsAreDue : (ℕ → G) → Tables G → Type 0
  RefusalsAreDue degree t = (c : Call G) (u : Tables G) (r : Refusal) → Outcome m degree c t (Refused r) u → Due t c (number r)

  abbrev pub DueIsRefused : Tables G → Type 0
  DueIsRefused t = (c : Call G) (k : ℕ) → Due t c k → Refuses m c t k
