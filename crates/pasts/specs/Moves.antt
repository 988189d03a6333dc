-- What every call does, on any tables t. Assumes nothing.
--     sons_among rules s n        how many of the first n statements are sons of s
--     budget m t n                over the open ones of the first n statements, one plus the sons times the height
--     AfterSteps m degree k t u   k accepted calls of step lead from t to u
-- The theorems, each over a scale and a survey's degrees:
--     OneOutcome, SomeOutcome     a call has an outcome, and no two; so a finish ends
--     ClearHasOneOutcome          so has a clear, which is no entry of a past but begins one, and asks no survey
--     WithdrawIsLocal             a withdraw alters only open statements that lead to the withdrawn rule's head
--     AddIsLocal                  an add alters no grade, and no mark but its head's
--     Wakes                       an add makes its head active if that is open, a withdraw every open statement that leads to its head,
--                                 which falls to lowest, and a want an unopened one
--     WantIsLocal                 a want alters no grade, and no mark but that of the unopened statement that it asks for
--     FinishIsBounded             a finish takes at most so many steps as its budget
--     FinishCounts                a finish that answers k leaves what k accepted steps leave, with none active
--     FinishFits                  so many steps fit the answer: at most 68718429184, the budget of 1024 open statements, each with
--                                 1024 sons, on the highest scale
use Rattle.std.specs.Prelude.{◌≡◌, ℕ, zero, suc, ◌+◌, ◌*◌, ◌≤◌, Bool, true, false, cond, List, Option, ◌≢◌}
use Rattle.scales.specs.Meaning.{Meaning}
use Rattle.model.specs.Rules.{son, Leads}
use Rattle.model.specs.Least.{On}
use Rattle.model.specs.declared.rule.Rule.{Rule}
use Rattle.pasts.specs.Marks.{open_mark}
use Rattle.pasts.specs.Tables.{Tables, statement, rule_at, grade, mark, count, some_active}
use Rattle.pasts.specs.Calls.{Clears, Outcome}
use Rattle.pasts.specs.declared.statement.Mark.TheVariants.{Unopened, Active}
use Rattle.pasts.specs.declared.refusal.Refusal.{Refusal}
use Rattle.pasts.specs.declared.call.Call.{Call}
use Rattle.pasts.specs.declared.call.Call.TheVariants.{Add, Withdraw, Want, Step, Finish}
use Rattle.pasts.specs.declared.call.Answer.{Answer}
use Rattle.pasts.specs.declared.call.Answer.TheVariants.{Added, Withdrawn, NowWanted, Stepped, Finished}

module _ {G : Type 0} where
  abbrev pub sons_among : List (Rule G) → ℕ → ℕ → ℕ
  sons_among rules s zero = 0
  sons_among rules s (suc n) = cond (son rules s (suc n)) (1 + sons_among rules s n) (sons_among rules s n)

module _ {G : Type 0} (m : Meaning G) where
  abbrev pub budget : Tables G → ℕ → ℕ
  budget t zero = 0
  budget t (suc n) = cond (open_mark (mark m t (suc n))) (1 + sons_among t.rules (suc n) (count t) * m.height + budget t n) (budget t n)

  pub record ClearHasOneOutcome (t : Tables G) : Type 0 where
    pub some : (a : Option Refusal) × (u : Tables G) × Clears m t a u
    pub one : (a b : Option Refusal) (u v : Tables G) → Clears m t a u → Clears m t b v → (a ≡ b) × (u ≡ v)

module _ {G : Type 0} (m : Meaning G) (degree : ℕ → G) where
  pub data AfterSteps : ℕ → Tables G → Tables G → Type 0 where
    no_step : {t : Tables G} → AfterSteps 0 t t
    one_step : {k s : ℕ} {rose : Bool} {t u v : Tables G} → Outcome m degree Step t (Stepped s rose) u → AfterSteps k u v → AfterSteps (suc k) t v

  abbrev pub OneOutcome : Tables G → Type 0
  OneOutcome t = (c : Call G) (u v : Tables G) (a b : Answer G) → Outcome m degree c t a u → Outcome m degree c t b v → (a ≡ b) × (u ≡ v)

  abbrev pub SomeOutcome : Tables G → Type 0
  SomeOutcome t = (c : Call G) → (a : Answer G) × (u : Tables G) × Outcome m degree c t a u

  abbrev pub WithdrawIsLocal : Tables G → Type 0
  WithdrawIsLocal t =
      (u : Tables G) (k s : ℕ) → Outcome m degree (Withdraw k) t Withdrawn u → On (count t) s → (statement m u s ≢ statement m t s) → (open_mark (mark m t s) ≡ true) × Leads t.rules s (rule_at m t k).head

  abbrev pub AddIsLocal : Tables G → Type 0
  AddIsLocal t =
      (u : Tables G) (k : ℕ) (r : Rule G) → Outcome m degree (Add k r) t Added u → (s : ℕ) → On (count t) s → (grade m u s ≡ grade m t s) × ((s ≢ r.head) → mark m u s ≡ mark m t s)

  abbrev pub WantIsLocal : Tables G → Type 0
  WantIsLocal t =
      (u : Tables G) (s : ℕ) → Outcome m degree (Want s) t NowWanted u → (r : ℕ) → On (count t) r → (grade m u r ≡ grade m t r) × ((r ≢ s) → mark m u r ≡ mark m t r) × (open_mark (mark m t r) ≡ true → mark m u r ≡ mark m t r)

  pub record Wakes (t : Tables G) : Type 0 where
    pub add : (u : Tables G) (k : ℕ) (r : Rule G) → Outcome m degree (Add k r) t Added u → mark m u r.head ≡ cond (open_mark (mark m t r.head)) Active Unopened
    pub withdraw : (u : Tables G) (k s : ℕ) → Outcome m degree (Withdraw k) t Withdrawn u → On (count t) s → open_mark (mark m t s) ≡ true → Leads t.rules s (rule_at m t k).head → statement m u s ≡ record { grade = m.lowest; mark = Active }
    pub want : (u : Tables G) (s : ℕ) → Outcome m degree (Want s) t NowWanted u → mark m u s ≡ cond (open_mark (mark m t s)) (mark m t s) Active

  abbrev pub FinishIsBounded : Tables G → Type 0
  FinishIsBounded t = (u : Tables G) (k : ℕ) → Outcome m degree Finish t (Finished k) u → k ≤ budget m u (count u)

  abbrev pub FinishCounts : Tables G → Type 0
  FinishCounts t = (u : Tables G) (k : ℕ) → Outcome m degree Finish t (Finished k) u → AfterSteps k t u × (some_active u.statements ≡ false)

  abbrev pub FinishFits : Tables G → Type 0
  FinishFits t = (u : Tables G) (k : ℕ) → Outcome m degree Finish t (Finished k) u → k ≤ 68718429184
