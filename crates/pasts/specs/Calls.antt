-- What each call on a board answers, and what it leaves in the tables. Assumes nothing.
--     degree                      the survey: what was measured of each statement, as a grade
--     Sent m e s t u              in u the statement s of t has answered the event e, and nothing else differs
--     Adds m k r t u              the rule r comes to the place k, and its head is told as if a son had risen
--     Withdraws m k t u           the place k becomes blank; exactly the open statements that lead to its head fall to lowest, and are
--                                 told as if a son had risen
--     Next m xs s                 s is the active statement with the lowest number
--     MarksAfter m s rose t u     the marks of u, once s of t was taken, and rose or not
--     Steps m degree s rose t u   the step from t to u, that takes s
--     Runs m degree k t u         k steps lead from t to u
--     Finishes m degree k t u     they do, and none is active in u
--     Clears m t r u              a clear of t is refused with r and leaves t, or else leaves u, cleared
--     Does m degree c t a u       the accepted call c on t answers a and leaves u; a read answers the grade, and whether it is settled: so it
--                                 is where no statement is active
--     Outcome m degree c t a u    the first check that is met refuses the call and leaves the tables, else it is done
use Rattle.std.specs.Prelude.{◌≡◌, ℕ, suc, ◌-◌, ◌≤◌, Bool, true, false, cond, not, ◌&&◌, List, length, Some, None, Option, ◌≢◌, slice_set}
use Rattle.scales.specs.Meaning.{Meaning, above}
use Rattle.model.specs.Rules.{son, Leads}
use Rattle.model.specs.Least.{On, worth}
use Rattle.model.specs.declared.rule.Rule.{Rule}
use Rattle.pasts.specs.Marks.{answered, active, open_mark}
use Rattle.pasts.specs.Refusals.{first}
use Rattle.pasts.specs.Tables.{Tables, count, some_active, told, blank, cleared, entered, statement, rule_at, grade, mark, length_checks, checks}
use Rattle.pasts.specs.declared.statement.Mark.TheVariants.{Unopened, Quiet, Active}
use Rattle.pasts.specs.declared.statement.Event.{Event}
use Rattle.pasts.specs.declared.statement.Statement.{Statement}
use Rattle.pasts.specs.declared.statement.Event.TheVariants.{Wanted, SonRose}
use Rattle.pasts.specs.declared.refusal.Refusal.{Refusal}
use Rattle.pasts.specs.declared.call.Call.{Call}
use Rattle.pasts.specs.declared.call.Call.TheVariants.{Add, Withdraw, Want, Step, Finish, Read}
use Rattle.pasts.specs.declared.call.Answer.{Answer}
use Rattle.pasts.specs.declared.call.Answer.TheVariants.{Added, Withdrawn, NowWanted, Stepped, Finished, Graded, Refused}

module _ {G : Type 0} (m : Meaning G) where
  pub record Sent (e : Event) (s : ℕ) (t u : Tables G) : Type 0 where
    pub rules : u.rules ≡ t.rules
    pub statements : u.statements ≡ slice_set t.statements (s - 1) (told e (statement m t s))

  pub record Adds (k : ℕ) (r : Rule G) (t u : Tables G) : Type 0 where
    pub rules : u.rules ≡ slice_set t.rules (k - 1) r
    pub statements : u.statements ≡ slice_set t.statements (r.head - 1) (told SonRose (statement m t r.head))

  -- the mark of an open statement that falls is active: so answers every open mark the event that a son rose
  pub record Withdraws (k : ℕ) (t u : Tables G) : Type 0 where
    pub rules : u.rules ≡ slice_set t.rules (k - 1) (blank m)
    pub same_count : count u ≡ count t
    pub falls : (s : ℕ) → On (count t) s → open_mark (mark m t s) ≡ true → Leads t.rules s (rule_at m t k).head → statement m u s ≡ record { grade = m.lowest; mark = answered (mark m t s) SonRose }
    pub closed : (s : ℕ) → On (count t) s → open_mark (mark m t s) ≡ false → statement m u s ≡ statement m t s
    pub apart : (s : ℕ) → On (count t) s → (Leads t.rules s (rule_at m t k).head → ⊥) → statement m u s ≡ statement m t s

  pub record Next (xs : List (Statement G)) (s : ℕ) : Type 0 where
    pub on : On (length xs) s
    pub is_active : active (entered m xs s).mark ≡ true
    pub lowest : (r : ℕ) → On (length xs) r → active (entered m xs r).mark ≡ true → s ≤ r

  pub record MarksAfter (s : ℕ) (rose : Bool) (t u : Tables G) : Type 0 where
    -- the statement taken is active again exactly if it rose and is its own son
    pub taken : mark m u s ≡ cond (rose && son t.rules s s) Active Quiet
    -- an unopened one becomes active exactly if it is a son of the one taken
    pub from_unopened : (r : ℕ) → On (count t) r → mark m t r ≡ Unopened → mark m u r ≡ cond (son t.rules s r) Active Unopened
    -- a quiet one becomes active exactly if the one taken rose and is its son
    pub from_quiet : (r : ℕ) → On (count t) r → mark m t r ≡ Quiet → mark m u r ≡ cond (rose && son t.rules r s) Active Quiet
    -- another active one stays active
    pub from_active : (r : ℕ) → On (count t) r → (r ≢ s) → mark m t r ≡ Active → mark m u r ≡ Active

  -- a clear of tables that are too short or too long is refused and leaves them, else it leaves cleared ones
  pub data Clears : Tables G → Option Refusal → Tables G → Type 0 where
    kept : {t : Tables G} {r : Refusal} → first (length_checks t) ≡ Some r → Clears t (Some r) t
    clears : {t : Tables G} → first (length_checks t) ≡ None → Clears t None (cleared m (count t) (length t.rules))

module _ {G : Type 0} (m : Meaning G) (degree : ℕ → G) where
  pub record Steps (s : ℕ) (rose : Bool) (t u : Tables G) : Type 0 where
    pub next : Next m t.statements s
    -- s rises if its worth is strictly above its grade, and takes its worth then
    pub rises : rose ≡ above m (worth m degree t.rules (grade m t) s) (grade m t s)
    pub raised : grade m u s ≡ cond rose (worth m degree t.rules (grade m t) s) (grade m t s)
    pub others : (r : ℕ) → On (count t) r → (r ≢ s) → grade m u r ≡ grade m t r
    pub marks : MarksAfter m s rose t u
    pub rules : u.rules ≡ t.rules
    pub same_count : count u ≡ count t

  pub data Runs : ℕ → Tables G → Tables G → Type 0 where
    none : {t : Tables G} → Runs 0 t t
    more : {k s : ℕ} {rose : Bool} {t u v : Tables G} → Steps s rose t u → Runs k u v → Runs (suc k) t v

  pub record Finishes (k : ℕ) (t u : Tables G) : Type 0 where
    pub steps : Runs k t u
    pub still : some_active u.statements ≡ false

  pub data Does : Call G → Tables G → Answer G → Tables G → Type 0 where
    adds : {k : ℕ} {r : Rule G} {t u : Tables G} → Adds m k r t u → Does (Add k r) t Added u
    withdraws : {k : ℕ} {t u : Tables G} → Withdraws m k t u → Does (Withdraw k) t Withdrawn u
    wants : {s : ℕ} {t u : Tables G} → Sent m Wanted s t u → Does (Want s) t NowWanted u
    steps : {s : ℕ} {rose : Bool} {t u : Tables G} → Steps s rose t u → Does Step t (Stepped s rose) u
    finishes : {k : ℕ} {t u : Tables G} → Finishes k t u → Does Finish t (Finished k) u
    reads : {s : ℕ} {t : Tables G} → Does (Read s) t (Graded (grade m t s) (not (some_active t.statements))) t

  pub data Outcome : Call G → Tables G → Answer G → Tables G → Type 0 where
    refused : {c : Call G} {t : Tables G} {r : Refusal} → first (checks m c t) ≡ Some r → Outcome c t (Refused r) t
    done : {c : Call G} {t u : Tables G} {a : Answer G} → first (checks m c t) ≡ None → Does c t a u → Outcome c t a u
