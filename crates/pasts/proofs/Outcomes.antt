-- The outcome of a call from its first check that is met, or from what it does.
use Rattle.std.proofs.Common.{◌≡◌, ℕ, Bool, true, false, cond, not, List, [], ◌∷◌, ◌++◌, Some, None, Option, sym, refl, ap, ◌∙◌}
use Rattle.scales.specs.Meaning.{Meaning}
use Rattle.pasts.specs.Refusals.{Check, first}
use Rattle.pasts.specs.Tables.{Tables, table_checks, call_checks, some_active}
use Rattle.pasts.specs.Calls.{Steps, Finishes, Does, steps, finishes, Outcome, refused, done}
use Rattle.pasts.specs.declared.refusal.Refusal.{Refusal}
use Rattle.pasts.specs.declared.refusal.Refusal.TheVariants.{NothingActive}
use Rattle.pasts.specs.declared.call.Call.{Call}
use Rattle.pasts.specs.declared.call.Call.TheVariants.{Step, Finish}
use Rattle.pasts.specs.declared.call.Answer.{Answer}
use Rattle.pasts.specs.declared.call.Answer.TheVariants.{Stepped, Finished, Refused}
use Rattle.pasts.proofs.Active.{next_active}

refused_one : (b : Bool) (q r : Refusal) (o p : Option Refusal) → (o ≡ Some r → p ≡ Some r) → cond b (Some q) o ≡ Some r → cond b (Some q) p ≡ Some r
refused_one true q r o p f e = e
refused_one false q r o p f e = f e

passed_one : (b : Bool) (q : Refusal) (o p d : Option Refusal) → (o ≡ None → p ≡ d) → cond b (Some q) o ≡ None → cond b (Some q) p ≡ d
passed_one true q o p d f e = cc
passed_one false q o p d f e = f e

pub first_refused : (cs ds : List Check) (r : Refusal) → first cs ≡ Some r → first (cs ++ ds) ≡ Some r
first_refused [] ds r e = cc
first_refused (c ∷ cs) ds r e = refused_one c.met c.refusal r (first cs) (first (cs ++ ds)) (first_refused cs ds r) e

pub first_passed : (cs ds : List Check) → first cs ≡ None → first (cs ++ ds) ≡ first ds
first_passed [] ds e = refl
first_passed (c ∷ cs) ds e = passed_one c.met c.refusal (first cs) (first (cs ++ ds)) (first ds) (first_passed cs ds) e

module _ {G : Type 0} (m : Meaning G) (degree : ℕ → G) (t : Tables G) (c : Call G) where
  -- the tables themselves are refused
  pub call_unsound : (r : Refusal) → Some r ≡ first (table_checks t) → Outcome m degree c t (Refused r) t
  call_unsound r h = refused (first_refused (table_checks t) (call_checks m c t) r (sym h))

  -- what the call asks is refused
  pub call_refused : (r : Refusal) → None ≡ first (table_checks t) → Some r ≡ first (call_checks m c t) → Outcome m degree c t (Refused r) t
  call_refused r h k = refused (first_passed (table_checks t) (call_checks m c t) (sym h) ∙ sym k)

  pub call_done : (a : Answer G) (u : Tables G) → None ≡ first (table_checks t) → None ≡ first (call_checks m c t) → Does m degree c t a u → Outcome m degree c t a u
  call_done a u h k d = done (first_passed (table_checks t) (call_checks m c t) (sym h) ∙ sym k) d

module _ {G : Type 0} (m : Meaning G) (degree : ℕ → G) (t : Tables G) where
  pub step_idle : None ≡ first (table_checks t) → some_active t.statements ≡ false → Outcome m degree Step t (Refused NothingActive) t
  step_idle h e = call_refused m degree t Step NothingActive h (sym (ap (λ b. cond (not b) (Some NothingActive) None) e))

  pub step_done : (s : ℕ) (rose : Bool) (u : Tables G) → None ≡ first (table_checks t) → Steps m degree s rose t u → Outcome m degree Step t (Stepped s rose) u
  step_done s rose u h d = call_done m degree t Step (Stepped s rose) u h (sym (ap (λ b. cond (not b) (Some NothingActive) None) (next_active m t.statements s d.next))) (steps d)

  pub finish_done : (k : ℕ) (u : Tables G) → None ≡ first (table_checks t) → Finishes m degree k t u → Outcome m degree Finish t (Finished k) u
  finish_done k u h d = call_done m degree t Finish (Finished k) u h refl (finishes d)
