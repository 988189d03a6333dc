-- A withdraw, an add and a want alter nothing far away, and wake what they should.
use Rattle.std.proofs.Common.{◌≡◌, ℕ, true, cond, refl, ap, ◌∙◌, ⊎_elim}
use Rattle.scales.specs.Meaning.{Meaning}
use Rattle.model.specs.Rules.{Leads}
use Rattle.model.specs.Least.{On}
use Rattle.model.specs.declared.rule.Rule.{Rule}
use Rattle.pasts.specs.Marks.{open_mark, answered}
use Rattle.pasts.specs.Tables.{Tables, statement, rule_at, count, checks, mark}
use Rattle.pasts.specs.Calls.{Outcome, done, adds, withdraws, wants}
use Rattle.pasts.specs.Moves.{WithdrawIsLocal, AddIsLocal, WantIsLocal, Wakes}
use Rattle.pasts.specs.declared.call.Call.TheVariants.{Add, Withdraw, Want}
use Rattle.pasts.specs.declared.call.Answer.TheVariants.{Added, Withdrawn, NowWanted}
use Rattle.pasts.specs.declared.statement.Event.TheVariants.{SonRose, Wanted}
use Rattle.pasts.specs.declared.statement.Mark.{Mark}
use Rattle.pasts.specs.declared.statement.Mark.TheVariants.{Unopened, Quiet, Active}
use Rattle.std.proofs.lemmas.Bool.{false≢true}
use Rattle.model.proofs.Cases.{by_test, at_number}
use Rattle.pasts.proofs.HeldAdd.{sent_grade, sent_here, sent_other}
use Rattle.pasts.proofs.Checked.{add_checked, want_checked, none_met}
use Rattle.model.proofs.Reach.{leads?}

stays_wanted : (x : Mark) → open_mark x ≡ true → answered x Wanted ≡ x
stays_wanted Unopened e = absurd (false≢true e)
stays_wanted Quiet e = refl
stays_wanted Active e = refl

told_open : (x : Mark) → answered x SonRose ≡ cond (open_mark x) Active Unopened
told_open Unopened = refl
told_open Quiet = refl
told_open Active = refl

told_wanted : (x : Mark) → answered x Wanted ≡ cond (open_mark x) x Active
told_wanted Unopened = refl
told_wanted Quiet = refl
told_wanted Active = refl

module _ {G : Type 0} (m : Meaning G) (degree : ℕ → G) where
  pub withdraw_is_local : (t : Tables G) → WithdrawIsLocal m degree t
  withdraw_is_local t u k s (done ok (withdraws w)) on changed =
      let formed = (none_met (checks m (Withdraw k) t) ok).1.0 in
      let opened : open_mark (mark m t s) ≡ true = by_test (open_mark (mark m t s)) (λ o. o) (λ o. absurd (changed (w.closed s on o))) in
      (opened, ⊎_elim (λ l. l) (λ far. absurd (changed (w.apart s on far))) (leads? t.rules (count t) (rule_at m t k).head formed s on))

  pub add_is_local : (t : Tables G) → AddIsLocal m degree t
  add_is_local t u k r (done ok (adds w)) s on =
      let head = (add_checked m k r t ok).on in
      (sent_grade m SonRose r.head t u w.statements head s on, λ ne. ap (λ x. x.mark) (sent_other m SonRose r.head t u w.statements head s on ne))

  pub want_is_local : (t : Tables G) → WantIsLocal m degree t
  want_is_local t u s (done ok (wants w)) r on =
      let here = want_checked m s t ok in
      let other : (r ≡ s → ⊥) → mark m u r ≡ mark m t r = λ ne. ap (λ x. x.mark) (sent_other m Wanted s t u w.statements here r on ne) in
      (sent_grade m Wanted s t u w.statements here r on, other, λ o. at_number s (λ x. open_mark (mark m t x) ≡ true → mark m u x ≡ mark m t x) r (λ q. ap (λ x. x.mark) (sent_here m Wanted s t u w.statements here) ∙ stays_wanted (mark m t s) q) (λ ne _. other ne) o)

  wake_add : (t u : Tables G) (k : ℕ) (r : Rule G) → Outcome m degree (Add k r) t Added u → mark m u r.head ≡ cond (open_mark (mark m t r.head)) Active Unopened
  wake_add t u k r (done ok (adds w)) = ap (λ x. x.mark) (sent_here m SonRose r.head t u w.statements (add_checked m k r t ok).on) ∙ told_open (mark m t r.head)

  wake_withdraw : (t u : Tables G) (k s : ℕ) → Outcome m degree (Withdraw k) t Withdrawn u → On (count t) s → open_mark (mark m t s) ≡ true → Leads t.rules s (rule_at m t k).head → statement m u s ≡ record { grade = m.lowest; mark = Active }
  wake_withdraw t u k s (done ok (withdraws w)) on o l = w.falls s on o l ∙ ap (λ x. record { grade = m.lowest; mark = x }) (told_open (mark m t s) ∙ ap (λ b. cond b Active Unopened) o)

  wake_want : (t u : Tables G) (s : ℕ) → Outcome m degree (Want s) t NowWanted u → mark m u s ≡ cond (open_mark (mark m t s)) (mark m t s) Active
  wake_want t u s (done ok (wants w)) = ap (λ x. x.mark) (sent_here m Wanted s t u w.statements (want_checked m s t ok)) ∙ told_wanted (mark m t s)

  pub wakes : (t : Tables G) → Wakes m degree t
  wakes t = record { add = wake_add t; withdraw = wake_withdraw t; want = wake_want t }
