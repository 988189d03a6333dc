-- What a read answers.
use Rattle.std.proofs.Common.{◌≡◌, ℕ, Bool, true, not, None, refl}
use Rattle.std.proofs.lemmas.Bool.{not-false}
use Rattle.scales.specs.Meaning.{Meaning}
use Rattle.model.specs.Least.{On}
use Rattle.pasts.specs.Marks.{open_mark}
use Rattle.pasts.specs.Refusals.{first}
use Rattle.pasts.specs.Tables.{Tables, grade, mark, count, checks, some_active}
use Rattle.pasts.specs.Calls.{Does, reads, Outcome, done}
use Rattle.pasts.specs.declared.call.Call.TheVariants.{Read}
use Rattle.pasts.specs.declared.call.Answer.{Answer}
use Rattle.pasts.specs.declared.call.Answer.TheVariants.{Graded}
use Rattle.pasts.proofs.Checked.{none_met, inside_on}

-- an accepted read of s says the grade g
pub record Says {G : Type 0} (m : Meaning G) (t : Tables G) (s : ℕ) (g : G) (settled : Bool) : Type 0 where
  pub on : On (count t) s
  pub is_open : open_mark (mark m t s) ≡ true
  pub graded : g ≡ grade m t s
  pub said : settled ≡ not (some_active t.statements)

module _ {G : Type 0} {m : Meaning G} {degree : ℕ → G} where
  read_does : {s : ℕ} {t u : Tables G} {a : Answer G} → Does m degree (Read s) t a u → a ≡ Graded (grade m t s) (not (some_active t.statements))
  read_does reads = refl

  read_done : {s : ℕ} {t u : Tables G} {g : G} {settled : Bool} → Outcome m degree (Read s) t (Graded g settled) u → (first (checks m (Read s) t) ≡ None) × (◌≡◌ {A = Answer G} (Graded g settled) (Graded (grade m t s) (not (some_active t.statements))))
  read_done (done ok d) = (ok, read_does d)

  pub read_says : {s : ℕ} {t u : Tables G} {g : G} {settled : Bool} → Outcome m degree (Read s) t (Graded g settled) u → Says m t s g settled
  read_says {s} {t} out =
      let is = read_done out in
      let all = none_met (checks m (Read s) t) is.0 in
      record { on = inside_on (count t) s all.1.1.0; is_open = not-false _ all.1.1.1.0; graded = cc is.1; said = cc is.1 }
