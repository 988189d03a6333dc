-- What a file says before one of its lines, from what it says after it. Assumes nothing.
--     went_on             the line fits what is due
--     failed              it does not
--     ended, bare_end     the text ends, with shoulders or without
use Rattle.std.proofs.Common.{◌≡◌, ℕ, ◌+◌, true, false, List, [], ◌∷◌, Some, None, Option, sym, ap, ◌∙◌, subst}
use Rattle.lines.specs.Measured.{Outcome, Says, ends, no_shoulders, goes_on, fails, ramp, fault, due, kind, fits, ends_after, readings_after}
use Rattle.lines.specs.declared.measured.Line.{Line}
use Rattle.lines.specs.declared.measured.Expected.{Expected}
use Rattle.lines.specs.declared.measured.Expected.TheVariants.{Shoulders}

module _ {n : ℕ} {e : Option (ℕ × ℕ)} {rs line : List ℕ} {all rest : List (List ℕ)} (l : Line) (cut : all ≡ line ∷ rest) (is : l ≡ kind line) where
  pub went_on : (f : Option (ℕ × ℕ)) (qs : List ℕ) (o : Outcome) → true ≡ fits e l → f ≡ ends_after e l → qs ≡ readings_after rs l → Says (n + 1) f qs rest o → Says n e rs all o
  went_on f qs o ok ended-as noted-as says =
      subst (λ ls. Says n e rs ls o) (sym cut) (goes_on (ap (fits e) (sym is) ∙ sym ok) (subst (λ q. Says (n + 1) (ends_after e (kind line)) q rest o) (noted-as ∙ ap (readings_after rs) is) (subst (λ g. Says (n + 1) g qs rest o) (ended-as ∙ ap (ends_after e) is) says)))

  pub failed : (d : Expected) → false ≡ fits e l → d ≡ due e → Says n e rs all (fault (n + 1) d)
  failed d bad expects = rw (cut, expects) (fails (ap (fits e) (sym is) ∙ sym bad))

module _ {n : ℕ} (e : Option (ℕ × ℕ)) {rs : List ℕ} {all : List (List ℕ)} (over : all ≡ []) where
  pub ended : (near far : ℕ) → e ≡ Some (near, far) → Says n e rs all (ramp near far rs)
  ended near far is = rw (over, is) ends

  pub bare_end : e ≡ None → Says n e rs all (fault (n + 1) Shoulders)
  bare_end is = rw (over, is) no_shoulders
