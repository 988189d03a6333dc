-- What the result of each call's function stands for among a board's answers. Assumes nothing.
--     refusal_of r                the refusal in the result r, if it is one
--     answered r                  the answer in the result r, or the refusal
--     said a r                    the answer a, or the refusal
--     stepped r, finished r, graded r     the answer of a step, a finish, a read, or the refusal
use Rattle.std.specs.Prelude.{ℕ, Bool, Some, None, Ok, Err, Option, Result}
use Rattle.pasts.specs.declared.refusal.Refusal.{Refusal}
use Rattle.pasts.specs.declared.call.Answer.{Answer}
use Rattle.pasts.specs.declared.call.Answer.TheVariants.{Stepped, Finished, Graded, Refused}

abbrev pub refusal_of : Result (Unit {0}) Refusal → Option Refusal
refusal_of (Ok u) = None
refusal_of (Err e) = Some e

module _ {G : Type 0} where
  abbrev pub answered : Result (Answer G) Refusal → Answer G
  answered (Ok a) = a
  answered (Err e) = Refused e

  abbrev pub said : Answer G → Result (Unit {0}) Refusal → Answer G
  said a (Ok u) = a
  said a (Err e) = Refused e

  abbrev pub stepped : Result (ℕ × Bool) Refusal → Answer G
  stepped (Ok p) = Stepped p.0 p.1
  stepped (Err e) = Refused e

  abbrev pub finished : Result ℕ Refusal → Answer G
  finished (Ok k) = Finished k
  finished (Err e) = Refused e

  abbrev pub graded : Result (G × Bool) Refusal → Answer G
  graded (Ok p) = Graded p.0 p.1
  graded (Err e) = Refused e
