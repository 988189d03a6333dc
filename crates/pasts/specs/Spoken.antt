-- What is printed of a mark, a refusal and an answer. Assumes nothing.
--     mark_text x                 the word for the mark x
--     refusal_text r              that a call is refused, with the number of r
--     answer_text c a             the answer a, a grade by its code
use Rattle.std.specs.Prelude.{ℕ, true, false, List, ◌++◌, codes, decimal}
use Rattle.scales.specs.Codes.{Coding}
use Rattle.pasts.specs.Refusals.{number}
use Rattle.pasts.specs.declared.statement.Mark.{Mark}
use Rattle.pasts.specs.declared.statement.Mark.TheVariants.{Unopened, Quiet, Active}
use Rattle.pasts.specs.declared.refusal.Refusal.{Refusal}
use Rattle.pasts.specs.declared.call.Answer.{Answer}
use Rattle.pasts.specs.declared.call.Answer.TheVariants.{Added, Withdrawn, NowWanted, Stepped, Finished, Graded, Refused}

abbrev pub mark_text : Mark → List ℕ
mark_text Unopened = codes "unopened"
mark_text Quiet = codes "quiet"
mark_text Active = codes "active"

abbrev pub refusal_text : Refusal → List ℕ
refusal_text r = codes "refused " ++ decimal (number r)

module _ {G : Type 0} (c : Coding G) where
  abbrev pub answer_text : Answer G → List ℕ
  answer_text Added = codes "added"
  answer_text Withdrawn = codes "withdrawn"
  answer_text NowWanted = codes "wanted"
  answer_text (Stepped s true) = decimal s ++ codes " rose"
  answer_text (Stepped s false) = decimal s ++ codes " unchanged"
  answer_text (Finished k) = decimal k ++ codes " evaluations"
  answer_text (Graded g true) = decimal (c.code g) ++ codes " settled"
  answer_text (Graded g false) = decimal (c.code g) ++ codes " unsettled"
  answer_text (Refused r) = refusal_text r
