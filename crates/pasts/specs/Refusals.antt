-- The numbers of refusals, and which one comes. Assumes nothing.
--     number r            the number of the refusal r
--     Check               a refusal, and whether its case is met
--     first cs            the refusal of the first check that is met, if one is
--     outside most k      k is 0 or above most
use Rattle.std.specs.Prelude.{ℕ, Bool, cond, ◌||◌, List, [], ◌∷◌, Some, None, Option, ◌==◌, nat_lt}
use Rattle.pasts.specs.declared.refusal.Refusal.{Refusal}
use Rattle.pasts.specs.declared.refusal.Refusal.TheVariants.{TableLength, MalformedPlace, NoSuchStatement, NoSuchMark, PlaceTaken, PlaceBlank, BodyAfterAbsent, NothingActive, NotOpen, LineShort, Letter, Field, WeightCode, Count, MarkOrder, BufferShort}

abbrev pub number : Refusal → ℕ
number TableLength = 1
number MalformedPlace = 2
number NoSuchStatement = 3
number NoSuchMark = 4
number PlaceTaken = 5
number PlaceBlank = 6
number BodyAfterAbsent = 7
number NothingActive = 8
number NotOpen = 9
number LineShort = 10
number Letter = 11
number Field = 12
number WeightCode = 13
number Count = 14
number MarkOrder = 15
number BufferShort = 16

pub record Check : Type 0 where
  pub refusal : Refusal
  pub met : Bool

abbrev pub check : Refusal → Bool → Check
check r b = record { refusal = r; met = b }

abbrev pub first : List Check → Option Refusal
first [] = None
first (c ∷ cs) = cond c.met (Some c.refusal) (first cs)

abbrev pub outside : ℕ → ℕ → Bool
outside most k = k == 0 || nat_lt most k
