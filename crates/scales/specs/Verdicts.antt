-- The scale of verdicts. Assumes nothing.
--     below               false is below unknown and inconsistent, and both are below true; those two are not comparable
--     join, meet          the two bounds
--     level               0, 1, 1, 2
--     verdicts            the scale: it blends by meet, and its height is 2
--     code, decode        0 to 3 in the order above, and back
use Rattle.std.specs.Prelude.{ℕ, zero, suc, Bool, true, false, Some, None, Option}
use Rattle.scales.specs.Meaning.{Meaning}
use Rattle.scales.specs.Codes.{Coding}
use Rattle.scales.specs.declared.verdict.Verdict.{Verdict}
use Rattle.scales.specs.declared.verdict.Verdict.TheVariants.{False, Unknown, Inconsistent, True}

abbrev pub below : Verdict → Verdict → Bool
below False b = true
below Unknown False = false
below Unknown Unknown = true
below Unknown Inconsistent = false
below Unknown True = true
below Inconsistent False = false
below Inconsistent Unknown = false
below Inconsistent Inconsistent = true
below Inconsistent True = true
below True False = false
below True Unknown = false
below True Inconsistent = false
below True True = true

abbrev pub join : Verdict → Verdict → Verdict
join False b = b
join Unknown False = Unknown
join Unknown Unknown = Unknown
join Unknown Inconsistent = True
join Unknown True = True
join Inconsistent False = Inconsistent
join Inconsistent Unknown = True
join Inconsistent Inconsistent = Inconsistent
join Inconsistent True = True
join True b = True

abbrev pub meet : Verdict → Verdict → Verdict
meet False b = False
meet Unknown False = False
meet Unknown Unknown = Unknown
meet Unknown Inconsistent = False
meet Unknown True = Unknown
meet Inconsistent False = False
meet Inconsistent Unknown = False
meet Inconsistent Inconsistent = Inconsistent
meet Inconsistent True = Inconsistent
meet True b = b

abbrev pub level : Verdict → ℕ
level False = 0
level Unknown = 1
level Inconsistent = 1
level True = 2

abbrev pub verdicts : Meaning Verdict
verdicts = record {
  stands = λ a. a;
  below = below;
  lowest = False;
  highest = True;
  join = join;
  meet = meet;
  blend = meet;
  level = level;
  height = 2;
}

abbrev pub code : Verdict → ℕ
code False = 0
code Unknown = 1
code Inconsistent = 2
code True = 3

abbrev pub decode : ℕ → Option Verdict
decode zero = Some False
decode (suc zero) = Some Unknown
decode (suc (suc zero)) = Some Inconsistent
decode (suc (suc (suc zero))) = Some True
decode (suc (suc (suc (suc n)))) = None

abbrev pub verdict_coding : Coding Verdict
verdict_coding = record { code = code; decode = decode }
