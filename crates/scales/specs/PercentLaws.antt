-- Percent keeps the laws of a scale, and its codes theirs. Assumes nothing.
--     number              one held grade is one number
--     product_rises       a blend does not fall when an operand rises
--     product_bound       a blend of numbers up to 100 is at most 100
--     percent_laws        the laws
--     percent_codes       the laws of the codes, under any bound from 100 on
--     percent_short_codes, percent_written_codes   under the two bounds that scales ask for
--     percent_low         the height is within the bound of a short scale
use Rattle.std.specs.Prelude.{◌≡◌, ℕ, ◌*◌, ◌≤◌, min, Some, nat_le}
use Rattle.std.proofs.Common.{ap, ◌∙◌, mul-le-mul, le_trans, le-div_iff_mul-le, div-mul-le_self, arith, lit<}
use Rattle.std.proofs.Math.Nat.{mul-div_cancel_left}
use Rattle.std.proofs.lemmas.Bool.{leb-true, leb-false, le-leb, and_parts, not-true}
use Rattle.scales.specs.CodeLaws.{whole, some_up_to, up_to}
use Rattle.scales.specs.Meaning.{Under, Same}
use Rattle.scales.specs.Laws.{Laws}
use Rattle.scales.specs.Codes.{Codes}
use Rattle.scales.specs.Percents.{points, percent, product, percents, percent_coding}
use Rattle.scales.specs.declared.percent.Percent.{Percent}

number : (a b : Percent) → Same percents a b → points a ≡ points b
number a b e = ap (λ x. x.value) e

pub product_rises : (a b c d : ℕ) → a ≤ c → b ≤ d → product a b ≤ product c d
product_rises a b c d p q =
    (le-div_iff_mul-le (lit< tt)).1 (le_trans (div-mul-le_self (a * b) 100) (mul-le-mul p q))

pub product_bound : (a b : ℕ) → a ≤ 100 → b ≤ 100 → product a b ≤ 100
product_bound a b p q = product_rises a b 100 100 p q

-- the highest leaves what is blended into it
product_full : (b : ℕ) → product 100 b ≡ b
product_full b = mul-div_cancel_left b (lit< tt)

under : (a b : Percent) → Under percents a b → points a ≤ points b
under a b e = leb-true (points a) (points b) e

rises : (a b c d : Percent) → Under percents a c → Under percents b d → Under percents (percents.blend a b) (percents.blend c d)
rises a b c d e f =
    let p = product_rises (points a) (points b) (points c) (points d) (under a c e) (under b d f) in
    le-leb _ _ (omega arith)

pub percent_laws : Laws percents
percent_laws = record {
  stands_same = λ a. ap percent (omega arith);
  reflexive = λ a b e. let s = number a b e in le-leb (points a) (points b) (omega arith);
  antisymmetric = λ a b e f. let s = under a b e in let t = under b a f in ap percent (omega arith);
  transitive = λ a b c e f. let s = under a b e in let t = under b c f in le-leb (points a) (points c) (omega arith);
  from_lowest = λ a. le-leb 0 (points a) (omega arith);
  to_highest = λ a. le-leb (points a) 100 (omega arith);
  join_left = λ a b. le-leb (points a) (points (percents.join a b)) (omega arith);
  join_right = λ a b. le-leb (points b) (points (percents.join a b)) (omega arith);
  join_least = λ a b c e f. let s = under a c e in let t = under b c f in le-leb (points (percents.join a b)) (points c) (omega arith);
  meet_left = λ a b. le-leb (points (percents.meet a b)) (points a) (omega arith);
  meet_right = λ a b. le-leb (points (percents.meet a b)) (points b) (omega arith);
  meet_greatest = λ a b c e f. let s = under c a e in let t = under c b f in le-leb (points c) (points (percents.meet a b)) (omega arith);
  blend_rises = rises;
  blend_highest = λ b. ap (λ n. percent (min n 100)) (product_full (points b)) ∙ ap percent (omega arith);
  level_same = number;
  level_rises = λ a b e. leb-false (points b) (points a) (not-true (nat_le (points b) (points a)) (and_parts (nat_le (points a) (points b)) _ e).1);
  level_bound = λ a. omega arith;
  height_bound = omega arith;
}

encodes : (n : ℕ) (g : Percent) → percent_coding.decode n ≡ Some g → points g ≡ n
encodes n g e = let d = up_to 100 percent n g e in omega (arith, d.0, ap (λ x. x.value) d.1)

pub percent_codes : (most : ℕ) → 100 ≤ most → Codes percents percent_coding most
percent_codes most h =
    whole number (λ g. omega arith)
    (λ g. (percent (points g), some_up_to 100 percent (points g) (omega arith), ap percent (omega arith))) encodes

pub percent_short_codes : Codes percents percent_coding 255
percent_short_codes = percent_codes 255 (omega arith)

pub percent_written_codes : Codes percents percent_coding 65535
percent_written_codes = percent_codes 65535 (omega arith)

pub percent_low : percents.height ≤ 255
percent_low = omega arith
