-- Percent: the whole numbers 0 to 100 in their usual order. Assumes nothing.
--     points a            the number of the grade that a holds: what it holds, and 100 where that is more
--     percent n           the held grade n
--     product a b         how two numbers blend: their product, of 10,000, brought back to 100 and rounded down
--     percents            the scale; level is the number, and the height 100
--     percent_coding      the number is the code, and above 100 there is no grade
use Rattle.std.specs.Prelude.{ℕ, ◌*◌, ◌/◌, min, max, cond, Some, None, nat_le}
use Rattle.scales.specs.Meaning.{Meaning}
use Rattle.scales.specs.Codes.{Coding}
use Rattle.scales.specs.declared.percent.Percent.{Percent}

abbrev pub points : Percent → ℕ
points a = min a.value 100

abbrev pub percent : ℕ → Percent
percent n = record { value = n }

abbrev pub product : ℕ → ℕ → ℕ
product a b = a * b / 100

abbrev pub percents : Meaning Percent
percents = record {
  stands = λ a. percent (points a);
  below = λ a b. nat_le (points a) (points b);
  lowest = percent 0;
  highest = percent 100;
  join = λ a b. percent (max (points a) (points b));
  meet = λ a b. percent (min (points a) (points b));
  blend = λ a b. percent (product (points a) (points b));
  level = points;
  height = 100;
}

abbrev pub percent_coding : Coding Percent
percent_coding = record {
  code = points;
  decode = λ n. cond (nat_le n 100) (Some (percent n)) None;
}
