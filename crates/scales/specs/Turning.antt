-- A scale with its order turned round. Assumes nothing.
--     over g              the grade g of a scale, on the turned scale
--     turned m            the scale m upside down: lowest and highest trade places and so do join and meet, it blends by its own meet,
--                         and a grade's level is what m's level leaves of the height
--     turned_coding c     a grade keeps its code
use Rattle.std.specs.Prelude.{◌-◌}
use Rattle.std.specs.Option.{option_map}
use Rattle.scales.specs.Meaning.{Meaning}
use Rattle.scales.specs.Codes.{Coding}
use Rattle.scales.specs.declared.turned.Turned.{Turned}

abbrev pub over : {G : Type 0} → G → Turned G
over g = record { grade = g }

abbrev pub turned : {G : Type 0} → Meaning G → Meaning (Turned G)
turned m = record {
  stands = λ a. over (m.stands a.grade);
  below = λ a b. m.below b.grade a.grade;
  lowest = over m.highest;
  highest = over m.lowest;
  join = λ a b. over (m.meet a.grade b.grade);
  meet = λ a b. over (m.join a.grade b.grade);
  blend = λ a b. over (m.join a.grade b.grade);
  level = λ a. m.height - m.level a.grade;
  height = m.height;
}

abbrev pub turned_coding : {G : Type 0} → Coding G → Coding (Turned G)
turned_coding c = record { code = λ a. c.code a.grade; decode = λ n. option_map over (c.decode n) }
