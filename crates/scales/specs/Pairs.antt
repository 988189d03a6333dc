-- Two scales side by side. Assumes nothing.
--     both a b            the pair of two grades
--     pairs l r           the scale of pairs of grades of l and of r: every word part by part, level and height as sums
--     pair_coding c d     256 times the first code and the second code
use Rattle.std.specs.Prelude.{◌+◌, ◌*◌, ◌/◌, ◌%◌, ◌&&◌, Some, None, Option}
use Rattle.scales.specs.Meaning.{Meaning}
use Rattle.scales.specs.Codes.{Coding}
use Rattle.scales.specs.declared.pair.Pair.{Pair}

module _ {L R : Type 0} where
  abbrev pub both : L → R → Pair L R
  both a b = record { first = a; second = b }

  -- the pair of what two codes decode to, if both decode
  abbrev pub both_of : Option L → Option R → Option (Pair L R)
  both_of None r = None
  both_of (Some a) None = None
  both_of (Some a) (Some b) = Some (both a b)

  abbrev pub pairs : Meaning L → Meaning R → Meaning (Pair L R)
  pairs l r = record {
    stands = λ a. both (l.stands a.first) (r.stands a.second);
    below = λ a b. l.below a.first b.first && r.below a.second b.second;
    lowest = both l.lowest r.lowest;
    highest = both l.highest r.highest;
    join = λ a b. both (l.join a.first b.first) (r.join a.second b.second);
    meet = λ a b. both (l.meet a.first b.first) (r.meet a.second b.second);
    blend = λ a b. both (l.blend a.first b.first) (r.blend a.second b.second);
    level = λ a. l.level a.first + r.level a.second;
    height = l.height + r.height;
  }

  abbrev pub pair_coding : Coding L → Coding R → Coding (Pair L R)
  pair_coding c d = record {
    code = λ a. 256 * c.code a.first + d.code a.second;
    decode = λ n. both_of (c.decode (n / 256)) (d.decode (n % 256));
  }
