-- A scale that is turned round keeps the laws where the scale does, and its codes theirs. Assumes nothing.
--     bare                        one grade of the turned scale is one grade of the scale
--     join_rises, join_lowest     a join rises with both of its operands, and the lowest adds nothing to it
--     turned_laws                 the laws
--     turned_codes                the laws of the codes
use Rattle.std.specs.Prelude.{◌≡◌, ℕ, Some, None, Option, refl}
use Rattle.std.proofs.Common.{sym, ap, arith}
use Rattle.std.specs.Option.{option_map}
use Rattle.scales.specs.Meaning.{Meaning, Under, Same}
use Rattle.scales.specs.Laws.{Laws}
use Rattle.scales.specs.Codes.{Coding, Codes}
use Rattle.scales.specs.Turning.{over, turned, turned_coding}
use Rattle.scales.specs.declared.turned.Turned.{Turned}
use Rattle.scales.specs.CodeLaws.{whole}

module _ {G : Type 0} (m : Meaning G) where
  bare : (a b : Turned G) → Same (turned m) a b → Same m a.grade b.grade
  bare a b e = ap (λ x. x.grade) e

module _ {G : Type 0} {m : Meaning G} (laws : Laws m) where
  join_rises : (a b c d : G) → Under m a c → Under m b d → Under m (m.join a b) (m.join c d)
  join_rises a b c d p q =
      laws.join_least a b _ (laws.transitive a c _ p (laws.join_left c d)) (laws.transitive b d _ q (laws.join_right c d))

  join_lowest : (b : G) → Same m (m.join m.lowest b) b
  join_lowest b =
      laws.antisymmetric _ _ (laws.join_least _ b b (laws.from_lowest b) (laws.reflexive b b refl)) (laws.join_right _ b)

  pub turned_laws : Laws (turned m)
  turned_laws = record {
    stands_same = λ a. ap over (laws.stands_same a.grade);
    reflexive = λ a b e. laws.reflexive b.grade a.grade (sym (bare m a b e));
    antisymmetric = λ a b p q. ap over (laws.antisymmetric a.grade b.grade q p);
    transitive = λ a b c p q. laws.transitive c.grade b.grade a.grade q p;
    from_lowest = λ a. laws.to_highest a.grade;
    to_highest = λ a. laws.from_lowest a.grade;
    join_left = λ a b. laws.meet_left a.grade b.grade;
    join_right = λ a b. laws.meet_right a.grade b.grade;
    join_least = λ a b c p q. laws.meet_greatest a.grade b.grade c.grade p q;
    meet_left = λ a b. laws.join_left a.grade b.grade;
    meet_right = λ a b. laws.join_right a.grade b.grade;
    meet_greatest = λ a b c p q. laws.join_least a.grade b.grade c.grade p q;
    blend_rises = λ a b c d p q. join_rises c.grade d.grade a.grade b.grade p q;
    blend_highest = λ b. ap over (join_lowest b.grade);
    level_same = λ a b e. omega (arith, laws.level_same a.grade b.grade (bare m a b e));
    level_rises = λ a b e. omega (arith, laws.level_rises b.grade a.grade e, laws.level_bound a.grade);
    level_bound = λ a. omega arith;
    height_bound = laws.height_bound;
  }

-- what decodes on the turned scale decodes below
below : {G : Type 0} (o : Option G) (a : Turned G) → option_map over o ≡ Some a → o ≡ Some a.grade
below None a e = cc
below (Some g) a e =
    let is : over g ≡ a = cc in ap (λ x. Some x.grade) is

pub turned_codes : {G : Type 0} {m : Meaning G} {c : Coding G} {most : ℕ} → Codes m c most → Codes (turned m) (turned_coding c) most
turned_codes {m = m} {c = c} codes =
    whole (λ a b e. codes.same_code a.grade b.grade (bare m a b e)) (λ a. codes.code_bound a.grade)
    (λ a. let d = codes.decodes a.grade in (over d.0, ap (option_map over) d.1, ap over d.2))
    (λ n a e. codes.encodes n a.grade (below (c.decode n) a e))
