-- A pair of short scales keeps the laws where both scales do, and its codes theirs. Assumes nothing.
--     level_up            a grade's level is at most that of a grade it is at or below
--     pair_laws           the laws
--     pair_codes          the laws of the codes
use Rattle.std.specs.Prelude.{◌≡◌, ℕ, ◌+◌, ◌*◌, ◌/◌, ◌%◌, ◌<◌, ◌≤◌, true, false, not, Some, None, Option}
use Rattle.std.proofs.Common.{ap, ap₂, ◌∙◌, ⊎_elim, arith}
use Rattle.std.proofs.lemmas.Bool.{and_parts, and_from, and_cases, not-true, not_from_false, cases_Bool}
use Rattle.scales.specs.Meaning.{Meaning, Under, Same, above}
use Rattle.scales.specs.Laws.{Laws}
use Rattle.scales.specs.Codes.{Coding, Codes}
use Rattle.scales.specs.Pairs.{both, both_of, pairs, pair_coding}
use Rattle.scales.specs.declared.pair.Pair.{Pair}
use Rattle.scales.specs.CodeLaws.{whole}

module _ {G : Type 0} {m : Meaning G} (laws : Laws m) where
  strictly : (a b : G) → Under m a b → m.below b a ≡ false → m.level a < m.level b
  strictly a b p q = laws.level_rises a b (and_from _ _ p (not_from_false (m.below b a) q))

  level_up : (a b : G) → Under m a b → m.level a ≤ m.level b
  level_up a b p =
      ⊎_elim (λ q. omega (arith, laws.level_same a b (laws.antisymmetric a b p q))) (λ q. omega (arith, strictly a b p q))
      (cases_Bool (m.below b a))

module _ {L R : Type 0} (l : Meaning L) (r : Meaning R) where
  firsts : (a b : Pair L R) → Same (pairs l r) a b → Same l a.first b.first
  firsts a b e = ap (λ x. x.first) e

  seconds : (a b : Pair L R) → Same (pairs l r) a b → Same r a.second b.second
  seconds a b e = ap (λ x. x.second) e

module _ {L R : Type 0} {l : Meaning L} {r : Meaning R} (left : Laws l) (right : Laws r) where
  parts : (a b : Pair L R) → Under (pairs l r) a b → Under l a.first b.first × Under r a.second b.second
  parts a b e = and_parts (l.below a.first b.first) _ e

  level_rises : (a b : Pair L R) → above (pairs l r) b a ≡ true → (pairs l r).level a < (pairs l r).level b
  level_rises a b e = ⊎_elim first second (and_cases (l.below b.first a.first) _ (not-true ((pairs l r).below b a) up.1))
    where
      up : Under (pairs l r) a b × (not ((pairs l r).below b a) ≡ true)
      up = and_parts ((pairs l r).below a b) _ e

      first : l.below b.first a.first ≡ false → (pairs l r).level a < (pairs l r).level b
      first f =
          let p = parts a b up.0 in
          omega (arith, strictly left a.first b.first p.0 f, level_up right a.second b.second p.1)

      second : r.below b.second a.second ≡ false → (pairs l r).level a < (pairs l r).level b
      second f =
          let p = parts a b up.0 in
          omega (arith, level_up left a.first b.first p.0, strictly right a.second b.second p.1 f)

  pub pair_laws : l.height ≤ 255 → r.height ≤ 255 → Laws (pairs l r)
  pair_laws p q = record {
    stands_same = λ a. ap₂ both (left.stands_same a.first) (right.stands_same a.second);
    reflexive = λ a b e. and_from _ _ (left.reflexive a.first b.first (firsts l r a b e)) (right.reflexive a.second b.second (seconds l r a b e));
    antisymmetric = λ a b e f. ap₂ both (left.antisymmetric a.first b.first (parts a b e).0 (parts b a f).0) (right.antisymmetric a.second b.second (parts a b e).1 (parts b a f).1);
    transitive = λ a b c e f. and_from _ _ (left.transitive a.first b.first c.first (parts a b e).0 (parts b c f).0) (right.transitive a.second b.second c.second (parts a b e).1 (parts b c f).1);
    from_lowest = λ a. and_from _ _ (left.from_lowest a.first) (right.from_lowest a.second);
    to_highest = λ a. and_from _ _ (left.to_highest a.first) (right.to_highest a.second);
    join_left = λ a b. and_from _ _ (left.join_left a.first b.first) (right.join_left a.second b.second);
    join_right = λ a b. and_from _ _ (left.join_right a.first b.first) (right.join_right a.second b.second);
    join_least = λ a b c e f. and_from _ _ (left.join_least a.first b.first c.first (parts a c e).0 (parts b c f).0) (right.join_least a.second b.second c.second (parts a c e).1 (parts b c f).1);
    meet_left = λ a b. and_from _ _ (left.meet_left a.first b.first) (right.meet_left a.second b.second);
    meet_right = λ a b. and_from _ _ (left.meet_right a.first b.first) (right.meet_right a.second b.second);
    meet_greatest = λ a b c e f. and_from _ _ (left.meet_greatest a.first b.first c.first (parts c a e).0 (parts c b f).0) (right.meet_greatest a.second b.second c.second (parts c a e).1 (parts c b f).1);
    blend_rises = λ a b c d e f. and_from _ _ (left.blend_rises a.first b.first c.first d.first (parts a c e).0 (parts b d f).0) (right.blend_rises a.second b.second c.second d.second (parts a c e).1 (parts b d f).1);
    blend_highest = λ b. ap₂ both (left.blend_highest b.first) (right.blend_highest b.second);
    level_same = λ a b e. ap₂ (λ x y. x + y) (left.level_same a.first b.first (firsts l r a b e)) (right.level_same a.second b.second (seconds l r a b e));
    level_rises = level_rises;
    level_bound = λ a. omega (arith, left.level_bound a.first, right.level_bound a.second);
    height_bound = omega arith;
  }

-- a code is put together from two of at most 255, and taken apart again
high : (a b : ℕ) → b ≤ 255 → (256 * a + b) / 256 ≡ a
high a b h = omega arith

low : (a b : ℕ) → b ≤ 255 → (256 * a + b) % 256 ≡ b
low a b h = omega arith

-- what decodes as a pair decodes part by part
apart : {L R : Type 0} (o : Option L) (p : Option R) (a : Pair L R) → both_of o p ≡ Some a → (o ≡ Some a.first) × (p ≡ Some a.second)
apart None p a e = cc
apart (Some x) None a e = cc
apart (Some x) (Some y) a e = let is : both x y ≡ a = cc in (ap (λ z. Some z.first) is, ap (λ z. Some z.second) is)

module _ {L R : Type 0} {l : Meaning L} {r : Meaning R} {c : Coding L} {d : Coding R} (p : Codes l c 255) (q : Codes r d 255) where
  decodes : (a : Pair L R) → (h : Pair L R) × ((pair_coding c d).decode ((pair_coding c d).code a) ≡ Some h) × Same (pairs l r) h a
  decodes a =
      let x = p.decodes a.first in
      let y = q.decodes a.second in
      let b = q.code_bound a.second in
      let i = ap c.decode (high (c.code a.first) (d.code a.second) b) ∙ x.1 in
      let j = ap d.decode (low (c.code a.first) (d.code a.second) b) ∙ y.1 in
      (both x.0 y.0, ap₂ both_of i j, ap₂ both x.2 y.2)

  encodes : (n : ℕ) (a : Pair L R) → (pair_coding c d).decode n ≡ Some a → (pair_coding c d).code a ≡ n
  encodes n a e =
      let s = apart (c.decode (n / 256)) (d.decode (n % 256)) a e in
      omega (arith, p.encodes (n / 256) a.first s.0, q.encodes (n % 256) a.second s.1)

  pub pair_codes : Codes (pairs l r) (pair_coding c d) 65535
  pair_codes =
      whole (λ a b e. ap₂ (λ x y. 256 * x + y) (p.same_code a.first b.first (firsts l r a b e)) (q.same_code a.second b.second (seconds l r a b e)))
      (λ a. omega (arith, p.code_bound a.first, q.code_bound a.second)) decodes encodes
