-- What the words of a rule mean. Assumes nothing.
--     OneOf r rules              r is one of the rules
--     Body b bs                  b is one of the bodies bs, and not absent
--     AfterAbsent bs             one of bs is absent, and a body comes after it
--     JoinOf m P g, MeetOf m P g    g is the join, or the meet, of the grades that P holds of
--     Says m degree rules f s a  a is the degree of s, or the value of one of its rules
--     GradeOf m f bs a           a is the grade of one of the bodies bs
--     Chained m f g bs w         w is g with the bodies bs blended in from the left, each as right operand
--     SonIs G                    t is a son of s if it is a body of a rule with head s, and else not
--     MalformedIs G              what a malformed place is
--     WorthIsJoin m degree       the worth of s is the join of its degree and the values of the rules with head s
--     FormsAre m                 a rule with no body says its weight; else the weight blended with the meet of all its bodies, or with the
--                                 join, or with one body after the other
use Rattle.std.specs.Prelude.{◌≡◌, ℕ, ◌<◌, true, List, [], ◌∷◌, ◌≢◌}
use Rattle.scales.specs.Meaning.{Meaning, Under}
use Rattle.model.specs.Rules.{value, son}
use Rattle.model.specs.Formed.{malformed_place}
use Rattle.model.specs.Least.{worth}
use Rattle.model.specs.declared.rule.Form.TheVariants.{All, Any, Chain}
use Rattle.model.specs.declared.rule.Rule.{Rule}

pub data OneOf {A : Type 0} : A → List A → Type 0 where
  first : {r : A} {rs : List A} → OneOf r (r ∷ rs)
  later : {r q : A} {rs : List A} → OneOf r rs → OneOf r (q ∷ rs)

pub record Body (b : ℕ) (bs : List ℕ) : Type 0 where
  pub one : OneOf b bs
  pub there : b ≡ 0 → ⊥

pub data AfterAbsent : List ℕ → Type 0 where
  absent : {b : ℕ} {bs : List ℕ} → Body b bs → AfterAbsent (0 ∷ bs)
  beyond : {b : ℕ} {bs : List ℕ} → AfterAbsent bs → AfterAbsent (b ∷ bs)

abbrev pub SonIs : Type 0 → Type 0
SonIs G =
    (rules : List (Rule G)) (s t : ℕ) → (son rules s t ≡ true → (r : Rule G) × OneOf r rules × (r.head ≡ s) × Body t r.bodies) × ((r : Rule G) → OneOf r rules → r.head ≡ s → Body t r.bodies → son rules s t ≡ true)

-- a rule whose head or a body is no statement, or whose bodies have a gap
pub data Malformed {G : Type 0} (n : ℕ) (r : Rule G) : Type 0 where
  high_head : n < r.head → Malformed n r
  high_body : {b : ℕ} → OneOf b r.bodies → n < b → Malformed n r
  hole : AfterAbsent r.bodies → Malformed n r

abbrev pub MalformedIs : Type 0 → Type 0
MalformedIs G =
    (n : ℕ) (r : Rule G) → (malformed_place n r ≡ true → (r.head ≢ 0) × Malformed n r) × ((r.head ≢ 0) → Malformed n r → malformed_place n r ≡ true)

module _ {G : Type 0} (m : Meaning G) where
  pub record JoinOf (P : G → Type 0) (g : G) : Type 0 where
    pub over : (a : G) → P a → Under m a g
    pub least : (b : G) → ((a : G) → P a → Under m a b) → Under m g b

  pub record MeetOf (P : G → Type 0) (g : G) : Type 0 where
    pub under : (a : G) → P a → Under m g a
    pub greatest : (b : G) → ((a : G) → P a → Under m b a) → Under m b g

  pub data Says (degree : ℕ → G) (rules : List (Rule G)) (f : ℕ → G) (s : ℕ) : G → Type 0 where
    survey : Says degree rules f s (degree s)
    rule : {r : Rule G} → OneOf r rules → r.head ≡ s → Says degree rules f s (value m f r)

  pub data GradeOf (f : ℕ → G) (bs : List ℕ) : G → Type 0 where
    graded : {b : ℕ} → Body b bs → GradeOf f bs (f b)

  pub data Chained (f : ℕ → G) : G → List ℕ → G → Type 0 where
    end : {g : G} → Chained f g [] g
    skip : {g w : G} {bs : List ℕ} → Chained f g bs w → Chained f g (0 ∷ bs) w
    link : {g w : G} {b : ℕ} {bs : List ℕ} → (b ≢ 0) → Chained f (m.blend g (f b)) bs w → Chained f g (b ∷ bs) w

  abbrev pub WorthIsJoin : (ℕ → G) → Type 0
  WorthIsJoin degree = (rules : List (Rule G)) (f : ℕ → G) (s : ℕ) → JoinOf (Says degree rules f s) (worth m degree rules f s)

  pub record FormsAre : Type 0 where
    pub alone : (f : ℕ → G) (r : Rule G) → ((b : ℕ) → OneOf b r.bodies → b ≡ 0) → value m f r ≡ r.weight
    pub all : (f : ℕ → G) (r : Rule G) (b : ℕ) → r.form ≡ All → Body b r.bodies → (g : G) × MeetOf (GradeOf f r.bodies) g × (value m f r ≡ m.blend r.weight g)
    pub any : (f : ℕ → G) (r : Rule G) (b : ℕ) → r.form ≡ Any → Body b r.bodies → (g : G) × JoinOf (GradeOf f r.bodies) g × (value m f r ≡ m.blend r.weight g)
    pub chain : (f : ℕ → G) (r : Rule G) → r.form ≡ Chain → Chained f r.weight r.bodies (value m f r)
