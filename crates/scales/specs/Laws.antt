-- What every scale keeps. Assumes nothing.
--     Laws m      the order is one and runs from lowest to highest, join and meet are its bounds, blend does not fall when an operand
--                 rises and the highest leaves what is blended into it, and a strictly higher grade has a higher level
-- A held number may be any number here, also one that its type cannot hold, so a scale's meaning says which grade each number holds.
use Rattle.std.specs.Prelude.{◌≡◌, ◌<◌, ◌≤◌, true}
use Rattle.scales.specs.Meaning.{Meaning, Under, Same, above}

pub record Laws {G : Type 0} (m : Meaning G) : Type 0 where
  -- a held value holds the same grade as the value it stands for
  pub stands_same : (a : G) → Same m (m.stands a) a
  pub reflexive : (a b : G) → Same m a b → Under m a b
  pub antisymmetric : (a b : G) → Under m a b → Under m b a → Same m a b
  pub transitive : (a b c : G) → Under m a b → Under m b c → Under m a c
  pub from_lowest : (a : G) → Under m m.lowest a
  pub to_highest : (a : G) → Under m a m.highest
  pub join_left : (a b : G) → Under m a (m.join a b)
  pub join_right : (a b : G) → Under m b (m.join a b)
  pub join_least : (a b c : G) → Under m a c → Under m b c → Under m (m.join a b) c
  pub meet_left : (a b : G) → Under m (m.meet a b) a
  pub meet_right : (a b : G) → Under m (m.meet a b) b
  pub meet_greatest : (a b c : G) → Under m c a → Under m c b → Under m c (m.meet a b)
  pub blend_rises : (a b c d : G) → Under m a c → Under m b d → Under m (m.blend a b) (m.blend c d)
  pub blend_highest : (b : G) → Same m (m.blend m.highest b) b
  pub level_same : (a b : G) → Same m a b → m.level a ≡ m.level b
  pub level_rises : (a b : G) → above m b a ≡ true → m.level a < m.level b
  pub level_bound : (a : G) → m.level a ≤ m.height
  pub height_bound : m.height ≤ 65535
