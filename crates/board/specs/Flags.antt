-- Flags on the statements that lead to one, and what falls by them. Assumes nothing.
--     flagged fl s                the statement s has a flag
--     some_flagged fl bs          one of bs has
--     spreads fl r                the rule r has a flagged body, and its head has no flag
--     spreading fl rules          the head of the first such rule
--     Closed rules fl t           all that have t for a son have a flag
--     Waits queue d n t           t is among those that wait, at the place d or after it and before n
--     Grown rules s fl queue n more longer k      from n to k numbers in the queue, only parents of s got a flag, and each that did came
--                                 to the queue's end
--     Leading rules h fl          exactly the statements that lead to h have a flag
--     lowest_told m x             the statement x at the lowest grade, and told as if a son had risen
--     fallen m b x                that, if x is open and b says that it leads to the head; else x
--     Falls m rules h xs ys       from xs to ys exactly the open statements that lead to h fall
use Rattle.std.specs.Prelude.{◌≡◌, ℕ, ◌+◌, ◌-◌, ◌<◌, ◌≤◌, Bool, true, false, cond, not, ◌&&◌, ◌⊎◌, List, [], ◌∷◌, length, Some, None, count_by, Option, ◌==◌, slice_index, slice_index_or}
use Rattle.std.specs.List.{list_any}
use Rattle.scales.specs.Meaning.{Meaning}
use Rattle.model.specs.Rules.{present, son, Leads}
use Rattle.model.specs.Least.{On}
use Rattle.model.specs.declared.rule.Rule.{Rule}
use Rattle.pasts.specs.Marks.{answered, open_mark}
use Rattle.pasts.specs.Tables.{entered}
use Rattle.pasts.specs.declared.statement.Event.TheVariants.{SonRose}
use Rattle.pasts.specs.declared.statement.Statement.{Statement}

abbrev pub flagged : List Bool → ℕ → Bool
flagged fl s = slice_index_or fl (s - 1) false

abbrev pub some_flagged : List Bool → List ℕ → Bool
some_flagged fl bs = list_any (flagged fl) bs

abbrev pub Waits : List ℕ → ℕ → ℕ → ℕ → Type 0
Waits queue d n t = (k : ℕ) × (d ≤ k) × (k < n) × (slice_index queue k ≡ t)

module _ {G : Type 0} where
  abbrev pub Closed : List (Rule G) → List Bool → ℕ → Type 0
  Closed rules fl t = (p : ℕ) → 1 ≤ p → son rules p t ≡ true → flagged fl p ≡ true

  pub record Grown (rules : List (Rule G)) (s : ℕ) (fl : List Bool) (queue : List ℕ) (n : ℕ) (more : List Bool) (longer : List ℕ) (k : ℕ) : Type 0 where
    pub kept : (t : ℕ) → 1 ≤ t → flagged fl t ≡ true → flagged more t ≡ true
    pub new : (t : ℕ) → 1 ≤ t → flagged more t ≡ true → (flagged fl t ≡ true) ⊎ ((son rules t s ≡ true) × Waits longer n k t)
    pub named : (i : ℕ) → n ≤ i → i < k → On (length more) (slice_index longer i) × (flagged more (slice_index longer i) ≡ true)
    pub same : (i : ℕ) → i < n → slice_index longer i ≡ slice_index queue i
    pub grows : n ≤ k
    pub few : k + count_by not more ≤ n + count_by not fl

  abbrev pub spreads : List Bool → Rule G → Bool
  spreads fl r = not (r.head == 0) && (not (flagged fl r.head) && some_flagged fl (present r.bodies))

  abbrev pub spreading : List Bool → List (Rule G) → Option ℕ
  spreading fl [] = None
  spreading fl (r ∷ rs) = cond (spreads fl r) (Some r.head) (spreading fl rs)

  pub record Leading (rules : List (Rule G)) (h : ℕ) (fl : List Bool) : Type 0 where
    pub only : (s : ℕ) → On (length fl) s → flagged fl s ≡ true → Leads rules s h
    pub every : (s : ℕ) → On (length fl) s → Leads rules s h → flagged fl s ≡ true

module _ {G : Type 0} (m : Meaning G) where
  abbrev pub lowest_told : Statement G → Statement G
  lowest_told x = record { grade = m.lowest; mark = answered x.mark SonRose }

  abbrev pub fallen : Bool → Statement G → Statement G
  fallen b x = cond (b && open_mark x.mark) (lowest_told x) x

  pub record Falls (rules : List (Rule G)) (h : ℕ) (xs ys : List (Statement G)) : Type 0 where
    pub same_count : length ys ≡ length xs
    pub falls : (s : ℕ) → On (length xs) s → open_mark (entered m xs s).mark ≡ true → Leads rules s h → entered m ys s ≡ lowest_told (entered m xs s)
    pub closed : (s : ℕ) → On (length xs) s → open_mark (entered m xs s).mark ≡ false → entered m ys s ≡ entered m xs s
    pub apart : (s : ℕ) → On (length xs) s → (Leads rules s h → ⊥) → entered m ys s ≡ entered m xs s
