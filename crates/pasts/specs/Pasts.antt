-- What a board's past is, and which rules and wants it leaves. Assumes nothing.
--     accepted a                  the answer a is no refusal
--     WasWanted s h               a want of s was accepted in the past h
--     Shelved k r h               the rule r is in force at the place k: an accepted add brought it there, and no accepted withdraw took it
--                                 since
--     changed_by m c rules        the places of rules after the accepted call c
--     in_force m p h              the p places after the past h, as a list: each rule is there from the accepted add that
--                                 brought it to the accepted withdraw that took it
--     Past m degree n p h t       the calls h, newest first, on the cleared tables of n statements and p places left t
--     EveryPast m degree P        P holds after every past
--     least_grade m degree n p h s    the grade of s in the least model of the rules in force
use Rattle.std.specs.Prelude.{◌≡◌, ℕ, ◌-◌, Bool, true, false, cond, List, [], ◌∷◌, replicate, slice_set}
use Rattle.scales.specs.Meaning.{Meaning}
use Rattle.model.specs.Least.{least}
use Rattle.model.specs.declared.rule.Rule.{Rule}
use Rattle.pasts.specs.Tables.{Tables, cleared, blank}
use Rattle.pasts.specs.Calls.{Outcome}
use Rattle.pasts.specs.declared.call.Call.{Call}
use Rattle.pasts.specs.declared.call.Call.TheVariants.{Add, Withdraw, Want, Step, Finish, Read}
use Rattle.pasts.specs.declared.call.Answer.{Answer}
use Rattle.pasts.specs.declared.call.Answer.TheVariants.{Added, Withdrawn, NowWanted, Stepped, Finished, Graded, Refused}
use Rattle.pasts.specs.declared.call.Entry.{Entry}

module _ {G : Type 0} where
  abbrev pub accepted : Answer G → Bool
  accepted Added = true
  accepted Withdrawn = true
  accepted NowWanted = true
  accepted (Stepped s rose) = true
  accepted (Finished k) = true
  accepted (Graded g settled) = true
  accepted (Refused r) = false

  pub data WasWanted (s : ℕ) : List (Entry G) → Type 0 where
    now_wanted : {h : List (Entry G)} → WasWanted s (record { call = Want s; answer = NowWanted } ∷ h)
    before : {e : Entry G} {h : List (Entry G)} → WasWanted s h → WasWanted s (e ∷ h)

  pub data Shelved (k : ℕ) (r : Rule G) : List (Entry G) → Type 0 where
    brought : {h : List (Entry G)} → Shelved k r (record { call = Add k r; answer = Added } ∷ h)
    kept : {e : Entry G} {h : List (Entry G)} → (e ≡ record { call = Withdraw k; answer = Withdrawn } → ⊥) → Shelved k r h → Shelved k r (e ∷ h)

module _ {G : Type 0} (m : Meaning G) where
  abbrev pub changed_by : Call G → List (Rule G) → List (Rule G)
  changed_by (Add k r) rules = slice_set rules (k - 1) r
  changed_by (Withdraw k) rules = slice_set rules (k - 1) (blank m)
  changed_by (Want s) rules = rules
  changed_by Step rules = rules
  changed_by Finish rules = rules
  changed_by (Read s) rules = rules

  abbrev pub in_force : ℕ → List (Entry G) → List (Rule G)
  in_force p [] = replicate p (blank m)
  in_force p (e ∷ h) = cond (accepted e.answer) (changed_by e.call (in_force p h)) (in_force p h)

module _ {G : Type 0} (m : Meaning G) (degree : ℕ → G) where
  pub data Past (n p : ℕ) : List (Entry G) → Tables G → Type 0 where
    fresh : Past n p [] (cleared m n p)
    later : {h : List (Entry G)} {t u : Tables G} {c : Call G} {a : Answer G} → Past n p h t → Outcome m degree c t a u → Past n p (record { call = c; answer = a } ∷ h) u

  abbrev pub EveryPast : (ℕ → ℕ → List (Entry G) → Tables G → Type 0) → Type 0
  EveryPast P = (n p : ℕ) (h : List (Entry G)) (t : Tables G) → Past n p h t → P n p h t

  abbrev pub least_grade : ℕ → ℕ → List (Entry G) → ℕ → G
  least_grade n p h s = least m degree (in_force m p h) n s
