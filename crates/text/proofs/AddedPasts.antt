-- A board with rules is what accepted adds of them leave.
use Rattle.std.proofs.Common.{◌≡◌, ℕ, ◌+◌, ◌-◌, ◌≤◌, true, List, [], ◌∷◌, ◌++◌, length, get_or, set, replicate, None, sym, refl, ap, ◌∙◌, subst, ⊎_elim, arith}
use Rattle.std.proofs.lemmas.List.{append_assoc, append-nil, length-set, length-replicate, get_or-replicate, get_or_past, set-get_or}
use Rattle.std.proofs.lemmas.Bool.{cases_lt, false≢true}
use Rattle.scales.specs.Meaning.{Meaning}
use Rattle.scales.specs.Laws.{Laws}
use Rattle.model.specs.Least.{On}
use Rattle.model.specs.declared.rule.Rule.{Rule}
use Rattle.pasts.specs.Calls.{Outcome, refused, done, adds as does_add}
use Rattle.pasts.specs.Pasts.{Past, fresh, later, accepted}
use Rattle.pasts.specs.Refusals.{first}
use Rattle.pasts.specs.Tables.{Tables, tables, unopened, blank, told, checks}
use Rattle.pasts.specs.declared.call.Answer.{Answer}
use Rattle.pasts.specs.declared.call.Answer.TheVariants.{Added}
use Rattle.pasts.specs.declared.call.Call.{Call}
use Rattle.pasts.specs.declared.call.Call.TheVariants.{Add}
use Rattle.pasts.specs.declared.call.Entry.{Entry}
use Rattle.pasts.specs.declared.statement.Event.TheVariants.{SonRose}
use Rattle.pasts.specs.declared.statement.Statement.{Statement}
use Rattle.pasts.proofs.Usables.{stays_usable}
use Rattle.text.specs.Boards.{placed, board, Fits, adds}
use Rattle.text.specs.declared.numbered.Numbered.{Numbered}
use Rattle.text.proofs.PlacedHeld.{BlankFrom, set_blank, replicate_blank}

checks_passed : {G : Type 0} {m : Meaning G} {degree : ℕ → G} {c : Call G} {t u : Tables G} {a : Answer G} → Outcome m degree c t a u → accepted a ≡ true → first (checks m c t) ≡ None
checks_passed (refused h) e = absurd (false≢true e)
checks_passed (done h d) e = h

module _ {G : Type 0} (m : Meaning G) where
  same_unopened : (n i : ℕ) → get_or (replicate n (unopened m)) i (unopened m) ≡ unopened m
  same_unopened n i =
      ⊎_elim (λ l. get_or-replicate n i (unopened m) (unopened m) l) (λ l. get_or_past (replicate n (unopened m)) i (unopened m) (subst (λ (j : ℕ). j ≤ i) (sym (length-replicate n (unopened m))) l)) (cases_lt i n)

  -- an unopened statement that is told of a son stays so
  still_unopened : (n i : ℕ) → replicate n (unopened m) ≡ set (replicate n (unopened m)) i (told SonRose (get_or (replicate n (unopened m)) i (unopened m)))
  still_unopened n i =
      let all = replicate n (unopened m) in
      sym (set-get_or all i (unopened m)) ∙ (ap (set all i) (same_unopened n i) ∙ sym (ap (λ (x : Statement G). set all i (told SonRose x)) (same_unopened n i)))

module _ {G : Type 0} {m : Meaning G} (laws : Laws m) (degree : ℕ → G) (n p : ℕ) (few : On 1024 n) (low : On 4096 p) where
  abbrev with_rules : List (Rule G) → Tables G
  with_rules rules = tables (replicate n (unopened m)) rules

  grown : (last : ℕ) (h : List (Entry G)) (rules : List (Rule G)) (xs : List (Numbered G)) → length rules ≡ p → BlankFrom m last rules → Fits n p last xs → Past m degree n p h (with_rules rules) → Past m degree n p (adds xs ++ h) (with_rules (placed rules xs))
  grown last h rules [] l b f past = past
  grown last h rules (x ∷ xs) l b f past =
      let i = x.mark - 1 in
      let up = f.0.above in
      let mk : i + 1 ≡ x.mark = omega arith in
      let e : Entry G = record { call = Add x.mark x.rule; answer = Added } in
      let add = (stays_usable laws degree n p h (with_rules rules) past few low).add x.mark x.rule (omega arith, f.0.within) (b i (omega arith)) f.0.head f.0.formed in
      let ok = checks_passed add.1 refl in
      let next : Past m degree n p (e ∷ h) (with_rules (set rules i x.rule)) = later past (done ok (does_add (record { rules = refl; statements = still_unopened m n (x.rule.head - 1) }))) in
      let still : BlankFrom m x.mark (set rules i x.rule) = subst (λ (j : ℕ). BlankFrom m j (set rules i x.rule)) mk (set_blank m last i rules x.rule b (omega arith)) in
      subst (λ (k : List (Entry G)). Past m degree n p k (with_rules (placed (set rules i x.rule) xs))) (sym (append_assoc (adds xs) (e ∷ []) h)) (grown x.mark (e ∷ h) (set rules i x.rule) xs (length-set rules i x.rule ∙ l) still f.1 next)

  pub board_past : (xs : List (Numbered G)) → Fits n p 0 xs → Past m degree n p (adds xs) (board m n p xs)
  board_past xs f =
      subst (λ (k : List (Entry G)). Past m degree n p k (board m n p xs)) (append-nil (adds xs)) (grown 0 [] (replicate p (blank m)) xs (length-replicate p (blank m)) (replicate_blank m p) f fresh)
