-- From text to board and back, and from board to text and back.
use Rattle.std.proofs.Common.{◌≡◌, ℕ, suc, ◌+◌, ◌*◌, ◌<◌, ◌≤◌, Bool, true, false, cond, not, ◌&&◌, eqb, ltb, List, [], ◌∷◌, ◌++◌, length, take, drop, Some, None, Ok, Option, sym, refl, ap, ◌∙◌, subst, arith}
use Rattle.std.specs.List.{flat_map}
use Rattle.std.proofs.lemmas.List.{take_at}
use Rattle.std.proofs.lemmas.Bool.{or_parts, or_from, le-ltb, ltb-false, eqb-false, both_ways}
use Rattle.scales.specs.Meaning.{Meaning}
use Rattle.scales.specs.Laws.{Laws}
use Rattle.scales.specs.Codes.{Coding, Codes}
use Rattle.model.proofs.Cases.{at_test}
use Rattle.model.specs.Formed.{malformed, malformed_place}
use Rattle.model.specs.Least.{On}
use Rattle.model.specs.declared.rule.Rule.{Rule}
use Rattle.pasts.specs.Pasts.{Past}
use Rattle.pasts.specs.Refusals.{first}
use Rattle.pasts.specs.Tables.{Tables, count, table_checks}
use Rattle.pasts.specs.declared.refusal.Refusal.{Refusal}
use Rattle.pasts.proofs.Checked.{tables_checked, none_met, all_unmet, on_inside}
use Rattle.pasts.proofs.Kept.{keeps_its_promise}
use Rattle.text.specs.Boards.{Fits, Four, Alike, AllAlike, none, more, held, numbered, adds}
use Rattle.text.specs.Loads.{Loads, or_length, write_checks, text_length}
use Rattle.text.specs.Promises.{OneSpelling, LoadAfterWrite, WriteAfterLoad, LoadedPast}
use Rattle.text.specs.Rows.{rule_count, text_checks}
use Rattle.text.specs.Spelling.{row_bytes, header_front, spelling}
use Rattle.text.specs.declared.numbered.Numbered.{Numbered}
use Rattle.text.proofs.AddedPasts.{board_past}
use Rattle.text.proofs.Judged.{passed}
use Rattle.text.proofs.PlacedHeld.{board_held}
use Rattle.text.proofs.TextsSpelled.{text_within}

module _ {G : Type 0} {m : Meaning G} {c : Coding G} (codes : Codes m c 65535) where
  -- the same rules have the same spelling
  alike_row : (x y : Numbered G) → Alike m x y → row_bytes c x ≡ row_bytes c y
  alike_row x y a =
      let ma = a.mark in
      let he = a.head in
      let fo = a.form in
      let bo = a.bodies in
      let co = codes.same_code x.rule.weight y.rule.weight a.weight in
      cc

  alike_rows : {xs ys : List (Numbered G)} → AllAlike m xs ys → (flat_map (row_bytes c) xs ≡ flat_map (row_bytes c) ys) × (length xs ≡ length ys)
  alike_rows none = (refl, refl)
  alike_rows (more {x} {y} {xs} {ys} a rest) =
      let r = alike_rows rest in
      (ap (λ l. l ++ flat_map (row_bytes c) xs) (alike_row x y a) ∙ ap (λ l. row_bytes c y ++ l) r.0, ap suc r.1)

  alike_spelled : (n : ℕ) (xs ys : List (Numbered G)) → AllAlike m xs ys → spelling c n xs ≡ spelling c n ys
  alike_spelled n xs ys a =
      let r = alike_rows a in
      ap (λ (j : ℕ). header_front n j ++ (10 ∷ []) ++ flat_map (row_bytes c) xs) r.1 ∙ ap (λ l. header_front n (length ys) ++ (10 ∷ []) ++ l) r.0

  rows_long : (xs : List (Numbered G)) → length (flat_map (row_bytes c) xs) ≡ 38 * length xs
  rows_long [] = refl
  rows_long (x ∷ xs) = omega (arith, rows_long xs)

  spelling_long : (n : ℕ) (xs : List (Numbered G)) → length (spelling c n xs) ≡ 12 + 38 * length xs
  spelling_long n xs = omega (arith, rows_long xs)

  -- the rules of a text that was loaded
  module _ (text : List ℕ) (t u : Tables G) (j : ℕ) (l : Loads m c text t (Ok j) u) where
    abbrev n : ℕ
    n = count t

    abbrev p : ℕ
    p = length t.rules

    within : On 1024 n × On 4096 p
    within = text_within codes n p text (passed (text_checks c n p text) (rule_count text) j l.answer).0

    taken_held : held 1 u.rules ≡ (l.taken j refl).0
    taken_held =
        let k = l.taken j refl in
        ap (λ (w : Tables G). held 1 w.rules) k.4 ∙ board_held m n p k.0 k.2

    pub loaded_spelled : text ≡ spelling c n (held 1 u.rules)
    loaded_spelled = (l.taken j refl).3 ∙ ap (spelling c n) (sym taken_held)

    pub loaded_past : (laws : Laws m) (degree : ℕ → G) → Past m degree n p (adds (held 1 u.rules)) u
    loaded_past laws degree =
        let k = l.taken j refl in
        let b = board_past laws degree n p within.0 within.1 k.0 k.2 in
        let P : Tables G → Type 0 = λ w. Past m degree n p (adds k.0) w in
        let Q : List (Numbered G) → Type 0 = λ xs. Past m degree n p (adds xs) u in
        subst Q (sym taken_held) (subst P (sym k.4) b)

  pub one_spelling : OneSpelling m c
  one_spelling text other t s u v j i a b same alike =
      loaded_spelled text t u j a ∙ (ap (λ (k : ℕ). spelling c k (held 1 u.rules)) same ∙ (alike_spelled (count s) (held 1 u.rules) (held 1 v.rules) alike ∙ sym (loaded_spelled other s v i b)))

  pub has_a_past : (laws : Laws m) (degree : ℕ → G) → LoadedPast m c degree
  has_a_past laws degree text t u j l =
      let past = loaded_past text t u j l laws degree in
      (past, keeps_its_promise laws degree (count t) (length t.rules) (adds (held 1 u.rules)) u past)

  -- the rules of a table that is well formed fit it
  module _ (n p : ℕ) where
    there : (x y : Bool) → x ≡ false → (not x && y) ≡ false → y ≡ false
    there false y e h = h
    there true y e h = absurd (both_ways true e refl)

    held_fits : (k last : ℕ) (rules : List (Rule G)) → last < k → k + length rules ≤ p + 1 → malformed n rules ≡ false → Four rules → Fits n p last (held k rules)
    held_fits k last [] h room good f = tt
    held_fits k last (r ∷ rs) h room good f =
        let parts = or_parts (malformed_place n r) (malformed n rs) good in
        at_test (eqb r.head 0) (λ b. Fits n p last (cond b (held (suc k) rs) (numbered k r ∷ held (suc k) rs)))
        (λ _. held_fits (suc k) last rs (omega arith) (omega arith) parts.1 f.1)
        (λ z.
        let low = (or_parts (ltb n r.head) _ (there (eqb r.head 0) _ z parts.0)).0 in
        let some = eqb-false r.head 0 z in
        (record { above = h; within = omega arith; head = (omega arith, ltb-false n r.head low); formed = parts.0; bodies = f.0 }, held_fits (suc k) k rs (omega arith) (omega arith) parts.1 f.1))

  none_refused : (o : Option Refusal) (j k : ℕ) → Ok k ≡ or_length o j → (o ≡ None) × (k ≡ j)
  none_refused None j k e = (refl, cc)
  none_refused (Some q) j k e = cc

  pub load_after_write : LoadAfterWrite m c
  load_after_write t s u buffer out k r four w counts places l =
      let xs = held 1 t.rules in
      let a = none_refused (first (write_checks t buffer)) (text_length t) k w.answer in
      let all = none_met (write_checks t buffer) a.0 in
      let good = tables_checked t (all_unmet (table_checks t) (all.0, (all.1.0, tt))) in
      let bytes : take k out ≡ spelling c (count t) xs = ap (take k) (w.written k refl) ∙ take_at (spelling c (count t) xs) (drop k buffer) k (spelling_long (count t) xs ∙ sym a.1) in
      let fits = held_fits (count t) (length t.rules) 1 0 t.rules (omega arith) (omega arith) good.2 four in
      l.takes xs (subst (On 1024) (sym counts) good.0) (subst (On 4096) (sym places) good.1)
      (subst (λ (n : ℕ). Fits n (length s.rules) 0 xs) (sym counts) (subst (λ (p : ℕ). Fits (count t) p 0 xs) (sym places) fits))
      (bytes ∙ ap (λ (n : ℕ). spelling c n xs) (sym counts))

  pub write_after_load : (laws : Laws m) → WriteAfterLoad m c
  write_after_load laws text t u j buffer out r l long w =
      let xs = held 1 u.rules in
      let spelled = loaded_spelled text t u j l in
      let promise = (has_a_past laws (λ _. m.lowest) text t u j l).1 in
      let sizes = within text t u j l in
      let counts = promise.sound.same_count in
      let places = promise.shelf.places in
      let size : text_length u ≡ length text = sym (ap length spelled ∙ spelling_long (count t) xs) in
      let formed : malformed (count u) u.rules ≡ false = subst (λ (n : ℕ). malformed n u.rules ≡ false) (sym counts) promise.shelf.well_formed in
      let ok : first (write_checks u buffer) ≡ None =
      all_unmet (write_checks u buffer) (
        or_from _ _ (on_inside 1024 (count u) (subst (On 1024) (sym counts) sizes.0)) (on_inside 4096 (length u.rules) (subst (On 4096) (sym places) sizes.1)),
        (formed, (le-ltb (length buffer) (text_length u) (subst (λ (k : ℕ). k ≤ length buffer) (sym size) long), tt)),
      ) in
      let answer : r ≡ Ok (length text) = w.answer ∙ (ap (λ o. or_length o (text_length u)) ok ∙ ap Ok size) in
      let bytes = w.written (length text) answer in
      let same : spelling c (count u) xs ≡ text = ap (λ (n : ℕ). spelling c n xs) counts ∙ sym spelled in
      (answer, ap (take (length text)) bytes ∙ (take_at (spelling c (count u) xs) (drop (length text) buffer) (length text) (ap length same) ∙ same))
