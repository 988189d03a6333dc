-- What a load does, from its checks.
use Rattle.std.proofs.Common.{◌≡◌, ℕ, Bool, true, false, cond, ◌||◌, List, [], ◌∷◌, ◌++◌, length, drop, replicate, Some, None, Ok, Err, Option, Result, sym, refl, ap, ◌∙◌, subst}
use Rattle.std.proofs.lemmas.List.{append-nil}
use Rattle.std.proofs.lemmas.Bool.{cond-false}
use Rattle.scales.specs.Meaning.{Meaning}
use Rattle.scales.specs.Codes.{Coding, Codes}
use Rattle.model.specs.declared.rule.Rule.{Rule}
use Rattle.pasts.specs.Calls.{Clears, kept, clears}
use Rattle.pasts.specs.Refusals.{first, outside}
use Rattle.pasts.specs.Tables.{Tables, tables, count, cleared, unopened, blank, length_checks}
use Rattle.pasts.specs.declared.refusal.Refusal.{Refusal}
use Rattle.pasts.specs.declared.refusal.Refusal.TheVariants.{TableLength}
use Rattle.pasts.specs.declared.statement.Statement.{Statement}
use Rattle.pasts.proofs.Checked.{none_met}
use Rattle.text.specs.Boards.{board, placed, AllAlike}
use Rattle.text.specs.Faults.{Check, check, at_no_place, judged, Unmet}
use Rattle.text.specs.Lines.{cut, after}
use Rattle.text.specs.Loads.{Loads, Decodes}
use Rattle.text.specs.Rows.{rule_count, rules_in, rules_of, header_checks, rows_checks, text_checks}
use Rattle.text.specs.declared.faults.Fault.{Fault}
use Rattle.text.proofs.Judged as judging
use Rattle.text.proofs.PlacedHeld.{board_held}
use Rattle.text.proofs.TextsBack.{text_good, text_back, count_back}
use Rattle.text.proofs.TextsSpelled.{text_fits, text_decoded, text_spelled, rows_length}

ok_err : {X E : Type 0} (x : X) (e : E) → ◌≡◌ {A = Result X E} (Ok x) (Err e) → ⊥
ok_err x e p = cc

-- what a load ensures
pub record Load {G : Type 0} (m : Meaning G) (k : Coding G) (text : List ℕ) (t : Tables G) (r : Result ℕ Fault) (u : Tables G) : Type 0 where
  pub loads : Loads m k text t r u
  pub decoded : Decodes m k text t r u

module _ {G : Type 0} {m : Meaning G} {k : Coding G} (codes : Codes m k 65535) (text : List ℕ) (t : Tables G) where
  abbrev n : ℕ
  n = count t

  abbrev p : ℕ
  p = length t.rules

  abbrev checks : List Check
  checks = text_checks k n p text

  pub refusing : (f : Fault) → Err f ≡ judged checks (rule_count text) → Load m k text t (Err f) t
  refusing f e = record {
    loads = record {
      answer = e;
      refused = λ g q. (refl, judging.first_met checks (rule_count text) g (sym q ∙ e));
      taken = λ j q. absurd (ok_err j f (sym q));
      takes = λ xs on many fits spells.
          let u : Unmet checks = subst (λ (s : List ℕ). Unmet (text_checks k n p s)) (sym spells) (text_good codes n p on.1 many.1 xs fits on.0 many.0) in
          absurd (ok_err (rule_count text) f (sym (judging.passes checks (rule_count text) u) ∙ sym e));
    };
    decoded = record { decoded = λ j q. absurd (ok_err j f (sym q)) };
  }

  pub loading : Unmet checks → Load m k text t (Ok (rule_count text)) (board m n p (rules_of m k text))
  loading u =
      let fits = text_fits codes n p text u in
      record {
        loads = record {
          answer = sym (judging.passes checks (rule_count text) u);
          refused = λ f q. absurd (ok_err (rule_count text) f q);
          taken = λ j q.
              let same : rule_count text ≡ j = cc in
              (rules_of m k text, rows_length codes n p (rule_count text) (drop 12 text) ∙ same, fits, text_spelled codes n p text u, refl);
          takes = λ xs on many g spells. (
            ap Ok (ap rule_count spells ∙ count_back codes n p on.1 many.1 xs g),
            subst (λ ys. AllAlike m ys xs) (sym (board_held m n p (rules_of m k text) fits ∙ ap (rules_of m k) spells)) (text_back codes n p on.1 many.1 xs g),
          );
        };
        decoded = record {
          decoded = λ j q.
              let same : rule_count text ≡ j = cc in
              (rules_of m k text, rows_length codes n p (rule_count text) (drop 12 text) ∙ same, fits, text_decoded codes n p text u, text_spelled codes n p text u, refl);
        };
      }

  -- the lengths of the tables
  abbrev lengths : List Check
  lengths = check (at_no_place TableLength) (outside 1024 n || outside 4096 p) ∷ []

  by_length : (b : Bool) (q : Refusal) (r : Result ℕ Fault) → Some q ≡ cond b (Some TableLength) None → Err (at_no_place q) ≡ cond b (Err (at_no_place TableLength)) r
  by_length true q r e = let same : q ≡ TableLength = cc in ap (λ x. Err (at_no_place x)) same
  by_length false q r e = cc

  pub in_lengths : (q : Refusal) → Some q ≡ first (length_checks t) → Load m k text t (Err (at_no_place q)) t
  in_lengths q e = refusing (at_no_place q) (by_length (outside 1024 n || outside 4096 p) q _ e)

  module _ (fine : None ≡ first (length_checks t)) where
    lengths_good : Unmet lengths
    lengths_good = ((none_met (length_checks t) (sym fine)).0, tt)

    past_lengths : (r : Result ℕ Fault) → r ≡ judged (header_checks n p text ++ rows_checks k n p 0 2 (rule_count text) (drop 12 text)) (rule_count text) → r ≡ judged checks (rule_count text)
    past_lengths r e = e ∙ sym (judging.past lengths (header_checks n p text ++ rows_checks k n p 0 2 (rule_count text) (drop 12 text)) (rule_count text) lengths_good)

    module _ (start : List ℕ) (whole : start ≡ text) where
      pub in_header : (f : Fault) → Err f ≡ judged (header_checks n p start) (rule_count start) → Load m k text t (Err f) t
      in_header f e =
          refusing f (past_lengths (Err f) (judging.stops (header_checks n p text) (rows_checks k n p 0 2 (rule_count text) (drop 12 text)) (rule_count text) (rule_count text) f (e ∙ ap (λ (s : List ℕ). judged (header_checks n p s) (rule_count s)) whole)))

      module _ (j : ℕ) (h : Ok j ≡ judged (header_checks n p start) (rule_count start)) (next : List ℕ) (moved : next ≡ after 11 start) where
        header_good : Unmet (header_checks n p text)
        header_good = subst (λ (s : List ℕ). Unmet (header_checks n p s)) whole (judging.passed (header_checks n p start) (rule_count start) j h).0

        pub count_is : j ≡ rule_count text
        count_is = (judging.passed (header_checks n p start) (rule_count start) j h).1 ∙ ap rule_count whole

        pub next_is : next ≡ drop 12 text
        next_is = moved ∙ (ap (after 11) whole ∙ cond-false (cut 11 text) text (drop 12 text) header_good.0)

        rows_are : rows_checks k n p 0 2 j next ≡ rows_checks k n p 0 2 (rule_count text) (drop 12 text)
        rows_are = ap (λ (i : ℕ). rows_checks k n p 0 2 i next) count_is ∙ ap (rows_checks k n p 0 2 (rule_count text)) next_is

        pub in_rows : (f : Fault) → Err f ≡ judged (rows_checks k n p 0 2 j next) (tt {0}) → Load m k text t (Err f) t
        in_rows f e =
            refusing f (past_lengths (Err f) (judging.stops (rows_checks k n p 0 2 (rule_count text) (drop 12 text)) [] (tt {0}) (rule_count text) f (e ∙ ap (λ cs. judged cs (tt {0})) rows_are)
            ∙ rest_alone))
          where
            rest_alone : judged (rows_checks k n p 0 2 (rule_count text) (drop 12 text) ++ []) (rule_count text) ≡ judged (header_checks n p text ++ rows_checks k n p 0 2 (rule_count text) (drop 12 text)) (rule_count text)
            rest_alone =
                ap (λ cs. judged cs (rule_count text)) (append-nil (rows_checks k n p 0 2 (rule_count text) (drop 12 text)))
                ∙ sym (judging.past (header_checks n p text) (rows_checks k n p 0 2 (rule_count text) (drop 12 text)) (rule_count text) header_good)

        module _ (sound : Ok (tt {0}) ≡ judged (rows_checks k n p 0 2 j next) (tt {0})) where
          pub rows_sound : Unmet (rows_checks k n p 0 2 j next)
          rows_sound = (judging.passed (rows_checks k n p 0 2 j next) (tt {0}) (tt {0}) sound).0

          pub loaded : (xs : List (Statement G)) (rules : List (Rule G)) → xs ≡ replicate n (unopened m) → rules ≡ placed (replicate p (blank m)) (rules_in m k j next) → Load m k text t (Ok j) (tables xs rules)
          loaded xs rules ex er =
              let u : Unmet checks = (lengths_good.0, judging.unmet_both (header_checks n p text) (rows_checks k n p 0 2 (rule_count text) (drop 12 text)) header_good (subst Unmet rows_are rows_sound)) in
              let same : rules ≡ placed (replicate p (blank m)) (rules_of m k text) = er ∙ (ap (λ (i : ℕ). placed (replicate p (blank m)) (rules_in m k i next)) count_is ∙ ap (λ (s : List ℕ). placed (replicate p (blank m)) (rules_in m k (rule_count text) s)) next_is) in
              subst (λ (i : ℕ). Load m k text t (Ok i) (tables xs rules)) (sym count_is)
              (subst (λ (w : Tables G). Load m k text t (Ok (rule_count text)) w) (sym (ap (λ a. tables a rules) ex ∙ ap (tables (replicate n (unopened m))) same)) (loading u))

-- a clear of tables within their limits
pub never_refused : {G : Type 0} {m : Meaning G} {t u : Tables G} {o : Option Refusal} → Clears m t o u → (q : Refusal) → o ≡ Some q → None ≡ first (length_checks t) → ⊥
never_refused (kept h) q e n = cc
never_refused (clears h) q e n = cc

pub is_cleared : {G : Type 0} {m : Meaning G} {t u : Tables G} {o : Option Refusal} → Clears m t o u → o ≡ None → u ≡ cleared m (count t) (length t.rules)
is_cleared (kept h) e = cc
is_cleared (clears h) e = refl
