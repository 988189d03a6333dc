-- A replay: its start, one entry more, and its end.
use Rattle.std.proofs.Common.{◌≡◌, ℕ, ◌+◌, ◌<◌, ◌≤◌, List, [], ◌∷◌, reverse, length, get_or, take, set, Some, None, Ok, Err, sym, ap, ◌∙◌, subst, subst₂}
use Rattle.std.proofs.lemmas.List.{take_all, take_more_set, reverse-append, map-set, set-get_or}
use Rattle.scales.specs.Meaning.{Meaning}
use Rattle.scales.specs.Laws.{Laws}
use Rattle.pasts.specs.Refusals.{first}
use Rattle.pasts.specs.Tables.{Tables, count, length_checks}
use Rattle.pasts.specs.Calls.{Outcome, Clears, kept, clears}
use Rattle.pasts.specs.Pasts.{Past, fresh, later}
use Rattle.pasts.specs.declared.call.Call.{Call}
use Rattle.pasts.specs.declared.call.Entry.{Entry}
use Rattle.pasts.specs.declared.refusal.Refusal.{Refusal}
use Rattle.pasts.proofs.Kept.{keeps_its_promise}
use Rattle.board.specs.Replays.{calls, Replays, refused, replayed}

module _ {G : Type 0} (es : List (Entry G)) (i : ℕ) where
  pub calls_kept : (d f : Entry G) → f.call ≡ (get_or es i d).call → calls (set es i f) ≡ calls es
  calls_kept d f same =
      let call : Entry G → Call G = λ x. x.call in
      map-set call es i f ∙ ap (set (calls es) i) same ∙ sym (map-set call es i (get_or es i d)) ∙ ap calls (set-get_or es i d)

  newest : (f : Entry G) → i < length es → reverse (take (i + 1) (set es i f)) ≡ f ∷ reverse (take i es)
  newest f h = ap reverse (take_more_set es i f h) ∙ reverse-append (take i es) (f ∷ [])

pub cleared_none : {G : Type 0} {m : Meaning G} {t u : Tables G} → Clears m t None u → first (length_checks t) ≡ None
cleared_none (clears e) = e

module _ {G : Type 0} {m : Meaning G} {degree : ℕ → G} where
  pub replay_refused : {t u : Tables G} {r : Refusal} (es : List (Entry G)) → Clears m t (Some r) u → Replays m degree t es (Err r) u es
  replay_refused es (kept e) = refused e

  pub past_none : {t u : Tables G} → Clears m t None u → Past m degree (count t) (length t.rules) [] u
  past_none (clears e) = fresh

  pub past_more : {n p : ℕ} {t u : Tables G} (es : List (Entry G)) (i : ℕ) (c : Call G) (f : Entry G) → i < length es → f.call ≡ c → Past m degree n p (reverse (take i es)) t → Outcome m degree c t f.answer u → Past m degree n p (reverse (take (i + 1) (set es i f))) u
  past_more {n} {p} {t} {u} es i c f h same past out =
      let P : List (Entry G) → Type 0 = λ l. Past m degree n p l u in
      let Q : Call G → Type 0 = λ x. Outcome m degree x t f.answer u in
      subst P (sym (newest es i f h)) (later past (subst Q (sym same) out))

  pub replay_done : {n p : ℕ} (laws : Laws m) (t u : Tables G) (before after : List (Entry G)) (i : ℕ) → first (length_checks t) ≡ None → n ≡ count t → p ≡ length t.rules → length after ≤ i → calls after ≡ calls before → Past m degree n p (reverse (take i after)) u → Replays m degree t before (Ok tt) u after
  replay_done laws t u before after i ok counts places all same past =
      let P : List (Entry G) → Type 0 = λ l. Past m degree (count t) (length t.rules) (reverse l) u in
      let whole : P after = subst P (take_all i after all) (subst₂ (λ n p. Past m degree n p (reverse (take i after)) u) counts places past) in
      replayed ok (record { same_calls = same; past = whole; promise = keeps_its_promise laws degree _ _ _ _ whole })
