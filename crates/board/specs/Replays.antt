-- What a replay of entries leaves. Assumes nothing.
--     calls es                            the calls of the entries es
--     Replayed m degree n p before after u    the entries' calls are as they were; newest first the entries are a past on n statements and
--                                         p places that left u, and what a board promises after a past holds of u
--     Replays m degree t before r u after     a replay on the tables t is refused as a clear is, and then nothing is changed, or else is done
use Rattle.std.specs.Prelude.{◌≡◌, ℕ, List, map, reverse, length, Some, None, Ok, Err, Result}
use Rattle.scales.specs.Meaning.{Meaning}
use Rattle.pasts.specs.Refusals.{first}
use Rattle.pasts.specs.Tables.{Tables, count, length_checks}
use Rattle.pasts.specs.Pasts.{Past}
use Rattle.pasts.specs.Promises.{Promise}
use Rattle.pasts.specs.declared.call.Call.{Call}
use Rattle.pasts.specs.declared.call.Entry.{Entry}
use Rattle.pasts.specs.declared.refusal.Refusal.{Refusal}

module _ {G : Type 0} where
  abbrev pub calls : List (Entry G) → List (Call G)
  calls es = map (λ e. e.call) es

module _ {G : Type 0} (m : Meaning G) (degree : ℕ → G) where
  pub record Replayed (n p : ℕ) (before after : List (Entry G)) (u : Tables G) : Type 0 where
    pub same_calls : calls after ≡ calls before
    pub past : Past m degree n p (reverse after) u
    pub promise : Promise m degree n p (reverse after) u

  pub data Replays (t : Tables G) (before : List (Entry G)) : Result (Unit {0}) Refusal → Tables G → List (Entry G) → Type 0 where
    refused : {r : Refusal} → first (length_checks t) ≡ Some r → Replays t before (Err r) t before
    replayed : {u : Tables G} {after : List (Entry G)} → first (length_checks t) ≡ None → Replayed (count t) (length t.rules) before after u → Replays t before (Ok tt) u after
