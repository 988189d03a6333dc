-- After every past the whole promise holds.
use Rattle.std.proofs.Common.{ℕ}
use Rattle.scales.specs.Meaning.{Meaning}
use Rattle.scales.specs.Laws.{Laws}
use Rattle.pasts.specs.Promises.{KeepsItsPromise}
use Rattle.pasts.proofs.Bounded.{finish_is_bounded}
use Rattle.pasts.proofs.Counted.{finish_counts}
use Rattle.pasts.proofs.Exists.{some_outcome}
use Rattle.pasts.proofs.Fits.{finish_fits}
use Rattle.pasts.proofs.Local.{withdraw_is_local, add_is_local, want_is_local, wakes}
use Rattle.pasts.proofs.Numbered.{refusals_are_rows}
use Rattle.pasts.proofs.Refusing.{rows_are_refused}
use Rattle.pasts.proofs.Ordered.{refusals_are_due, due_is_refused}
use Rattle.pasts.proofs.Once.{one_outcome}
use Rattle.pasts.proofs.Served.{wants_are_served}
use Rattle.pasts.proofs.Shelves.{keeps_its_shelf}
use Rattle.pasts.proofs.Sounds.{stays_sound}
use Rattle.pasts.proofs.Usables.{stays_usable, read_is_settled}

pub keeps_its_promise : {G : Type 0} {m : Meaning G} (laws : Laws m) (degree : ℕ → G) → KeepsItsPromise m degree
keeps_its_promise {m = m} laws degree n p h t past = record {
  sound = stays_sound laws degree n p h t past;
  usable = stays_usable laws degree n p h t past;
  shelf = keeps_its_shelf laws degree n p h t past;
  settles = read_is_settled laws degree n p h t past;
  serves = wants_are_served laws degree n p h t past;
  some_outcome = some_outcome laws degree t;
  one_outcome = one_outcome m degree t;
  refusals_rows = refusals_are_rows m degree t;
  rows_refused = rows_are_refused m degree t;
  refusals_due = refusals_are_due m degree t;
  due_refused = due_is_refused m t;
  add_local = add_is_local m degree t;
  withdraw_local = withdraw_is_local m degree t;
  want_local = want_is_local m degree t;
  wakes = wakes m degree t;
  finish_bounded = finish_is_bounded laws degree t;
  finish_counts = finish_counts m degree t;
  finish_fits = finish_fits laws degree t;
}
