-- What a step does to one mark.
use Rattle.std.proofs.Common.{◌≡◌, ℕ, ◌≤◌, Bool, true, false, cond, refl, ap, arith}
use Rattle.std.proofs.lemmas.Bool.{cond_both, false≢true, true≢false}
use Rattle.pasts.specs.Marks.{answered, active, open_mark}
use Rattle.pasts.specs.declared.statement.Mark.{Mark}
use Rattle.pasts.specs.declared.statement.Mark.TheVariants.{Unopened, Quiet, Active}
use Rattle.pasts.specs.declared.statement.Event.{Event}
use Rattle.pasts.specs.declared.statement.Event.TheVariants.{Wanted, Opened, SonRose, Taken}

-- the mark after a step: whether it was taken, is a son of the one taken, is told that a son rose
abbrev pub heard_by : Mark → Bool → Bool → Bool → Mark
heard_by x mine son told =
    let taken = cond mine (answered x Taken) x in
    let opened = cond son (answered taken Opened) taken in
    cond told (answered opened SonRose) opened

pub stays_open : (x : Mark) (e : Event) → open_mark x ≡ true → open_mark (answered x e) ≡ true
stays_open Unopened e h = absurd (false≢true h)
stays_open Quiet Wanted h = refl
stays_open Quiet Opened h = refl
stays_open Quiet SonRose h = refl
stays_open Quiet Taken h = refl
stays_open Active Wanted h = refl
stays_open Active Opened h = refl
stays_open Active SonRose h = refl
stays_open Active Taken h = refl

pub open_after : (x : Mark) (mine son told : Bool) → open_mark x ≡ true → open_mark (heard_by x mine son told) ≡ true
open_after x mine son told h =
    let P : Mark → Type 0 = λ y. open_mark y ≡ true in
    let e : Event → (y : Mark) → Bool → Mark = λ v y b. cond b (answered y v) y in
    let on : (v : Event) (y : Mark) (b : Bool) → P y → P (e v y b) = λ v y b p. cond_both b (answered y v) y P (λ _. stays_open y v p) (λ _. p) in
    on SonRose _ told (on Opened _ son (on Taken x mine h))

-- a son of the one taken is open
pub son_open : (x : Mark) (mine told : Bool) → open_mark (heard_by x mine true told) ≡ true
son_open Unopened true true = refl
son_open Unopened true false = refl
son_open Unopened false true = refl
son_open Unopened false false = refl
son_open Quiet mine told = open_after Quiet mine true told refl
son_open Active mine told = open_after Active mine true told refl

-- what may still be taken before a son rises
abbrev pub pending : Mark → ℕ
pending Unopened = 1
pending Quiet = 0
pending Active = 1

pub pending_le : (x : Mark) → pending x ≤ 1
pending_le Unopened = omega arith
pending_le Quiet = omega arith
pending_le Active = omega arith

-- one that is neither taken nor told
pub pending_kept : (x : Mark) (son : Bool) → pending (heard_by x false son false) ≡ pending x
pending_kept Unopened true = refl
pending_kept Unopened false = refl
pending_kept Quiet true = refl
pending_kept Quiet false = refl
pending_kept Active true = refl
pending_kept Active false = refl

pub pending_taken : (son : Bool) → pending (heard_by Active true son false) ≡ 0
pending_taken true = refl
pending_taken false = refl

pub is_active : (x : Mark) → active x ≡ true → x ≡ Active
is_active Unopened h = absurd (false≢true h)
is_active Quiet h = absurd (false≢true h)
is_active Active h = refl

pub active_open : (x : Mark) → active x ≡ true → open_mark x ≡ true
active_open Unopened h = absurd (false≢true h)
active_open Quiet h = absurd (false≢true h)
active_open Active h = refl

pub quiet_if : (x : Mark) → open_mark x ≡ true → active x ≡ false → x ≡ Quiet
quiet_if Unopened h a = absurd (false≢true h)
quiet_if Quiet h a = refl
quiet_if Active h a = absurd (true≢false a)

pub quiet_open : (x : Mark) → x ≡ Quiet → open_mark x ≡ true
quiet_open x e = ap open_mark e

-- which events leave a mark quiet
pub quiet_wanted : (x : Mark) → answered x Wanted ≡ Quiet → x ≡ Quiet
quiet_wanted Unopened e = absurd (true≢false (ap active e))
quiet_wanted Quiet e = refl
quiet_wanted Active e = e

pub quiet_opened : (x : Mark) → answered x Opened ≡ Quiet → x ≡ Quiet
quiet_opened Unopened e = absurd (true≢false (ap active e))
quiet_opened Quiet e = refl
quiet_opened Active e = e

pub quiet_told : (x : Mark) → answered x SonRose ≡ Quiet → ⊥
quiet_told Unopened e = false≢true (ap open_mark e)
quiet_told Quiet e = true≢false (ap active e)
quiet_told Active e = true≢false (ap active e)

-- one that a step leaves quiet was not told, and if it was not taken it was quiet before
pub quiet_untold : (x : Mark) (mine son told : Bool) → heard_by x mine son told ≡ Quiet → told ≡ false
quiet_untold x mine son true e = absurd (quiet_told _ e)
quiet_untold x mine son false e = refl

pub quiet_before : (x : Mark) (son told : Bool) → heard_by x false son told ≡ Quiet → x ≡ Quiet
quiet_before x son true e = absurd (quiet_told _ e)
quiet_before x true false e = quiet_opened x e
quiet_before x false false e = e

pub wanted_opens : (x : Mark) → open_mark (answered x Wanted) ≡ true
wanted_opens Unopened = refl
wanted_opens Quiet = refl
wanted_opens Active = refl
