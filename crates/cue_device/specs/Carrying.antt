-- A device that moves for a number, or has moved: what may happen to it that gives it no reason to abort.
use Rattle.std.specs.Prelude.{◌≡◌, ◌≢◌, ◌≤◌, ℕ, Bool, true, false, List, Option, Some, nat_eq}
use Rattle.std.specs.List.{AllByRecursion, list_any}
use Rattle.cue_device.specs.declared.asked.Task.{Task}
use Rattle.cue_device.specs.declared.hearing.Device.{Device}
use Rattle.cue_device.specs.declared.hearing.Told.{Told}
use Rattle.cue_device.specs.declared.hearing.Told.TheVariants.{Prepared, Moved, GaveUp, Cannot}
use Rattle.cue_device.specs.declared.phase.Attempt.{Attempt}
use Rattle.cue_device.specs.declared.words.Answer.{Answer}
use Rattle.cue_device.specs.declared.words.Answer.TheVariants.{StandingBy, Complete, Cancelled, Abort}
use Rattle.cue_device.specs.Copies.{is_in_motion, is_of}
use Rattle.cue_device.specs.Hearing.{seq_of}
use Rattle.cue_device.specs.Histories.{Happening, hears, tells, repeats, hears_reply, restarts, answers_of}

-- the machine can go on in the attempt q
abbrev pub CanGoOn : ℕ → Told → Type 0
CanGoOn q (Prepared p) = Unit {0}
CanGoOn q (Moved p) = Unit {0}
CanGoOn q (GaveUp p) = Unit {0}
CanGoOn q (Cannot p) = p ≢ q

-- It gives no reason to abort the attempt q: an order of the controller has no higher number, and for this one the same
-- task; the machine can go on; the device does not restart.
abbrev pub IsHarmless : ℕ → Option Task → Happening → Type 0
IsHarmless q task (hears c) = (seq_of c ≤ q) × (seq_of c ≡ q → is_of task c ≡ true)
IsHarmless q task (tells t) = CanGoOn q t
IsHarmless q task repeats = Unit {0}
IsHarmless q task hears_reply = Unit {0}
IsHarmless q task (restarts n) = ⊥

-- the answer is an abort for q
abbrev pub is_abort : ℕ → Answer → Bool
is_abort q (StandingBy p) = false
is_abort q (Complete p) = false
is_abort q (Cancelled p) = false
is_abort q (Abort p) = nat_eq p q

-- it answered an abort for q
abbrev pub has_aborted : ℕ → List Answer → Bool
has_aborted q xs = list_any (is_abort q) xs

-- What it carries out it does not abort: it moves for q, or has moved, and has nothing to repeat. Whatever happens then
-- that gives it no reason, in any order and however often, it answers no abort for q. So a device that did all that it
-- was ordered fails no cue, whatever the network repeats, delays or loses.
abbrev pub CarriesOut : Type 0
CarriesOut = (d : Device) (a : Attempt) (q : ℕ) (hs : List Happening) → d.last ≡ q → d.attempt ≡ Some a
    → is_in_motion a.phase ≡ true → d.unheard ≡ false → AllByRecursion (λ h. IsHarmless q a.task h) hs
    → has_aborted q (answers_of d hs) ≡ false
