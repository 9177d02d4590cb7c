-- Which key of a MIDI device is pressed.
use Rattle.std.specs.Prelude.{ℕ, Bool, true, false, ◌&&◌, ◌||◌, if◌then◌else◌, Option, None, Some, nat_eq, nat_le}
use Rattle.cue_midi.specs.declared.heard.Heard.{Heard}
use Rattle.cue_midi.specs.declared.heard.Heard.TheVariants as heard
use Rattle.cue_presses.specs.declared.keys.Key.{Key}
use Rattle.cue_presses.specs.declared.keys.Key.TheVariants as key
use Rattle.cue_presses.specs.declared.keys.Keys.{Keys}
use Rattle.cue_presses.specs.declared.keys.Pedal.{Pedal}
use Rattle.cue_presses.specs.declared.keys.Pedal.TheVariants as pedal
use Rattle.cue_presses.specs.declared.keys.Pedals.{Pedals}
use Rattle.cue_presses.specs.declared.keys.TheConstants.{PRESSED}
use Rattle.cue_presses.specs.declared.intent.Intent.{Intent}
use Rattle.cue_presses.specs.declared.intent.Intent.TheVariants as intent

-- a note is pressed when it is struck
abbrev pub is_note : ℕ → Heard → Bool
is_note n (heard.NoteOn channel note velocity) = nat_eq note n
is_note n _ = false

-- the pedal was let go
abbrev pub is_up : Pedal → Bool
is_up pedal.Up = true
is_up _ = false

-- a controller is pressed when it rises: it was heard to be let go before
abbrev pub rises : ℕ → Pedal → Heard → Bool
rises n p (heard.Controller channel number value) = (nat_eq number n && nat_le PRESSED value) && is_up p
rises n p _ = false

abbrev pub is_pressed : Key → Pedal → Heard → Bool
is_pressed (key.Note n) p h = is_note n h
is_pressed (key.Controller n) p h = rises n p h

-- a pedal is down from 64 on
abbrev pub pedal_at : ℕ → Pedal
pedal_at value = if nat_le PRESSED value then pedal.Down else pedal.Up

abbrev pub moved : ℕ → Pedal → Heard → Pedal
moved n p (heard.Controller channel number value) = if nat_eq number n then pedal_at value else p
moved n p _ = p

abbrev pub pedal_after : Key → Pedal → Heard → Pedal
pedal_after (key.Note n) p h = p
pedal_after (key.Controller n) p h = moved n p h

-- of a device that is opened nothing was heard
abbrev pub unheard : Pedals
unheard = record { standby = pedal.Unheard; go = pedal.Unheard; cancel = pedal.Unheard }

-- what is wished by what is heard: the first of the three keys that is pressed
abbrev pub intent_of : Keys → Pedals → Heard → Option Intent
intent_of k p h =
    if is_pressed k.standby p.standby h then Some (intent.Standby None)
    else if is_pressed k.go p.go h then Some (intent.Go None)
    else if is_pressed k.cancel p.cancel h then Some intent.Cancel else None

-- how the keys stand then
abbrev pub pedals_after : Keys → Pedals → Heard → Pedals
pedals_after k p h =
    record {
      standby = pedal_after k.standby p.standby h;
      go = pedal_after k.go p.go h;
      cancel = pedal_after k.cancel p.cancel h;
    }

-- the first that is heard of a controller, at 64 or more
abbrev pub begins_down : ℕ → Pedal → Heard → Bool
begins_down n pedal.Unheard (heard.Controller channel number value) = nat_eq number n && nat_le PRESSED value
begins_down n _ _ = false

abbrev pub is_first : Key → Pedal → Heard → Bool
is_first (key.Note n) p h = false
is_first (key.Controller n) p h = begins_down n p h

abbrev pub is_first_of_keys : Keys → Pedals → Heard → Bool
is_first_of_keys k p h = (is_first k.standby p.standby h || is_first k.go p.go h) || is_first k.cancel p.cancel h

-- ---- other keys

abbrev pub is_controller : ℕ → Heard → Bool
is_controller n (heard.Controller channel number value) = nat_eq number n
is_controller n _ = false

-- it is of the key, pressed or not
abbrev pub is_of : Key → Heard → Bool
is_of (key.Note n) h = is_note n h
is_of (key.Controller n) h = is_controller n h

abbrev pub is_of_keys : Keys → Heard → Bool
is_of_keys k h = (is_of k.standby h || is_of k.go h) || is_of k.cancel h
