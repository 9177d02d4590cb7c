-- What the definitions of this crate come to.
use Rattle.std.specs.Prelude.{◌≡◌, ℕ, ◌-◌, ◌+◌, ◌<◌, ◌≤◌, ◌^◌, Bool, false, not, ◌&&◌, List, [], ◌∷◌, IsTrue}
use Rattle.std.specs.Prelude.{Option, None, Some, Ok, nat_eq, nat_le, count_by}
use Rattle.std.specs.List.{list_any}
use Rattle.cue_exchange.specs.Answers.{is_preparing}
use Rattle.cue_midi.specs.declared.heard.Heard.{Heard}
use Rattle.cue_midi.specs.declared.heard.Heard.TheVariants as heard
use Rattle.cue_view.specs.declared.view.View.{View}
use Rattle.cue_presses.specs.Keys.{intent_of, pedal_after}
use Rattle.cue_presses.specs.Meaning.{meaning}
use Rattle.cue_presses.specs.Settling.{is_over, read}
use Rattle.cue_presses.specs.declared.intent.Intent.{Intent}
use Rattle.cue_presses.specs.declared.intent.Intent.TheVariants as intent
use Rattle.cue_presses.specs.declared.keys.Key.{Key}
use Rattle.cue_presses.specs.declared.keys.Keys.{Keys}
use Rattle.cue_presses.specs.declared.keys.Pedal.{Pedal}
use Rattle.cue_presses.specs.declared.keys.Pedal.TheVariants as pedal
use Rattle.cue_presses.specs.declared.keys.Pedals.{Pedals}
use Rattle.cue_presses.specs.declared.keys.TheConstants.{PRESSED}
use Rattle.cue_presses.specs.declared.pressing.Press.{Press}
use Rattle.cue_presses.specs.declared.settling.Settling.{Settling}
use Rattle.cue_presses.specs.declared.settling.TheConstants.{AWAY_MS}

-- ---- controllers

-- how a key stands after all that was heard since the device was opened, the newest first
abbrev pub pedal_of : Key → List Heard → Pedal
pedal_of k [] = pedal.Unheard
pedal_of k (h ∷ past) = pedal_after k (pedal_of k past) h

abbrev pub pedals_of : Keys → List Heard → Pedals
pedals_of k past =
    record {
      standby = pedal_of k.standby past;
      go = pedal_of k.go past;
      cancel = pedal_of k.cancel past;
    }

-- a value below 64 of the controller with this number
abbrev pub is_let_go : ℕ → Heard → Bool
is_let_go n (heard.Controller channel number value) = nat_eq number n && not (nat_le PRESSED value)
is_let_go n _ = false

-- A controller presses only after it was heard to be let go, since the device was opened.
abbrev pub PressedAfterLetGo : Type 0
PressedAfterLetGo =
    (k : Keys) (past : List Heard) (channel n value : ℕ) (i : Intent)
    → intent_of k (pedals_of k past) (heard.Controller channel n value) ≡ Some i
    → IsTrue (list_any (is_let_go n) past)

-- ---- no race

-- A GO that names no cue, where none is chosen, presses only while exactly one attempt stands by: whoever is ready
-- first decides nothing.
abbrev pub GoIsNoRace : Type 0
GoIsNoRace =
    (v : View) (passed : Option ℕ) (press : Press) → v.chosen ≡ None
    → meaning v passed (intent.Go None) ≡ Ok press
    → count_by (λ a. is_preparing a.stage) v.live.items ≡ 1

-- ---- what waited

-- What presses was not there yet a second ago: since then a read has found nothing, and after the settling began.
pub record IsYoung (s : Settling) (now : ℕ) : Type 0 where
  pub settled : s.from ≤ s.empty
  pub young : now ≤ s.empty + AWAY_MS

abbrev pub PressIsYoung : Type 0
PressIsYoung = (s : Settling) (now : ℕ) → now < 2 ^ 64 - 1 → IsTrue (is_over (read s now)) → IsYoung s now
