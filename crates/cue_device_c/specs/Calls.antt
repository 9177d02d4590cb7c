-- What a call of C makes of the numbers: what the library's call makes of the device that they stand for.
use Rattle.std.specs.Prelude.{◌≡◌, ℕ, Bool, true, false, List, [], take, Option, Some, None, Result, Ok, Err, nat_eq}
use Rattle.cue_device.specs.declared.asked.Command.{Command}
use Rattle.cue_device.specs.declared.hearing.Device.{Device}
use Rattle.cue_device.specs.declared.hearing.ReportFault.{ReportFault}
use Rattle.cue_device.specs.declared.hearing.Told.{Told}
use Rattle.cue_device.specs.declared.words.Answer.{Answer}
use Rattle.cue_device.specs.declared.words.Order.{Order}
use Rattle.cue_device.specs.Datagrams.{answered_text, HearsDatagram, IsFor, IsForNone}
use Rattle.cue_device.specs.Hearing.{after_call, answer_call, answer_ticked, device_at_rest, device_restarted}
use Rattle.cue_device.specs.Hearing.{reported_for}
use Rattle.cue_device_c.specs.Codes.{order_code}
use Rattle.cue_device_c.specs.State.{device_of, is_heard, no_place, numbers_of}
use Rattle.cue_device_c.specs.declared.codes.TheConstants.{BAD_CALL}
use Rattle.cue_device_c.specs.declared.state.CueDevice.{CueDevice}
use Rattle.cue_device_c.specs.declared.state.CuePlace.{CuePlace}
use Rattle.cue_device_c.specs.declared.answer.CueAnswer.{CueAnswer}

-- the bytes that are to be sent
abbrev pub sent_bytes : CueAnswer → List ℕ
sent_bytes answer = take answer.length answer.bytes

-- it was no call: nothing changes, and nothing is sent
pub record IsNoCall (old new : CueDevice) (answer : CueAnswer) (given : ℕ) : Type 0 where
  pub state : new ≡ old
  pub silent : sent_bytes answer ≡ []
  pub result : given ≡ BAD_CALL

-- ---- a device is made

-- it is made for a new store
pub record IsMade (number : ℕ) (new : CueDevice) (given : ℕ) : Type 0 where
  pub state : new ≡ numbers_of (device_at_rest number 0) no_place no_place
  pub result : given ≡ 0

-- it is made after a restart, with what was kept: its last number, and where that came from
pub record IsRestarted (number kept : ℕ) (from : CuePlace) (new : CueDevice) (given : ℕ) : Type 0 where
  pub state : new ≡ numbers_of (device_restarted number kept) from no_place
  pub result : given ≡ 0

-- ---- the machine reports

-- the machine of the device d has reported this, and this is answered
pub record DeviceTells (told : Told) (d : Device) (said : Option Answer) (old new : CueDevice) (answer : CueAnswer)
    (given : ℕ) : Type 0 where
  pub state : new ≡ numbers_of (after_call told d) old.controller old.only
  pub answered : sent_bytes answer ≡ answered_text new.number said
  pub to : answer.to ≡ old.controller
  pub result : given ≡ 0

-- in time, or at another time
abbrev pub Reports : Result (Option Answer) ReportFault → Told → Device → CueDevice → CueDevice → CueAnswer → ℕ
    → Type 0
Reports (Ok said) told d old new answer given = DeviceTells told d said old new answer given
Reports (Err fault) told d old new answer given = IsNoCall old new answer given

-- it reports if the numbers stand for a device: of the number for which it may
abbrev pub TellsOf : Option Device → (ℕ → Told) → CueDevice → CueDevice → CueAnswer → ℕ → Type 0
TellsOf None what old new answer given = IsNoCall old new answer given
TellsOf (Some d) what old new answer given =
    Reports (answer_call (what (reported_for d)) d) (what (reported_for d)) d old new answer given

-- the machine reports
abbrev pub Tells : (ℕ → Told) → CueDevice → CueDevice → CueAnswer → ℕ → Type 0
Tells what old new answer given = TellsOf (device_of old) what old new answer given

-- The machine reports the end of the order that has this number: while it does another one, or none, it is no call.
abbrev pub EndsIf : Bool → (ℕ → Told) → CueDevice → CueDevice → CueAnswer → ℕ → Type 0
EndsIf false what old new answer given = IsNoCall old new answer given
EndsIf true what old new answer given = Tells what old new answer given

abbrev pub Ends : ℕ → (ℕ → Told) → CueDevice → CueDevice → CueAnswer → ℕ → Type 0
Ends order what old new answer given = EndsIf (nat_eq old.doing order) what old new answer given

-- ---- a datagram comes

-- where the last order came from, once this datagram came from there: an order changes it, nothing else does
pub record IsController (datagram : List ℕ) (number : ℕ) (from before after : CuePlace) : Type 0 where
  pub of_order : (c : Command) → IsFor number datagram c → after ≡ from
  pub of_other : IsForNone number datagram → after ≡ before

-- the device d hears a datagram
pub record DeviceHears (datagram : List ℕ) (from : CuePlace) (d : Device) (old new : CueDevice) (answer : CueAnswer)
    (given : ℕ) : Type 0 where
  pub after : Device
  pub order : Option Order
  pub heard : HearsDatagram datagram d after order (sent_bytes answer)
  pub controller : IsController datagram d.number from old.controller new.controller
  pub state : new ≡ numbers_of after new.controller old.only
  pub to : answer.to ≡ new.controller
  pub result : given ≡ order_code order

-- nothing is made of a datagram
pub record PassesOver (old new : CueDevice) (answer : CueAnswer) (given : ℕ) : Type 0 where
  pub state : new ≡ old
  pub silent : sent_bytes answer ≡ []
  pub result : given ≡ 0

-- from a sender that is heard, or from another
abbrev pub HearsFrom : Bool → List ℕ → CuePlace → Device → CueDevice → CueDevice → CueAnswer → ℕ → Type 0
HearsFrom true datagram from d old new answer given = DeviceHears datagram from d old new answer given
HearsFrom false datagram from d old new answer given = PassesOver old new answer given

-- it hears if the numbers stand for a device
abbrev pub HearsOf : Option Device → List ℕ → CuePlace → CueDevice → CueDevice → CueAnswer → ℕ → Type 0
HearsOf None datagram from old new answer given = IsNoCall old new answer given
HearsOf (Some d) datagram from old new answer given =
    HearsFrom (is_heard old.only from) datagram from d old new answer given

-- a datagram comes
abbrev pub Hears : List ℕ → CuePlace → CueDevice → CueDevice → CueAnswer → ℕ → Type 0
Hears datagram from old new answer given = HearsOf (device_of old) datagram from old new answer given

-- ---- the rest

-- a sender is named: from now on the device hears it alone
pub record IsNamed (d : Device) (sender : CuePlace) (old new : CueDevice) (given : ℕ) : Type 0 where
  pub state : new ≡ numbers_of d old.controller sender
  pub result : given ≡ 0

-- if the numbers stand for a device
abbrev pub NamesOf : Option Device → CuePlace → CueDevice → CueDevice → ℕ → Type 0
NamesOf None sender old new given = (new ≡ old) × (given ≡ BAD_CALL)
NamesOf (Some d) sender old new given = IsNamed d sender old new given

-- a sender is named
abbrev pub Names : CuePlace → CueDevice → CueDevice → ℕ → Type 0
Names sender old new given = NamesOf (device_of old) sender old new given

-- time has passed for the device d: what is sent again
pub record DeviceTicks (d : Device) (now : CueDevice) (answer : CueAnswer) (given : ℕ) : Type 0 where
  pub answered : sent_bytes answer ≡ answered_text d.number (answer_ticked d)
  pub to : answer.to ≡ now.controller
  pub result : given ≡ 0

-- time has passed if the numbers stand for a device
abbrev pub TicksOf : Option Device → CueDevice → CueAnswer → ℕ → Type 0
TicksOf None now answer given = IsNoCall now now answer given
TicksOf (Some d) now answer given = DeviceTicks d now answer given

-- time has passed
abbrev pub Ticks : CueDevice → CueAnswer → ℕ → Type 0
Ticks now answer given = TicksOf (device_of now) now answer given
