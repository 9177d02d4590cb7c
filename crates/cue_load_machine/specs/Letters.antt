-- The messages of a load.
use Rattle.std.specs.Prelude.{◌≡◌, ◌⊎◌, ℕ, pos, Bool, true, false, List, [], ◌∷◌, length, map, take, Ok}
use Rattle.cue_osc.specs.Argument.{int, text}
use Rattle.cue_osc.specs.Content.{Content, bundle, contents_of, message}
use Rattle.cue_osc.specs.Reading.{datagram_at}
use Rattle.cue_operator.specs.Methods.{address_of}
use Rattle.cue_operator.specs.declared.method.CueVerb.TheVariants as verb
use Rattle.cue_operator.specs.declared.method.DeviceVerb.TheVariants as on_device
use Rattle.cue_operator.specs.declared.method.Method.{Method}
use Rattle.cue_operator.specs.declared.method.Method.TheVariants as method
use Rattle.cue_desk.specs.declared.asking.Asked.{Asked}
use Rattle.cue_desk.specs.declared.asking.Asked.TheVariants as asked
use Rattle.cue_desk.specs.Asks.{IsUnwritable, flagged_parts, is_askable, method_of}
use Rattle.cue_desk.specs.Loading.{cue_message, device_message, message_of}
use Rattle.cue_ask_machine.specs.declared.letters.Letter.{Letter}
use Rattle.cue_loading.specs.declared.step.Step.{Step}
use Rattle.cue_loading.specs.declared.step.Step.TheVariants as step
use Rattle.cue_show_file.specs.declared.file.CueEntry.{CueEntry}
use Rattle.cue_show_file.specs.declared.file.DeviceEntry.{DeviceEntry}
use Rattle.cue_show_file.specs.declared.mistake.Subject.{Subject}
use Rattle.cue_show_file.specs.declared.mistake.Subject.TheVariants as subject
use Rattle.cue_load_machine.specs.declared.asks.Ask.{Ask}
use Rattle.cue_load_machine.specs.declared.asks.Form.TheVariants as form
use Rattle.cue_load_machine.specs.declared.asks.Refusal.{Refusal}
use Rattle.cue_load_machine.specs.declared.asks.Refusal.TheVariants as refusal
use Rattle.cue_load_machine.specs.declared.machine.LoadMachine.{LoadMachine}
use Rattle.cue_load_machine.specs.Lives.{IsNew}
use Rattle.cue_load_machine.specs.Steps.{state_of}

-- it is the status that is asked
abbrev pub is_status : Asked → Bool
is_status asked.Status = true
is_status _ = false

-- The bytes are the one message that asks it, and its reply is known by the first 64 bytes of its address.
pub record IsLetterOf (a : Asked) (l : Letter) : Type 0 where
  pub asks : datagram_at l.message.items ≡ Ok (message_of a)
  pub shows : l.shown.items ≡ take 64 (address_of (method_of a))
  pub count : l.count ≡ 1
  pub status : l.is_status ≡ is_status a

-- it is asked alone
pub record IsAskOf (a : Asked) (f : Refusal) (ask : Ask) : Type 0 where
  pub letter : IsLetterOf a ask.letter
  pub form : ask.form ≡ form.Alone
  pub refusal : ask.refusal ≡ f

-- it has a number or parts that there are not, or OSC has no datagram for it
abbrev pub IsUnaskable : Asked → Type 0
IsUnaskable a = (is_askable a ≡ false) ⊎ IsUnwritable (message_of a)

-- What would ask this cannot be asked.
pub record CannotBeSaid (said : Content) : Type 0 where
  pub asked : Asked
  pub says : message_of asked ≡ said
  pub unaskable : IsUnaskable asked

-- ---- a step of a plan

-- at which address a step is asked, with which arguments
abbrev pub method_of_step : Step → Method
method_of_step (step.AddDevice d port) = method.AddDevice
method_of_step (step.RemoveDevice d) = method.OfDevice d on_device.Remove
method_of_step (step.AddCue c parts) = method.AddMixedCue
method_of_step (step.RemoveCue c) = method.OfCue c verb.Remove
method_of_step (step.MovePlace c) = method.OfCue c verb.Goto

abbrev pub message_of_step : Step → Content
message_of_step (step.AddDevice d port) =
    message (address_of (method_of_step (step.AddDevice d port))) (int (pos d) ∷ int (pos port) ∷ [])
message_of_step (step.AddCue c parts) =
    message (address_of (method_of_step (step.AddCue c parts))) (text c ∷ flagged_parts parts)
message_of_step (step.RemoveDevice d) = message (address_of (method_of_step (step.RemoveDevice d))) []
message_of_step (step.RemoveCue c) = message (address_of (method_of_step (step.RemoveCue c))) []
message_of_step (step.MovePlace c) = message (address_of (method_of_step (step.MovePlace c))) []

abbrev pub IsUnaskableStep : Step → Type 0
IsUnaskableStep s = CannotBeSaid (message_of_step s)

-- it takes something away
abbrev pub removes : Step → Bool
removes (step.AddDevice d port) = false
removes (step.RemoveDevice d) = true
removes (step.AddCue c parts) = false
removes (step.RemoveCue c) = true
removes (step.MovePlace c) = false

-- what it is about
abbrev pub subject_of : Step → Subject
subject_of (step.AddDevice d port) = subject.Device d
subject_of (step.RemoveDevice d) = subject.Device d
subject_of (step.AddCue c parts) = subject.Cue c
subject_of (step.RemoveCue c) = subject.Cue c
subject_of (step.MovePlace c) = subject.Cue c

-- if it is refused, the load stops; but what is not there is removed
abbrev pub refusal_of_step : Step → Refusal
refusal_of_step (step.AddDevice d port) = refusal.Stops
refusal_of_step (step.RemoveDevice d) = refusal.StopsUnlessGone
refusal_of_step (step.AddCue c parts) = refusal.Stops
refusal_of_step (step.RemoveCue c) = refusal.StopsUnlessGone
refusal_of_step (step.MovePlace c) = refusal.Stops

-- The bytes are the one message that asks this step; its reply is known by its address.
pub record IsAskOfStep (s : Step) (ask : Ask) : Type 0 where
  pub asks : datagram_at ask.letter.message.items ≡ Ok (message_of_step s)
  pub shows : ask.letter.shown.items ≡ take 64 (address_of (method_of_step s))
  pub count : ask.letter.count ≡ 1
  pub status : ask.letter.is_status ≡ false
  pub form : ask.form ≡ form.Alone
  pub refusal : ask.refusal ≡ refusal_of_step s

-- ---- several at once

-- these bytes ask so many things at an address, whatever is refused
pub record IsTogether (address message : List ℕ) (count : ℕ) (ask : Ask) : Type 0 where
  pub same : ask.letter.message.items ≡ message
  pub shows : ask.letter.shown.items ≡ address
  pub one : ask.letter.count ≡ 1
  pub status : ask.letter.is_status ≡ false
  pub form : ask.form ≡ form.Together count
  pub refusal : ask.refusal ≡ refusal.GoesOn

-- the bytes are one bundle of these messages, each at this address
pub record AsksForAll (address : List ℕ) (messages : List Content) (count : ℕ) (ask : Ask) : Type 0 where
  pub asks : datagram_at ask.letter.message.items ≡ Ok (bundle 1 (contents_of messages))
  pub shows : ask.letter.shown.items ≡ address
  pub one : ask.letter.count ≡ 1
  pub status : ask.letter.is_status ≡ false
  pub form : ask.form ≡ form.Together count
  pub refusal : ask.refusal ≡ refusal.GoesOn

abbrev pub AsksForDevices : List DeviceEntry → Ask → Type 0
AsksForDevices entries ask =
    AsksForAll (address_of method.AddDevice) (map device_message entries) (length entries) ask

abbrev pub AsksForCues : List CueEntry → Ask → Type 0
AsksForCues entries ask = AsksForAll (address_of method.AddMixedCue) (map cue_message entries) (length entries) ask

-- OSC has no datagram for all of these
abbrev pub AreTooMany : List Content → Type 0
AreTooMany messages = IsUnwritable (bundle 1 (contents_of messages))

abbrev pub AreTooManyDevices : List DeviceEntry → Type 0
AreTooManyDevices entries = AreTooMany (map device_message entries)

abbrev pub AreTooManyCues : List CueEntry → Type 0
AreTooManyCues entries = AreTooMany (map cue_message entries)

abbrev pub IsUnaskableDevice : DeviceEntry → Type 0
IsUnaskableDevice e = CannotBeSaid (device_message e)

abbrev pub IsUnaskableCue : CueEntry → Type 0
IsUnaskableCue e = CannotBeSaid (cue_message e)

-- and these ask for one of them alone; whatever is refused, the load goes on
abbrev pub AsksForOne : Method → Content → Ask → Type 0
AsksForOne m said ask =
    (datagram_at ask.letter.message.items ≡ Ok said) × (ask.letter.shown.items ≡ take 64 (address_of m))
    × (ask.letter.count ≡ 1) × (ask.letter.is_status ≡ false) × (ask.form ≡ form.Alone)
    × (ask.refusal ≡ refusal.GoesOn)

abbrev pub AsksForDevice : DeviceEntry → Ask → Type 0
AsksForDevice e ask = AsksForOne method.AddDevice (device_message e) ask

abbrev pub AsksForCue : CueEntry → Ask → Type 0
AsksForCue e ask = AsksForOne method.AddMixedCue (cue_message e) ask

-- what an entry is called
abbrev pub device_called : DeviceEntry → Subject
device_called e = subject.Device e.number

abbrev pub cue_called : CueEntry → Subject
cue_called e = subject.Cue e.number

-- ---- one question

-- This is asked alone, and nothing else.
pub record IsOne (a : Asked) (asks : List Ask) : Type 0 where
  pub ask : Ask
  pub same : asks ≡ ask ∷ []
  pub is : IsAskOf a refusal.GoesOn ask

-- The machine asks this alone, and has done nothing yet.
pub record IsAsking (port : ℕ) (a : Asked) (m : LoadMachine) : Type 0 where
  pub asks : IsOne a m.asks.items
  pub sends_to : m.port ≡ port
  pub new : IsNew (state_of m)
