-- What the desk asks for, and which bytes ask for it.
use Rattle.std.specs.Prelude.{◌≡◌, ◌<◌, ℕ, ℤ, pos, Bool, true, false, List, [], ◌∷◌, Ok, length}
use Rattle.cue_show.specs.declared.part.Part.{Part}
use Rattle.cue_osc.specs.Argument.{Argument, int, text, blob}
use Rattle.cue_osc.specs.Content.{Content, message}
use Rattle.cue_osc.specs.Plain.{IsPlain}
use Rattle.cue_osc.specs.Reading.{datagram_at}
use Rattle.cue_osc.specs.Writing.{text_of}
use Rattle.cue_osc.specs.declared.limits.TheConstants.{MAX_LEN}
use Rattle.cue_core.specs.Judge.{is_fit}
use Rattle.cue_core.specs.declared.command.Command.{Command}
use Rattle.cue_core.specs.declared.command.Command.TheVariants as command
use Rattle.cue_operator.specs.Arguments.{command_by}
use Rattle.cue_operator.specs.Methods.{address_of, cue_command}
use Rattle.cue_operator.specs.declared.method.DeviceVerb.TheVariants as on_device
use Rattle.cue_operator.specs.declared.method.Method.{Method}
use Rattle.cue_operator.specs.declared.method.Method.TheVariants as method
use Rattle.cue_desk.specs.declared.asking.Asked.{Asked}
use Rattle.cue_desk.specs.declared.asking.Asked.TheVariants as asked

-- the command of the controller that is asked for
abbrev pub command_of : Asked → Command
command_of asked.Status = command.Status
command_of (asked.AddDevice device port) = command.AddDevice device port
command_of (asked.AddCue cue parts) = command.AddCue cue parts.now
command_of (asked.OfCue verb cue) = cue_command verb cue
command_of (asked.Release device) = command.Release device
command_of (asked.RemoveDevice device) = command.RemoveDevice device

-- the port is none of 0, and the parts are ones that a cue can have
abbrev pub is_askable : Asked → Bool
is_askable a = is_fit (command_of a)

-- the method by which it is asked
abbrev pub method_of : Asked → Method
method_of asked.Status = method.Status
method_of (asked.AddDevice device port) = method.AddDevice
method_of (asked.AddCue cue parts) = method.AddMixedCue
method_of (asked.OfCue verb cue) = method.OfCue cue verb
method_of (asked.Release device) = method.OfDevice device on_device.Release
method_of (asked.RemoveDevice device) = method.OfDevice device on_device.Remove

-- a part is required by 0, and optional by 1
abbrev pub flag_of : Bool → ℤ
flag_of true = pos 1
flag_of false = pos 0

-- the device, the flag and the bytes of each part
abbrev pub flagged_parts : List Part → List Argument
flagged_parts [] = []
flagged_parts (p ∷ ps) = int (pos p.device) ∷ int (flag_of p.optional) ∷ blob p.bytes ∷ flagged_parts ps

-- with which arguments
abbrev pub arguments_of : Asked → List Argument
arguments_of (asked.AddDevice device port) = int (pos device) ∷ int (pos port) ∷ []
arguments_of (asked.AddCue cue parts) = text cue ∷ flagged_parts parts.now
arguments_of _ = []

-- The bytes are one message, at the address of one method, and that method reads from its arguments this command.
pub record AsksFor (bytes : List ℕ) (wanted : Command) : Type 0 where
  pub method : Method
  pub arguments : List Argument
  pub message : datagram_at bytes ≡ Ok (message (address_of method) arguments)
  pub command : command_by arguments method ≡ wanted

-- OSC has no datagram for it: it cannot be spelled, or its spelling is longer than a datagram
abbrev pub IsUnwritable : Content → Type 0
IsUnwritable c = IsPlain 8 c → MAX_LEN < length (text_of c)
