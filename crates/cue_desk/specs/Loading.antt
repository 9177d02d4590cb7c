-- What a controller reads from what the desk asks, and what it makes of a show file that is loaded.
use Rattle.std.specs.Prelude.{◌≡◌, ℕ, pos, Bool, true, List, [], ◌∷◌, ◌++◌, map, Some, Result, Ok, IsTrue}
use Rattle.cue_show.specs.Show.{ShowLists, has_cue, has_device, is_show}
use Rattle.cue_osc.specs.Argument.{int, text}
use Rattle.cue_osc.specs.Content.{Content, message}
use Rattle.cue_core.specs.declared.command.Code.{Code}
use Rattle.cue_core.specs.declared.command.Command.{Command}
use Rattle.cue_core.specs.declared.command.Command.TheVariants as command
use Rattle.cue_core.specs.declared.command.Verdict.TheVariants.{Made}
use Rattle.cue_core.specs.State.{ShowState}
use Rattle.cue_core.specs.Steps.{after_events}
use Rattle.cue_core.specs.Judge.{judgement_of}
use Rattle.cue_operator.specs.Methods.{address_of}
use Rattle.cue_operator.specs.Commands.{commands_of}
use Rattle.cue_operator.specs.declared.method.Method.TheVariants as method
use Rattle.cue_desk.specs.declared.asking.Asked.{Asked}
use Rattle.cue_desk.specs.declared.asking.Asked.TheVariants as asked
use Rattle.cue_show_file.specs.declared.file.CueEntry.{CueEntry}
use Rattle.cue_show_file.specs.declared.file.DeviceEntry.{DeviceEntry}
use Rattle.cue_show_file.specs.declared.file.ShowFile.{ShowFile}
use Rattle.cue_show_file.specs.Accepted.{after_file}
use Rattle.cue_desk.specs.Asks.{arguments_of, command_of, flagged_parts, is_askable, method_of}

-- ---- one message

-- the message that asks for it
abbrev pub message_of : Asked → Content
message_of a = message (address_of (method_of a)) (arguments_of a)

-- the commands that a controller with this show reads from that message
abbrev pub read_by : ShowLists → Asked → Result (List Command) Code
read_by s a = commands_of s (address_of (method_of a)) (arguments_of a)

-- the show has the cue or the device that is asked for; what is to be added need not be there
abbrev pub is_there : ShowLists → Asked → Bool
is_there s asked.Status = true
is_there s (asked.AddDevice device port) = true
is_there s (asked.AddCue cue parts) = true
is_there s (asked.OfCue verb cue) = has_cue s cue
is_there s (asked.Release device) = has_device s device
is_there s (asked.RemoveDevice device) = has_device s device

-- If the show has what is asked for, the controller reads from the message exactly that command.
abbrev pub AskedIsRead : Type 0
AskedIsRead =
    (s : ShowLists) (a : Asked) → IsTrue (is_show s) → IsTrue (is_askable a) → IsTrue (is_there s a)
    → read_by s a ≡ Ok (command_of a ∷ [])

-- ---- a show file

-- the commands that add an entry
abbrev pub device_command : DeviceEntry → Command
device_command e = command.AddDevice e.number e.port

abbrev pub cue_command : CueEntry → Command
cue_command e = command.AddCue e.number e.parts

-- the message of each: at the address of the method, with its number and its port, or with its number and its parts
abbrev pub device_message : DeviceEntry → Content
device_message e = message (address_of method.AddDevice) (int (pos e.number) ∷ int (pos e.port) ∷ [])

abbrev pub cue_message : CueEntry → Content
cue_message e = message (address_of method.AddMixedCue) (text e.number ∷ flagged_parts e.parts)

-- those that add all that a file has: its devices, then its cues, in order
abbrev pub commands_in : ShowFile → List Command
commands_in file = map device_command file.devices.items ++ map cue_command file.cues.items

-- Each message is read as exactly its command, and the command is made, whenever it comes and from whichever port; the
-- next message comes to the state after it. After the last one the controller has the show t.
abbrev pub IsTaken : ShowState → List Asked → ShowLists → Type 0
IsTaken s [] t = s.show ≡ t
IsTaken s (a ∷ more) t =
    (read_by s.show a ≡ Ok (command_of a ∷ []))
    × ((now from : ℕ) → ((judgement_of s now from (command_of a)).0 ≡ Made)
    × IsTaken (after_events s (judgement_of s now from (command_of a)).1) more t)

-- A show file of which the check makes a show is taken by the controller, message by message, and gives that show. This
-- holds of a controller with an empty show, and of any other to which the entries of the file can be added.
abbrev pub CheckedIsTaken : Type 0
CheckedIsTaken =
    (s : ShowState) (file : ShowFile) (t : ShowLists) (messages : List Asked) → IsTrue (is_show s.show)
    → after_file s.show file ≡ Some t → map command_of messages ≡ commands_in file → IsTaken s messages t
