-- The lit buttons as JSON (RFC 8259).
use Rattle.std.specs.Prelude.{ℕ, List, codes}
use Rattle.serde_json.specs.Data.{Data, null, number, unsigned, string, object, member, no_members}
use Rattle.cue_view.specs.declared.button.Button.{Button}
use Rattle.cue_view.specs.declared.button.Button.TheVariants as button
use Rattle.cue_request.specs.Presses.{press_of}

-- which one it is
abbrev pub kind_of : Button → List ℕ
kind_of (button.Standby c) = codes "standby"
kind_of (button.Go c q) = codes "go"
kind_of (button.Cancel c q) = codes "cancel"
kind_of (button.Release q d) = codes "release"
kind_of (button.MoveTo c) = codes "goto"
kind_of (button.Choose q) = codes "choose"
kind_of (button.Seen q) = codes "seen"

-- the cue that it is for
abbrev pub cue_data : Button → Data
cue_data (button.Standby c) = string c
cue_data (button.Go c q) = string c
cue_data (button.Cancel c q) = string c
cue_data (button.MoveTo c) = string c
cue_data _ = null

-- the attempt that it is for; 0 if it names none
abbrev pub attempt_of : Button → ℕ
attempt_of (button.Standby c) = 0
attempt_of (button.MoveTo c) = 0
attempt_of (button.Go c q) = q
attempt_of (button.Cancel c q) = q
attempt_of (button.Release q d) = q
attempt_of (button.Choose q) = q
attempt_of (button.Seen q) = q

-- the device that it is for
abbrev pub device_data : Button → Data
device_data (button.Release q d) = number (unsigned d)
device_data _ = null

-- a button that is lit: which one, what it is for, and the text that a press of it sends
abbrev pub button_data : Button → Data
button_data b =
    object (member (codes "attempt") (number (unsigned (attempt_of b)))
    (member (codes "cue") (cue_data b)
    (member (codes "device") (device_data b)
    (member (codes "kind") (string (kind_of b))
    (member (codes "press") (string (press_of b)) no_members)))))
