-- Helper: the fields of an encoding, how each is spelled. All numbers stand with the highest byte first.
use Rattle.std.specs.Prelude.{ℕ, Bool, true, false, if◌then◌else◌, List, [], ◌∷◌, ◌++◌, length}
use Rattle.std.specs.List.{flat_map, list_all}
use Rattle.std.specs.Int.{w16, w32, w64, to_be_bytes}
use Rattle.cue_show.specs.Parts.{is_required_part}
use Rattle.cue_show.specs.declared.part.Part.{Part}
use Rattle.cue_exchange.specs.declared.attempt.Reason.{Reason}
use Rattle.cue_exchange.specs.declared.attempt.Reason.TheVariants.{Operator, Deadline, Abort, Power, Release}
use Rattle.cue_records.specs.declared.parts_form.PartsForm.{PartsForm}
use Rattle.cue_records.specs.declared.parts_form.PartsForm.TheVariants.{Plain, Flagged}

-- one byte
abbrev pub byte_text : ℕ → List ℕ
byte_text n = n ∷ []

-- two bytes
abbrev pub short_text : ℕ → List ℕ
short_text n = to_be_bytes w16 n

-- four bytes
abbrev pub number_text : ℕ → List ℕ
number_text n = to_be_bytes w32 n

-- eight bytes
abbrev pub time_text : ℕ → List ℕ
time_text n = to_be_bytes w64 n

-- a length in one byte, and so many bytes
abbrev pub text_text : List ℕ → List ℕ
text_text bytes = length bytes ∷ bytes

-- the number of a part's flag: 1 if the part is optional
abbrev pub flag_number : Bool → ℕ
flag_number false = 0
flag_number true = 1

-- the flag of a part, which a plain part does not have
abbrev pub flag_text : PartsForm → Bool → List ℕ
flag_text Plain optional = []
flag_text Flagged optional = byte_text (flag_number optional)

-- a device, its flag and its bytes
abbrev pub part_text : PartsForm → Part → List ℕ
part_text form p = p.device ∷ (flag_text form p.optional ++ text_text p.bytes)

-- a count in one byte, and so many parts
abbrev pub parts_text : PartsForm → List Part → List ℕ
parts_text form parts = length parts ∷ flat_map (part_text form) parts

-- each of the parts is required
abbrev pub are_required : List Part → Bool
are_required parts = list_all is_required_part parts

-- the form in which parts are written: plain if each is required
abbrev pub form_for : List Part → PartsForm
form_for parts = if are_required parts then Plain else Flagged

-- a device and its port
abbrev pub entry_text : ℕ × ℕ → List ℕ
entry_text e = byte_text e.0 ++ short_text e.1

-- a cue and its parts
abbrev pub new_cue_text : PartsForm → List ℕ × List Part → List ℕ
new_cue_text form e = text_text e.0 ++ parts_text form e.1

-- the number of a reason
abbrev pub reason_number : Reason → ℕ
reason_number Operator = 1
reason_number Deadline = 2
reason_number Abort = 3
reason_number Power = 4
reason_number Release = 5
