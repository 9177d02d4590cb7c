-- What a stream of MIDI bytes spells. The bytes are listed with the newest first.
use Rattle.std.specs.Prelude.{◌≡◌, ℕ, ◌-◌, Bool, true, false, ◌&&◌, ◌||◌, if◌then◌else◌, List, [], ◌∷◌, ◌++◌}
use Rattle.std.specs.Prelude.{Option, None, Some, length, reverse, nat_eq, nat_le, nat_lt, is_some}
use Rattle.cue_midi.specs.Show.{show_in}
use Rattle.cue_midi.specs.declared.heard.Heard.{Heard}
use Rattle.cue_midi.specs.declared.heard.Heard.TheVariants as heard
use Rattle.cue_midi.specs.declared.heard.Kind.TheVariants as kind
use Rattle.cue_midi.specs.declared.parser.Parser.{Parser}
use Rattle.cue_midi.specs.declared.parser.TheConstants.{MAX_EXCLUSIVE}
use Rattle.cue_midi.specs.declared.show.Show.{Show}

-- ---- the bytes

-- a data byte: its highest bit is not set
abbrev pub is_data : ℕ → Bool
is_data b = nat_lt b 128

-- a byte of real time, which may stand anywhere, and belongs to no message
abbrev pub is_real_time : ℕ → Bool
is_real_time b = nat_le 248 b

-- the newest status byte
abbrev pub status_of : List ℕ → Option ℕ
status_of [] = None
status_of (b ∷ past) =
    if is_data b then status_of past else if is_real_time b then status_of past else Some b

-- the data bytes since, the newest first
abbrev pub run_of : List ℕ → List ℕ
run_of [] = []
run_of (b ∷ past) = if is_data b then b ∷ run_of past else if is_real_time b then run_of past else []

-- one more data byte: the second of two, or the first
abbrev pub joined : ℕ → Option ℕ → Option ℕ
joined b None = Some b
joined b (Some first) = None

-- data bytes come in pairs: the one that awaits a second one
abbrev pub half_of : List ℕ → Option ℕ
half_of [] = None
half_of (b ∷ run) = joined b (half_of run)

-- ---- messages of a channel

-- a key with a velocity; 0 is a note off
abbrev pub note_on : ℕ → ℕ → ℕ → Heard
note_on channel note velocity =
    if nat_eq velocity 0 then heard.Ignored kind.NoteOff else heard.NoteOn channel note velocity

-- a message of a status byte and two data bytes
abbrev pub of_two : ℕ → ℕ → ℕ → Heard
of_two status first last =
    if nat_lt status 144 then heard.Ignored kind.NoteOff
    else if nat_lt status 160 then note_on (status - 144) first last
    else if nat_lt status 176 then heard.Ignored kind.KeyPressure
    else if nat_lt status 192 then heard.Controller (status - 176) first last else heard.Ignored kind.PitchBend

-- the second of two data bytes finishes it
abbrev pub by_second : ℕ → Option ℕ → ℕ → Option Heard
by_second status None b = None
by_second status (Some first) b = Some (of_two status first b)

-- what a data byte finishes after this status byte, and perhaps a first data byte: C0 to DF have one data byte, and an
-- exclusive message is ended by no data byte
abbrev pub by_data : ℕ → Option ℕ → ℕ → Option Heard
by_data status half b =
    if nat_le 240 status then None else if nat_lt status 192 then by_second status half b
    else if nat_lt status 208 then Some (heard.Ignored kind.Program)
    else if nat_lt status 224 then Some (heard.Ignored kind.ChannelPressure) else by_second status half b

abbrev pub by_data_at : Option ℕ → Option ℕ → ℕ → Option Heard
by_data_at None half b = None
by_data_at (Some status) half b = by_data status half b

-- ---- exclusive messages

-- what the data bytes of an exclusive message say
abbrev pub said_in : Option Show → Heard
said_in None = heard.Ignored kind.Exclusive
said_in (Some s) = heard.Show s

abbrev pub exclusive : List ℕ → Heard
exclusive body = said_in (show_in body)

-- what its end finishes
abbrev pub ended_by : Bool → List ℕ → Heard
ended_by is_long body = if is_long then heard.Ignored kind.Long else exclusive body

-- what it finishes after these data bytes, the newest first
abbrev pub ended : List ℕ → Heard
ended run = ended_by (nat_lt MAX_EXCLUSIVE (length run)) (reverse run)

-- ---- status bytes

-- a message is under way: an exclusive one, or one that awaits its second data byte
abbrev pub is_open : ℕ → Option ℕ → Bool
is_open status half =
    if nat_eq status 240 then true else if nat_lt 240 status then false
    else if nat_le 192 status && nat_lt status 224 then false else is_some half

-- a status byte cuts what is under way; F1 to F7 are common messages, and the others begin one
abbrev pub by_status : Bool → ℕ → Option Heard
by_status is_open b =
    if is_open then Some (heard.Ignored kind.Cut) else if nat_lt 240 b then Some (heard.Ignored kind.Common) else None

-- F7 ends an exclusive message
abbrev pub by_status_at : Option ℕ → List ℕ → ℕ → Option Heard
by_status_at None run b = by_status false b
by_status_at (Some status) run b =
    if nat_eq status 240 && nat_eq b 247 then Some (ended run) else by_status (is_open status (half_of run)) b

-- ---- what a byte finishes

-- what the byte finishes after these
abbrev pub heard_at : List ℕ → ℕ → Option Heard
heard_at past b =
    if is_real_time b then Some (heard.Ignored kind.RealTime)
    else if is_data b then by_data_at (status_of past) (half_of (run_of past)) b
    else by_status_at (status_of past) (run_of past) b

-- the parser has heard these bytes
pub record IsAfter (past : List ℕ) (p : Parser) : Type 0 where
  pub status : p.status ≡ status_of past
  pub half : p.half ≡ half_of (run_of past)
  pub long : p.is_long ≡ nat_lt MAX_EXCLUSIVE (length (run_of past))
  pub body : p.is_long ≡ false → p.body.items ≡ reverse (run_of past)

-- ---- what a parser keeps

-- there are more data bytes than are kept
abbrev pub is_more : Bool → List ℕ → Bool
is_more is_long body = is_long || nat_le MAX_EXCLUSIVE (length body)

-- one more data byte is kept if there is room for it
abbrev pub more : ℕ → List ℕ → List ℕ
more b body = if nat_lt (length body) MAX_EXCLUSIVE then body ++ b ∷ [] else body

-- what a status byte finishes, by what a parser keeps
abbrev pub by_status_kept : Option ℕ → Option ℕ → Bool → List ℕ → ℕ → Option Heard
by_status_kept None half is_long body b = by_status false b
by_status_kept (Some status) half is_long body b =
    if nat_eq status 240 && nat_eq b 247 then Some (ended_by is_long body) else by_status (is_open status half) b

abbrev pub by_status_in : Parser → ℕ → Option Heard
by_status_in p b = by_status_kept p.status p.half p.is_long p.body.items b

-- what is heard of one more byte, whatever the bytes before were
abbrev pub HearsAt : Parser → ℕ → Option Heard → Type 0
HearsAt p b h = (past : List ℕ) → IsAfter past p → h ≡ heard_at past b

-- and the parser has then heard that byte too
abbrev pub KeepsAt : Parser → ℕ → Parser → Type 0
KeepsAt old b new = (past : List ℕ) → IsAfter past old → IsAfter (b ∷ past) new
