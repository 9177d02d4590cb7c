-- What the line of a reply says beside its numbers: the address, and what was made, or who keeps it from being made.
use Rattle.std.specs.Prelude.{ℕ, Bool, true, false, ◌&&◌, ◌||◌, ◌==◌, not, if◌then◌else◌, List, [], ◌∷◌, ◌++◌, codes, decimal, drop, filter, map, take}
use Rattle.std.specs.Prelude.{Option, Some, None, length, nat_eq, position}
use Rattle.std.specs.Char.Escape.{escape_ascii}
use Rattle.std.specs.Cmp.Lexicographic.{pointwise}
use Rattle.std.specs.List.{ends_with, filter_map, flat_map}
use Rattle.cue_core.specs.State.{ShowState}
use Rattle.cue_core.specs.declared.command.Code.TheVariants as code
use Rattle.cue_core.specs.declared.event.Event.{Event}
use Rattle.cue_core.specs.declared.event.Event.TheVariants as event
use Rattle.cue_engine.specs.declared.account.Reply.{Reply}
use Rattle.cue_engine.specs.declared.taken.Taken.{Taken}
use Rattle.cue_exchange.specs.Answers.{is_cancelling}
use Rattle.cue_exchange.specs.Live.{attempt_of_cue, attempt_of_device}
use Rattle.cue_exchange.specs.declared.attempt.Attempt.{Attempt}
use Rattle.cue_log_lines.specs.Pieces.{◌>>=◌, after}
use Rattle.cue_log_lines.specs.declared.listed.Cause.{Cause}
use Rattle.cue_log_lines.specs.declared.listed.Cause.TheVariants as cause
use Rattle.cue_show.specs.Number.{is_cue_number}
use Rattle.cue_show.specs.Show.{parts_of}
use Rattle.cue_show.specs.declared.part.Part.{Part}
use Rattle.cue_evening.specs.Busy.{held_device, waiting_devices}
use Rattle.cue_evening.specs.LinesOf.{is_refused, is_wide}
use Rattle.cue_evening.specs.Names.{cues_text, devices_text, list_text}
use Rattle.cue_evening.specs.declared.replies.Hindrance.{Hindrance}
use Rattle.cue_evening.specs.declared.replies.Hindrance.TheVariants as hindrance

-- ---- the address

-- the address: `-` if there is none, else each of its bytes as a terminal may get it
abbrev pub address_text : List ℕ → List ℕ
address_text [] = codes "-"
address_text (b ∷ bs) = flat_map escape_ascii (b ∷ bs)

-- a number before the first slash, if it is that of a cue, and what stands from the slash on
abbrev pub cue_before : List ℕ → Option ℕ → Option (List ℕ × List ℕ)
cue_before text None = None
cue_before text (Some slash) = if is_cue_number (take slash text) then Some (take slash text, drop slash text) else None

-- the cue that an address names, and the method with its slash
abbrev pub cue_in : List ℕ → Option (List ℕ × List ℕ)
cue_in address = after (codes "/cue/") address >>= λ text. cue_before text (position (λ b. b == 47) text)

-- the log says something of a reply: one that made or refused something, or did not leave
abbrev pub is_told : Taken → Bool → Bool
is_told counts sent = not (nat_eq counts.made 0) || (not (nat_eq counts.refused 0) || not sent)

-- why a device fails by what an address asks for
abbrev pub cause_in : List ℕ → Cause
cause_in address =
    if ends_with nat_eq address (codes "/abort") then cause.Aborted
    else if ends_with nat_eq address (codes "/release") then cause.Released else cause.Unseen

-- ---- pieces with commas between them

-- what stands there already, and a comma if that is something
abbrev pub parted : List ℕ → List ℕ
parted [] = []
parted (b ∷ bs) = (b ∷ bs) ++ codes ", "

-- a text, and after it a piece, if there is one
abbrev pub with_piece : List ℕ → Option (List ℕ) → List ℕ
with_piece text None = text
with_piece text (Some piece) = parted text ++ piece

-- ---- what was made

-- the devices of the parts that are optional, or of those that are required
abbrev pub devices_of : Bool → List Part → List ℕ
devices_of optional parts = map (λ p. p.device) (filter (λ p. if optional then p.optional else not p.optional) parts)

-- the optional devices, if there are any
abbrev pub optional_text : List ℕ → List ℕ
optional_text devices = if length devices == 0 then [] else codes ", optional " ++ list_text decimal devices

-- a new cue: its number, the devices that it requires, and those that are optional
unfoldable pub cue_text : List ℕ → List ℕ → List ℕ → List ℕ
cue_text cue required optional =
    (codes "cue " ++ (cue ++ codes ", ")) ++ (devices_text required ++ optional_text optional)

-- a new device, and its port
abbrev pub device_text : ℕ → ℕ → List ℕ
device_text device port = codes "device " ++ (decimal device ++ (codes " at " ++ decimal port))

-- what is new by an event
abbrev pub new_text : Event → Option (List ℕ)
new_text (event.Device device port) = Some (device_text device port)
new_text (event.Cue cue parts) = Some (cue_text cue (devices_of false parts) (devices_of true parts))
new_text _ = None

-- a text, and what is new by these events
abbrev pub with_new : List ℕ → List Event → List ℕ
with_new text [] = text
with_new text (e ∷ es) = with_new (with_piece text (new_text e)) es

-- the device, or the cue, that is removed by an event
abbrev pub removed_device : Event → Option ℕ
removed_device (event.NoDevice device) = Some device
removed_device _ = None

abbrev pub removed_cue : Event → Option (List ℕ)
removed_cue (event.NoCue cue) = Some cue
removed_cue _ = None

-- those that are removed, if there are any
abbrev pub removed_devices : List ℕ → Option (List ℕ)
removed_devices devices = if length devices == 0 then None else Some (devices_text devices ++ codes " removed")

abbrev pub removed_cues : List (List ℕ) → Option (List ℕ)
removed_cues cues = if length cues == 0 then None else Some (cues_text cues ++ codes " removed")

-- the cue that the operator was moved to by an event, else the one before
abbrev pub place_after : Option (List ℕ) → Event → Option (List ℕ)
place_after place (event.Place cue) = Some cue
place_after place _ = place

-- the cue that he was moved to last, after this one
abbrev pub last_place : Option (List ℕ) → List Event → Option (List ℕ)
last_place place [] = place
last_place place (e ∷ es) = last_place (place_after place e) es

-- where he was moved to, if he was
abbrev pub place_text : Option (List ℕ) → Option (List ℕ)
place_text None = None
place_text (Some cue) = Some (codes "the place is cue " ++ cue)

-- a text, and what was removed by these events, and where the operator was moved to
abbrev pub with_changes : List ℕ → List Event → List ℕ
with_changes text es =
    with_piece (with_piece (with_piece text (removed_devices (filter_map removed_device es)))
    (removed_cues (filter_map removed_cue es))) (place_text (last_place None es))

-- a text, and what was made of the show: what is new, and if the address speaks to many the other changes, too
abbrev pub with_made : Bool → List ℕ → List Event → List ℕ
with_made wide text es = if wide then with_changes (with_new text es) es else with_new text es

-- ---- who keeps a command from being made

-- what keeps a command at a cue from being made: its devices are not ready, or an attempt holds it
abbrev pub hindrance_of : Reply → List ℕ → Hindrance
hindrance_of reply method =
    if is_refused reply code.NotReady && pointwise nat_eq method (codes "/go") then hindrance.Late
    else if is_refused reply code.Busy
    && (pointwise nat_eq method (codes "/standby") || pointwise nat_eq method (codes "/remove"))
    then hindrance.Busy else hindrance.Other

-- the devices that an attempt waits for
abbrev pub waiting_for : List ℕ → List ℕ
waiting_for devices = if length devices == 0 then [] else codes "waiting for " ++ devices_text devices

-- why a GO comes too early
abbrev pub late_text : Option Attempt → List ℕ
late_text None = []
late_text (Some a) = if is_cancelling a.stage then codes "the attempt was given up" else waiting_for (waiting_devices a)

-- the device of the cue that is in an attempt, and that attempt
abbrev pub holder_of : ShowState → List ℕ → Option (ℕ × Attempt)
holder_of state cue =
    parts_of state.show cue >>= λ parts. held_device state.live parts >>= λ device. attempt_of_device state.live device
    >>= λ a. Some (device, a)

-- a device, and the attempt that it is in
unfoldable pub held_text : ℕ → Attempt → List ℕ
held_text device a =
    (codes "device " ++ (decimal device ++ codes " is in attempt ")) ++ (decimal a.seq ++ (codes " of cue " ++ a.cue))

-- the device of the cue that is in an attempt, in words
abbrev pub holder_text : Option (ℕ × Attempt) → List ℕ
holder_text None = []
holder_text (Some holder) = held_text holder.0 holder.1

-- a cue, and the attempt that it is in
unfoldable pub taken_text : List ℕ → ℕ → List ℕ
taken_text cue seq = (codes "cue " ++ (cue ++ codes " is in attempt ")) ++ decimal seq

-- the attempt that a cue is in, else the device of it that is in one
abbrev pub busy_text : ShowState → List ℕ → Option Attempt → List ℕ
busy_text state cue None = holder_text (holder_of state cue)
busy_text state cue (Some a) = taken_text cue a.seq

-- who keeps a command at a cue from being made
abbrev pub why_text : ShowState → List ℕ → Hindrance → List ℕ
why_text state cue hindrance.Late = late_text (attempt_of_cue state.live cue)
why_text state cue hindrance.Busy = busy_text state cue (attempt_of_cue state.live cue)
why_text state cue hindrance.Other = []

abbrev pub why_at : ShowState → Reply → Option (List ℕ × List ℕ) → List ℕ
why_at state reply None = []
why_at state reply (Some named) = why_text state named.0 (hindrance_of reply named.1)

-- the same of a reply, if the state is known on which its commands were judged
abbrev pub why_of : Option ShowState → Reply → List ℕ
why_of None reply = []
why_of (Some state) reply = why_at state reply (cue_in reply.address)

-- ---- both

-- what a line adds to the numbers of a reply: who keeps its command from being made, and what was made by these events
abbrev pub more_of : Option ShowState → Reply → List Event → List ℕ
more_of state reply es = with_made (is_wide reply.address) (why_of state reply) es
