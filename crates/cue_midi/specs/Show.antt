-- A command of MIDI Show Control, as the data bytes between F0 and F7 spell it.
use Rattle.std.specs.Prelude.{ℕ, ◌+◌, Bool, ◌&&◌, if◌then◌else◌, List, [], ◌∷◌, Option, None, Some}
use Rattle.std.specs.Prelude.{◌==◌, take, drop, nat_eq}
use Rattle.std.specs.List.{position}
use Rattle.cue_show.specs.Number.{is_cue_number}
use Rattle.cue_midi.specs.declared.show.Named.{Named}
use Rattle.cue_midi.specs.declared.show.Named.TheVariants as named
use Rattle.cue_midi.specs.declared.show.Said.{Said}
use Rattle.cue_midi.specs.declared.show.Said.TheVariants as said
use Rattle.cue_midi.specs.declared.show.Show.{Show}

-- where the first zero is, which ends the number of the cue
abbrev pub zero_in : List ℕ → Option ℕ
zero_in bytes = position (λ b. b == 0) bytes

-- the cue that is named by this text: digits and points
abbrev pub cue_named : List ℕ → Named
cue_named text = if is_cue_number text then named.Cue text else named.Unfit

-- the cue of a list: both are digits and points, so no path follows
abbrev pub of_list : List ℕ → List ℕ → Named
of_list text list =
    if is_cue_number text then if is_cue_number list then named.OfList text list else named.Unfit else named.Unfit

-- what names a cue that stands there: with a zero, a list follows
abbrev pub split_at : List ℕ → Option ℕ → Named
split_at bytes None = cue_named bytes
split_at bytes (Some at) = of_list (take at bytes) (drop (at + 1) bytes)

abbrev pub named_by : List ℕ → Named
named_by bytes = split_at bytes (zero_in bytes)

-- the cue that stands after a command
abbrev pub named_in : List ℕ → Named
named_in [] = named.Nothing
named_in (b ∷ bs) = named_by (b ∷ bs)

-- 01 is GO, and 05 is LOAD
abbrev pub said_by : ℕ → List ℕ → Said
said_by command bytes =
    if nat_eq command 1 then said.Go (named_in bytes) else if nat_eq command 5 then said.Load (named_in bytes)
    else said.Other command

-- a command of show control: 7F, the device, 02, the format, the command, and what it is about
abbrev pub show_in : List ℕ → Option Show
show_in (real_time ∷ id ∷ kind ∷ format ∷ command ∷ bytes) =
    if nat_eq real_time 127 && nat_eq kind 2 then
    Some (record { id = id; format = format; said = said_by command bytes })
    else None
show_in _ = None
