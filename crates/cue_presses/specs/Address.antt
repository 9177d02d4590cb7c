-- Which commands of show control are for a desk, and what they ask.
use Rattle.std.specs.Prelude.{ℕ, Bool, false, ◌&&◌, ◌||◌, if◌then◌else◌, List, Option, None, Some, nat_eq}
use Rattle.cue_show.specs.Number.{same_text}
use Rattle.cue_midi.specs.declared.show.Named.{Named}
use Rattle.cue_midi.specs.declared.show.Named.TheVariants as named
use Rattle.cue_midi.specs.declared.show.Said.{Said}
use Rattle.cue_midi.specs.declared.show.Said.TheVariants as said
use Rattle.cue_midi.specs.declared.show.Show.{Show}
use Rattle.cue_presses.specs.declared.address.Address.{Address}
use Rattle.cue_presses.specs.declared.address.Spoken.{Spoken}
use Rattle.cue_presses.specs.declared.address.Spoken.TheVariants as spoken
use Rattle.cue_presses.specs.declared.address.TheConstants.{ALL}
use Rattle.cue_presses.specs.declared.intent.Intent.TheVariants as intent

-- the number is this one, or that of all
abbrev pub is_for : ℕ → ℕ → Bool
is_for number wanted = nat_eq wanted number || nat_eq wanted ALL

-- the list is this one
abbrev pub is_list : Option (List ℕ) → List ℕ → Bool
is_list None of = false
is_list (Some list) of = same_text list of

-- what a GO intends: with a list its cue counts only if the list is that of the desk
abbrev pub go_by : Option (List ℕ) → Named → Spoken
go_by list named.Nothing = spoken.Intent (intent.Go None)
go_by list (named.Cue cue) = spoken.Intent (intent.Go (Some cue))
go_by list (named.OfList cue of) =
    if is_list list of then spoken.Intent (intent.Go (Some cue)) else spoken.OtherList
go_by list named.Unfit = spoken.Unfit

-- what a LOAD intends: it has to name a cue
abbrev pub load_by : Option (List ℕ) → Named → Spoken
load_by list named.Nothing = spoken.NoCue
load_by list (named.Cue cue) = spoken.Intent (intent.Standby (Some cue))
load_by list (named.OfList cue of) =
    if is_list list of then spoken.Intent (intent.Standby (Some cue)) else spoken.OtherList
load_by list named.Unfit = spoken.Unfit

abbrev pub said_to : Option (List ℕ) → Said → Spoken
said_to list (said.Go named) = go_by list named
said_to list (said.Load named) = load_by list named
said_to list (said.Other command) = spoken.OtherCommand command

-- what a command is to the desk with this address
abbrev pub spoken_to : Address → Show → Spoken
spoken_to a s = if is_for a.id s.id && is_for a.format s.format then said_to a.list s.said else spoken.Elsewhere
