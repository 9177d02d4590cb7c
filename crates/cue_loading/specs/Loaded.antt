-- What a plan is to make of a store.
use Rattle.std.specs.Prelude.{ℕ, ◌==◌, Bool, true, false, ◌&&◌, ◌||◌, not, List, [], ◌∷◌, length, Option, None, Some}
use Rattle.std.specs.Prelude.{IsTrue, IsSomeAnd}
use Rattle.std.specs.List.{list_all}
use Rattle.cue_show.specs.Number.{same_text}
use Rattle.cue_show.specs.Parts.{same_parts}
use Rattle.cue_show.specs.Show.{Cues, ShowLists, has_cue, has_device, is_place, port_of}
use Rattle.cue_loading.specs.Stacks.{wanted_cues}
use Rattle.cue_loading.specs.Steps.{after_steps}
use Rattle.cue_loading.specs.declared.step.Step.{Step}

-- the same cues with the same parts, in the same order
abbrev pub same_cues : Cues → Cues → Bool
same_cues [] [] = true
same_cues (e ∷ es) (f ∷ fs) = same_text e.0 f.0 && (same_parts e.1 f.1 && same_cues es fs)
same_cues _ _ = false

-- it is this port
abbrev pub is_port : Option ℕ → ℕ → Bool
is_port None port = false
is_port (Some p) port = p == port

-- the table has the device, with its port
abbrev pub has_entry : ShowLists → ℕ × ℕ → Bool
has_entry s entry = is_port (port_of s entry.0) entry.1

-- each device of the file is there with its port
abbrev pub has_devices_of : ShowLists → ShowLists → Bool
has_devices_of file s = list_all (λ entry. has_entry s entry) file.devices

-- and no other: there are as many
abbrev pub has_no_other : ShowLists → ShowLists → Bool
has_no_other file s = length s.devices == length file.devices

-- each device that the file does not have stays
abbrev pub keeps_devices : ShowLists → ShowLists → ShowLists → Bool
keeps_devices file stored s = list_all (λ entry. has_device file entry.0 || has_entry s entry) stored.devices

-- what else is in the table: nothing, or what was there
abbrev pub has_others : Bool → ShowLists → ShowLists → ShowLists → Bool
has_others true file stored s = has_no_other file s
has_others false file stored s = keeps_devices file stored s

-- a place at a cue that is still there stays
abbrev pub keeps_place : Option (List ℕ) → ShowLists → Bool
keeps_place None s = true
keeps_place (Some c) s = not (has_cue s c) || is_place c s.place

-- the show is what a loading is to make of the store
abbrev pub is_loaded : Bool → ShowLists → ShowLists → ShowLists → Bool
is_loaded is_exact file stored s =
    same_cues s.cues (wanted_cues is_exact file stored.cues)
    && (has_devices_of file s && (has_others is_exact file stored s && keeps_place stored.place s))

-- Each step of the plan is taken by the controller that has the store, and after them its show is what it is to be.
abbrev pub Loads : Bool → ShowLists → ShowLists → List Step → Type 0
Loads is_exact file stored steps = IsSomeAnd (after_steps stored steps) (λ s. IsTrue (is_loaded is_exact file stored s))

-- the store has exactly the devices of the file with their ports, and its stack is that of the file
abbrev pub is_same : ShowLists → ShowLists → Bool
is_same file s = same_cues s.cues file.cues && (has_devices_of file s && has_no_other file s)
