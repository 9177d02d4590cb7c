-- The device table and the cue stack, in order of entry, and the place of the operator.
use Rattle.std.specs.Prelude.{ℕ, Bool, true, false, not, ◌&&◌, if◌then◌else◌, List, [], ◌∷◌, ◌++◌, length, Option, None}
use Rattle.std.specs.Prelude.{Some, is_some, nat_eq, nat_le}
use Rattle.std.specs.List.{list_any, list_all}
use Rattle.std.specs.Map.{lookup, remove_entry, keys_of, values_of}
use Rattle.cue_show.specs.DeviceNumber.{is_device, is_port}
use Rattle.cue_show.specs.Devices.{distinct}
use Rattle.cue_show.specs.Distinct.{are_distinct}
use Rattle.cue_show.specs.Number.{is_cue_number, same_text}
use Rattle.cue_show.specs.Parts.{are_parts, uses}
use Rattle.cue_show.specs.declared.limits.TheConstants.{MAX_DEVICES, MAX_CUES}
use Rattle.cue_show.specs.declared.part.Part.{Part}

-- a cue and its parts
abbrev pub Cues : Type 0
Cues = List (List ℕ × List Part)

-- devices with their ports, cues with their parts, and the place
pub record ShowLists : Type 0 where
  pub devices : List (ℕ × ℕ)
  pub cues : Cues
  pub place : Option (List ℕ)

-- no device, no cue, and no place
abbrev pub empty_show : ShowLists
empty_show = record { devices = []; cues = []; place = None }

-- ---- what stands in it

-- the port of a device of the table
abbrev pub port_of : ShowLists → ℕ → Option ℕ
port_of s d = lookup (nat_eq d) s.devices

-- the parts of a cue of the stack
abbrev pub parts_of : ShowLists → List ℕ → Option (List Part)
parts_of s c = lookup (same_text c) s.cues

-- the device is in the table
abbrev pub has_device : ShowLists → ℕ → Bool
has_device s d = is_some (port_of s d)

-- the cue is in the stack
abbrev pub has_cue : ShowLists → List ℕ → Bool
has_cue s c = is_some (parts_of s c)

-- a cue of the stack has a part for the device
abbrev pub is_used : ShowLists → ℕ → Bool
is_used s d = list_any (uses d) (values_of s.cues)

-- each part is for a device of the table
abbrev pub are_known : ShowLists → List Part → Bool
are_known s parts = list_all (λ p. has_device s p.device) parts

-- the stack has as many cues as it can have
abbrev pub is_full : ShowLists → Bool
is_full s = nat_le MAX_CUES (length s.cues)

-- the number of the first cue
abbrev pub first_cue : Cues → Option (List ℕ)
first_cue [] = None
first_cue (e ∷ es) = Some e.0

-- the number of the cue after the cue c
abbrev pub cue_after : List ℕ → Cues → Option (List ℕ)
cue_after c [] = None
cue_after c (e ∷ es) = if same_text c e.0 then first_cue es else cue_after c es

-- the number of the cue that follows c in the stack
abbrev pub following : ShowLists → List ℕ → Option (List ℕ)
following s c = cue_after c s.cues

-- the place is the cue c
abbrev pub is_place : List ℕ → Option (List ℕ) → Bool
is_place c None = false
is_place c (Some p) = same_text c p

-- ---- the rules of a show

-- a place is none, or a cue of the stack
abbrev pub is_place_of : ShowLists → Option (List ℕ) → Bool
is_place_of s None = true
is_place_of s (Some c) = has_cue s c

-- the entry is a device number with a port
abbrev pub is_entry : ℕ × ℕ → Bool
is_entry e = is_device e.0 && is_port e.1

-- the table has at most 112 distinct devices with their ports
abbrev pub is_table : List (ℕ × ℕ) → Bool
is_table devices = nat_le (length devices) MAX_DEVICES && (distinct (keys_of devices) && list_all is_entry devices)

-- the entry is a cue number with parts of devices of the table
abbrev pub is_cue_of : ShowLists → List ℕ × List Part → Bool
is_cue_of s e = is_cue_number e.0 && (are_parts e.1 && are_known s e.1)

-- the stack has at most 1,024 distinct cues
abbrev pub is_stack_of : ShowLists → Cues → Bool
is_stack_of s cues =
    nat_le (length cues) MAX_CUES && (are_distinct same_text (keys_of cues) && list_all (is_cue_of s) cues)

-- what each show keeps to
abbrev pub is_show : ShowLists → Bool
is_show s = is_table s.devices && (is_stack_of s s.cues && is_place_of s s.place)

-- ---- what may be asked of it

-- the device has the number and the port of one, and is not in the table
abbrev pub can_add_device : ShowLists → ℕ → ℕ → Bool
can_add_device s d port = not (has_device s d) && (is_device d && is_port port)

-- the device is in the table, and no cue has a part for it
abbrev pub can_remove_device : ShowLists → ℕ → Bool
can_remove_device s d = has_device s d && not (is_used s d)

-- the cue is one that the stack can have, is not in it, and has room there
abbrev pub can_add_cue : ShowLists → List ℕ → List Part → Bool
can_add_cue s c parts = not (has_cue s c) && (not (is_full s) && is_cue_of s (c, parts))

-- ---- what it makes of it

-- the device goes last
abbrev pub with_device : ShowLists → ℕ → ℕ → ShowLists
with_device s d port = record s { devices = s.devices ++ (d, port) ∷ [] }

-- the others keep their order
abbrev pub without_device : ShowLists → ℕ → ShowLists
without_device s d = record s { devices = remove_entry (nat_eq d) s.devices }

-- the cue goes last
abbrev pub with_cue : ShowLists → List ℕ → List Part → ShowLists
with_cue s c parts = record s { cues = s.cues ++ (c, parts) ∷ [] }

-- the others keep their order, and a place at c becomes the cue that followed it
abbrev pub without_cue : ShowLists → List ℕ → ShowLists
without_cue s c =
    record s {
      cues = remove_entry (same_text c) s.cues;
      place = if is_place c s.place then following s c else s.place;
    }

-- the operator goes to another place
abbrev pub with_place : ShowLists → Option (List ℕ) → ShowLists
with_place s place = record s { place = place }
