-- The devices that a plan names, and a show file does not have.
use Rattle.std.specs.Prelude.{ℕ, Bool, ◌==◌, ◌||◌, if◌then◌else◌, List, [], ◌∷◌, ◌++◌}
use Rattle.std.specs.List.{list_any}
use Rattle.cue_rehearsal.specs.declared.plan.Plan.{Plan}
use Rattle.cue_rehearsal.specs.Plans.{is_among}
use Rattle.cue_show_file.specs.declared.file.ShowFile.{ShowFile}

-- the file has the device
abbrev pub has_device : ShowFile → ℕ → Bool
has_device file d = list_any (λ e. e.number == d) file.devices.items

-- the plan says something of the device alone
abbrev pub is_named : Plan → ℕ → Bool
is_named p d = is_among d p.silent.items || (is_among d p.refuses.items || is_among d p.fails.items)

-- these, and then one more
abbrev pub with_last : List ℕ → ℕ → List ℕ
with_last found d = found ++ d ∷ []

-- a device that the file does not have comes after the others, once
abbrev pub noted : ShowFile → List ℕ → ℕ → List ℕ
noted file found d = if has_device file d || is_among d found then found else with_last found d

-- the same of each of these, in order
abbrev pub all_noted : ShowFile → List ℕ → List ℕ → List ℕ
all_noted file found [] = found
all_noted file found (d ∷ ds) = all_noted file (noted file found d) ds

-- those that are silent, that refuse, and that fail
abbrev pub unknown_devices : ShowFile → Plan → List ℕ
unknown_devices file p =
    all_noted file (all_noted file (all_noted file [] p.silent.items) p.refuses.items) p.fails.items
