-- Laws of who is rehearsed, for every show file and every plan.
use Rattle.std.specs.Prelude.{◌≡◌, ℕ, ◌&&◌, Bool, true, false, not, List, [], ◌∷◌, map, Some}
use Rattle.std.specs.List.{list_all}
use Rattle.cue_rehearsal.specs.declared.manner.Behaviour.TheVariants.{Plays}
use Rattle.cue_rehearsal.specs.declared.plan.Plan.{Plan}
use Rattle.cue_rehearsal.specs.Plans.{behaviour_of, is_among}
use Rattle.cue_rehearsal_plan.specs.Roles.{roles_of}
use Rattle.cue_rehearsal_plan.specs.Unknown.{has_device, is_named, unknown_devices}
use Rattle.cue_show.specs.Show.{ShowLists, empty_show}
use Rattle.cue_show_file.specs.Accepted.{after_file}
use Rattle.cue_show_file.specs.declared.file.ShowFile.{ShowFile}

-- ---- who is played

-- Those who are played are the devices of the show that a controller makes of the file, each once, in order, and at its
-- port.
abbrev pub EachIsPlayed : Type 0
EachIsPlayed =
    (file : ShowFile) (p : Plan) (s : ShowLists) → after_file empty_show file ≡ Some s
    → map (λ r. (r.device, r.address.port)) (roles_of file p) ≡ s.devices

-- the file has whoever is played
abbrev pub NobodyElseIsPlayed : Type 0
NobodyElseIsPlayed =
    (file : ShowFile) (p : Plan) → list_all (λ r. has_device file r.device) (roles_of file p) ≡ true

-- a device of which the plan says nothing plays
abbrev pub UnnamedPlays : Type 0
UnnamedPlays = (p : Plan) (d : ℕ) → is_named p d ≡ false → behaviour_of p d ≡ Plays

-- ---- which devices do not fit

-- a device that the plan names and the file does not have is told
abbrev pub EachUnknownIsNamed : Type 0
EachUnknownIsNamed =
    (file : ShowFile) (p : Plan) (d : ℕ) → is_named p d ≡ true → has_device file d ≡ false
    → is_among d (unknown_devices file p) ≡ true

-- no other is
abbrev pub OnlyUnknownIsNamed : Type 0
OnlyUnknownIsNamed =
    (file : ShowFile) (p : Plan) (d : ℕ) → is_among d (unknown_devices file p) ≡ true
    → (is_named p d ≡ true) × (has_device file d ≡ false)

-- none of these is there twice
abbrev pub are_single : List ℕ → Bool
are_single [] = true
are_single (d ∷ ds) = not (is_among d ds) && are_single ds

-- each is told once
abbrev pub UnknownIsNamedOnce : Type 0
UnknownIsNamedOnce = (file : ShowFile) (p : Plan) → are_single (unknown_devices file p) ≡ true
