-- What the definitions of this crate come to, in other words.
use Rattle.std.specs.Prelude.{◌≡◌, ℕ, ◌<◌, ◌≤◌, ◌↔◌, not, List, ◌∷◌, ◌++◌, length, filter, Some, IsTrue, nat_eq}
use Rattle.std.specs.List.{list_all, join_with_byte}
use Rattle.cue_show.specs.Number.{is_run, is_cue_number, same_text}
use Rattle.cue_show.specs.Show.{Cues, ShowLists, following, is_show, without_device, without_cue}
use Rattle.cue_show.specs.declared.limits.TheConstants.{MAX_CUE_BYTES}
use Rattle.cue_show.specs.declared.part.Part.{Part}

-- one run of digits at least, with single points between them
abbrev pub IsRunsJoinedByPoints : List ℕ → Type 0
IsRunsJoinedByPoints text =
    (runs : List (List ℕ)) × (0 < length runs) × IsTrue (list_all is_run runs) × (text ≡ join_with_byte 46 runs)

-- the cue numbers are these texts of up to 16 bytes
abbrev pub CueNumbersAreRunsJoinedByPoints : Type 0
CueNumbersAreRunsJoinedByPoints =
    (text : List ℕ) → IsTrue (is_cue_number text) ↔ ((length text ≤ MAX_CUE_BYTES) × IsRunsJoinedByPoints text)

-- the cue f stands directly after the cue c
abbrev pub ComesNext : Cues → List ℕ → List ℕ → Type 0
ComesNext cues c f =
    (before : Cues) × (after : Cues) × (parts : List Part) × (others : List Part)
    × (cues ≡ before ++ (c, parts) ∷ (f, others) ∷ after)

-- the cue that follows is the one directly after it
abbrev pub FollowingComesNext : Type 0
FollowingComesNext =
    (s : ShowLists) (c f : List ℕ) → IsTrue (is_show s) → (following s c ≡ Some f) ↔ ComesNext s.cues c f

-- a removal leaves the others, in their order
abbrev pub RemovalsKeepTheOrder : Type 0
RemovalsKeepTheOrder = (s : ShowLists) → IsTrue (is_show s)
    → ((d : ℕ) → (without_device s d).devices ≡ filter (λ e. not (nat_eq d e.0)) s.devices)
    × ((c : List ℕ) → (without_cue s c).cues ≡ filter (λ e. not (same_text c e.0)) s.cues)
