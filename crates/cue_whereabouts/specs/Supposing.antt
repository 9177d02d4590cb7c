-- What the stack supposes of a device.
use Rattle.std.specs.Prelude.{ℕ, if◌then◌else◌, List, [], ◌∷◌, Option, None}
use Rattle.std.specs.List.{fold}
use Rattle.std.specs.Option.{option_map, option_or}
use Rattle.cue_show.specs.Number.{same_text}
use Rattle.cue_show.specs.Show.{Cues}
use Rattle.cue_show.specs.declared.part.Part.{Part}
use Rattle.cue_whereabouts.specs.Telling.{bytes_for}
use Rattle.cue_whereabouts.specs.declared.supposing.Supposed.{Supposed}

-- the cues that stand before the cue c
abbrev pub before : List ℕ → Cues → Cues
before c [] = []
before c (e ∷ es) = if same_text e.0 c then [] else e ∷ before c es

-- what a cue has the device d do, if it has a part for it
abbrev pub supposed_by : ℕ → List ℕ × List Part → Option Supposed
supposed_by d e = option_map (λ bytes. record { cue = e.0; bytes = bytes }) (bytes_for d e.1)

-- what the last of these cues that has a part for the device d has it do
abbrev pub supposed_after : ℕ → Cues → Option Supposed
supposed_after d cues = fold (λ last e. option_or (supposed_by d e) last) None cues

-- what the stack supposes of the device d at the cue c: that the cues before it were carried out
abbrev pub supposed_at : List ℕ → ℕ → Cues → Option Supposed
supposed_at c d cues = supposed_after d (before c cues)
