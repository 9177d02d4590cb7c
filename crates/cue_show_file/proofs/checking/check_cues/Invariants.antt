use Rattle.std.specs.Prelude.{◌≡◌, ◌&&◌, drop, option_and_then}
use Rattle.cue_show_file.specs.Accepted.{after_cues, if_all}
use Rattle.cue_show_file.specs.Reading.{is_clean}
use Rattle.cue_show_file.proofs.checking.check_cues.Given as goal

-- what was taken so far, and then what is left, is all; and nothing was found where all was taken
abbrev pub invariant-loop-entry : goal.invariant-loop-entry
invariant-loop-entry l =
    (after_cues l.initial.show l.entries ≡ option_and_then (λ t. after_cues t (drop l.entry-index l.entries))
    (if_all l.all l.show))
    × (is_clean l.findings ≡ (is_clean l.initial.findings && l.all))
