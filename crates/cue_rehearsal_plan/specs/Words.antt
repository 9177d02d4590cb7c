-- What is told of a plan and of a rehearsal, byte for byte, and how the command ends.
use Rattle.std.specs.Prelude.{ℕ, ◌==◌, if◌then◌else◌, List, ◌++◌, codes, decimal, Option, None, Some}
use Rattle.cue_desk.specs.declared.ending.Ending.{Ending}
use Rattle.cue_desk.specs.declared.ending.Ending.TheVariants as ending
use Rattle.cue_machine.specs.declared.living.Why.{Why}
use Rattle.cue_machine.specs.declared.living.Why.TheVariants as why
use Rattle.cue_saying.specs.Shown.{shown_name}

-- the file, the line of the table if it can be seen, and its name
abbrev pub place_words : List ℕ → Option ℕ → List ℕ
place_words path (Some line) = shown_name path ++ (codes ":" ++ (decimal line ++ codes ": [rehearse]"))
place_words path None = shown_name path ++ codes ": [rehearse]"

abbrev pub unknown_words : ℕ → List ℕ
unknown_words d = codes "the file has no device " ++ (decimal d ++ codes " to rehearse")

abbrev pub plays_words : ℕ → List ℕ
plays_words count =
    decimal count ++ (if count == 1 then codes " device plays, at its port; Ctrl-C ends it\n"
    else codes " devices play, each at its port; Ctrl-C ends it\n")

-- a rehearsal never ends by itself: its output failed, or something else did
abbrev pub ending_of : Why → Ending
ending_of why.Over = ending.Unwritten
ending_of why.Ears = ending.Failed
ending_of why.End = ending.Failed
ending_of why.Memory = ending.Failed
ending_of why.Turns = ending.Failed

abbrev pub why_words : Why → Option (List ℕ)
why_words why.Over = None
why_words why.Ears = Some (codes "a socket or the clock failed")
why_words why.End = Some (codes "a socket or the clock failed")
why_words why.Memory = Some (codes "out of memory")
why_words why.Turns = Some (codes "it has had its turns")
