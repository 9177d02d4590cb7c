-- What is told of a typed command, and how it ends.
use Rattle.std.specs.Prelude.{if◌then◌else◌, ℤ, Option, Some, None}
use Rattle.cue_ask_machine.specs.declared.stage.AskEnd.{AskEnd}
use Rattle.cue_ask_machine.specs.declared.stage.AskEnd.TheVariants as end
use Rattle.cue_desk.specs.Answered.{counts}
use Rattle.cue_desk.specs.declared.ending.Ending.{Ending}
use Rattle.cue_desk.specs.declared.ending.Ending.TheVariants as ending
use Rattle.cue_desk.specs.declared.replying.Replied.{Replied}
use Rattle.cue_desk.specs.declared.replying.Replied.TheVariants as replied
use Rattle.cue_order_words.specs.declared.told.Told.{Told}
use Rattle.cue_order_words.specs.declared.told.Told.TheVariants as told

-- what the reply to one command tells: its numbers are 0 or 1. Made and refused are both 1 if only some of several cues
-- stand by.
abbrev pub told_by : (made known refused code : ℤ) → Told
told_by made known refused code =
    if counts made known refused 1 0 0 then told.Made
    else if counts made known refused 0 1 0 then told.Known
    else if counts made known refused 0 0 1 then told.Refused code
    else if counts made known refused 1 0 1 then told.Partly code else told.Unclear

-- what a reply tells
abbrev pub told_in : Replied → Told
told_in (replied.Reply made known refused code) = told_by made known refused code
told_in (replied.Status status) = told.Status status

-- what is told of a command whose question ended so
abbrev pub told_of : AskEnd → Told
told_of (end.Replied r) = told_in r
told_of end.Nobody = told.Nobody
told_of end.Silent = told.Silent
told_of end.Lost = told.Silent

-- how the command ends; none if it is done
abbrev pub ending_of : Told → Option Ending
ending_of told.Made = None
ending_of told.Known = None
ending_of (told.Status status) = None
ending_of (told.Refused code) = Some ending.Refused
ending_of (told.Partly code) = Some ending.Refused
ending_of told.Nobody = Some ending.Silent
ending_of told.Silent = Some ending.Silent
ending_of told.Unclear = Some ending.Silent
