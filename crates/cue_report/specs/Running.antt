-- How long the show ran.
use Rattle.std.specs.Prelude.{ℕ, ◌+◌, ◌-◌, ◌++◌, max, min, List, [], ◌∷◌, Option, Some, None, length, option_to_list, slice_get}
use Rattle.cue_report.specs.declared.attempt.Attempt.{Attempt}
use Rattle.cue_report.specs.declared.attempt.Ended.{Ended}
use Rattle.cue_report.specs.declared.attempt.Moment.{Moment}
use Rattle.cue_report.specs.declared.marks.Curtain.{Curtain}
use Rattle.cue_report.specs.declared.marks.Curtain.TheVariants.{Up, Down}
use Rattle.cue_report.specs.declared.marks.Mark.{Mark}
use Rattle.cue_report.specs.declared.running.Act.{Act}
use Rattle.cue_report.specs.declared.running.Act.TheVariants.{Played, Interval}
use Rattle.cue_report.specs.declared.running.Stretch.{Stretch}

-- from its begin to its end
abbrev pub seconds : Stretch → ℕ
seconds run = run.to - run.from

-- what lies after a rise or a fall of the curtain, up to the next one
abbrev pub act_of : Curtain → Curtain → Stretch → Option Act
act_of Up next stretch = Some (Played stretch)
act_of Down Up stretch = Some (Interval stretch)
act_of Down Down stretch = None

-- what lies between two marks
abbrev pub act_between : Mark → Mark → Option Act
act_between m next = act_of m.curtain next.curtain (record { from = m.at; to = next.at })

-- what lies between the mark before, if there is one, and the next one
abbrev pub acts_up_to : Option Mark → Mark → List Act
acts_up_to None next = []
acts_up_to (Some m) next = option_to_list (act_between m next)

-- what lies between marks in their order, after the mark before them
abbrev pub acts_after : Option Mark → List Mark → List Act
acts_after last [] = []
acts_after last (m ∷ rest) = acts_up_to last m ++ acts_after (Some m) rest

-- the seconds of an act that were played: none of an interval
abbrev pub played_in : Act → ℕ
played_in (Played stretch) = seconds stretch
played_in (Interval stretch) = 0

-- the seconds that were played in acts, beside so many; they stop at the end of their numbers
abbrev pub played_of : ℕ → List Act → ℕ
played_of sum [] = sum
played_of sum (act ∷ rest) = played_of (min (sum + played_in act) 18446744073709551615) rest

-- from a mark to another one, if that is there
abbrev pub up_to : Mark → Option Mark → Option Stretch
up_to first None = None
up_to first (Some last) = Some (record { from = first.at; to = last.at })

-- from the first mark to the last one, if there are two
abbrev pub whole_of : List Mark → Option Stretch
whole_of [] = None
whole_of (first ∷ rest) = up_to first (slice_get rest (length rest - 1))

-- a run that also has this GO and this end
abbrev pub longer : Option Stretch → ℕ → ℕ → Stretch
longer None from to = record { from = from; to = to }
longer (Some run) from to = record { from = min run.from from; to = max run.to to }

-- a run that also has an attempt: what was not given is none of it, and what has no end is over when it is given
abbrev pub with_attempt : Option Stretch → Option Moment → Option Ended → Option Stretch
with_attempt run None ended = run
with_attempt run (Some given) None = Some (longer run given.at given.at)
with_attempt run (Some given) (Some ended) = Some (longer run given.at ended.at)

-- a run that also has these attempts
abbrev pub run_of : Option Stretch → List Attempt → Option Stretch
run_of run [] = run
run_of run (a ∷ rest) = run_of (with_attempt run a.given a.ended) rest
