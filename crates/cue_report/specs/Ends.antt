-- Where the part of an evening that is told begins and ends.
use Rattle.std.specs.Prelude.{ℕ, ℤ, ◌+◌, ◌*◌, ◌-◌, min, Bool, true, false, if◌then◌else◌, nat_le, nat_lt, List, [], ◌∷◌}
use Rattle.std.specs.Prelude.{Option, Some, None, Result, Ok, Err}
use Rattle.cue_report.specs.Dates.{clock_at}
use Rattle.cue_report.specs.declared.ends.Bound.{Bound}
use Rattle.cue_report.specs.declared.ends.Bound.TheVariants as bound
use Rattle.cue_report.specs.declared.ends.End.{End}
use Rattle.cue_report.specs.declared.ends.End.TheVariants as end
use Rattle.cue_report.specs.declared.ends.NoRange.{NoRange}
use Rattle.cue_report.specs.declared.ends.NoRange.TheVariants.{NeverUp, NeverDown, DownBeforeUp}
use Rattle.cue_report.specs.declared.marks.Curtain.{Curtain}
use Rattle.cue_report.specs.declared.marks.Curtain.TheVariants.{Up, Down}
use Rattle.cue_report.specs.declared.marks.Mark.{Mark}
use Rattle.cue_report.specs.declared.range.Hours.{Hours}
use Rattle.cue_report.specs.declared.range.Range.{Range}
use Rattle.cue_report.specs.declared.range.Range.TheVariants.{OfDay, Between}

-- the curtain goes up
abbrev pub is_up : Curtain → Bool
is_up Up = true
is_up Down = false

-- when the curtain first went up, by marks in their order
abbrev pub first_up : List Mark → Option ℕ
first_up [] = None
first_up (m ∷ rest) = if is_up m.curtain then Some m.at else first_up rest

-- when it last came down, by marks in their order, after those that came down last at this moment
abbrev pub last_down : Option ℕ → List Mark → Option ℕ
last_down last [] = last
last_down last (m ∷ rest) = last_down (if is_up m.curtain then last else Some m.at) rest

-- an end: a time of the day stays what it is, and a mark is its moment, if it is there
abbrev pub bound_of : End → Option ℕ → Option Bound
bound_of (end.Clock minute) mark = Some (bound.Clock minute)
bound_of end.Mark None = None
bound_of end.Mark (Some at) = Some (bound.Moment at)

-- the second of the day at which a minute begins, and the one at which it ends
abbrev pub first_second : ℕ → ℕ
first_second minute = minute * 60

abbrev pub last_second : ℕ → ℕ
last_second minute = minute * 60 + 59

-- how long it is from a second of the day until a clock shows another one
abbrev pub until : ℕ → ℕ → ℕ
until second next = if nat_le second next then next - second else next + 86400 - second

-- the last moment up to this one at which the clock on the wall shows that a minute begins
abbrev pub begin_before : ℤ → ℕ → Option ℕ → Option ℕ
begin_before ahead at None = None
begin_before ahead at (Some minute) = Some (at - until (first_second minute) (clock_at ahead at))

-- the first moment from this one on at which it shows that a minute ends; the last one that a clock can count, if that
-- would be later
abbrev pub end_after : ℤ → ℕ → Option ℕ → Option ℕ
end_after ahead at None = None
end_after ahead at (Some minute) =
    Some (min (at + until (clock_at ahead at) (last_second minute)) 18446744073709551615)

-- hours begin with a minute, if one is said, else with the day; and they end so
abbrev pub begin_of : Option ℕ → ℕ
begin_of None = 0
begin_of (Some minute) = first_second minute

abbrev pub end_of : Option ℕ → ℕ
end_of None = 86399
end_of (Some minute) = last_second minute

-- the hours of a day between two minutes, with both
abbrev pub hours_of : Option ℕ → Option ℕ → Hours
hours_of from to = record { from = begin_of from; to = end_of to }

-- what is told between two ends. Two times of the day are hours of each day. Beside a mark a time of the day is a moment,
-- too: the last one before the end at which the clock shows it, or the first one after the begin
abbrev pub range_between : ℤ → Bound → Bound → Range
range_between ahead (bound.Clock from) (bound.Clock to) = OfDay (hours_of from to)
range_between ahead (bound.Clock from) (bound.Moment to) =
    Between (record { from = begin_before ahead to from; to = Some to })
range_between ahead (bound.Moment from) (bound.Clock to) =
    Between (record { from = Some from; to = end_after ahead from to })
range_between ahead (bound.Moment from) (bound.Moment to) = Between (record { from = Some from; to = Some to })

-- what is told would end before it begins
abbrev pub are_reversed : Bound → Bound → Bool
are_reversed (bound.Clock from) to = false
are_reversed (bound.Moment from) (bound.Clock to) = false
are_reversed (bound.Moment from) (bound.Moment to) = nat_lt to from

-- the same, by the moments of the marks, if they are there
abbrev pub range_by : ℤ → Option Bound → Option Bound → Result Range NoRange
range_by ahead None to = Err NeverUp
range_by ahead (Some from) None = Err NeverDown
range_by ahead (Some from) (Some to) =
    if are_reversed from to then Err DownBeforeUp else Ok (range_between ahead from to)

-- what is told from one end to the other: of marks, from where the curtain first went up to where it last came down
abbrev pub range_of : End → End → List Mark → ℤ → Result Range NoRange
range_of from to marks ahead = range_by ahead (bound_of from (first_up marks)) (bound_of to (last_down None marks))
