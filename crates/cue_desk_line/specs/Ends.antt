-- Where what a report tells begins and ends, by the words of the command line.
use Rattle.std.specs.Prelude.{◌≡◌, ℕ, ◌+◌, ◌*◌, ◌-◌, ◌==◌, Bool, ◌&&◌, if◌then◌else◌, nat_le, nat_lt, List, codes, length}
use Rattle.std.specs.Prelude.{Option, Some, None, IsTrue, is_some, option_and_then, option_map, slice_index_or}
use Rattle.clap.specs.Words.{first_value, found_of}
use Rattle.clap.specs.declared.parser.matches.ArgMatches.{ArgMatches}
use Rattle.cue_show.specs.Number.{same_text}
use Rattle.cue_desk_line.specs.declared.reading.reporting.End.{End}
use Rattle.cue_desk_line.specs.declared.reading.reporting.End.TheVariants.{Minute, Mark}
use Rattle.cue_desk_line.specs.declared.reading.reporting.Report.{Report}
use Rattle.cue_desk_line.specs.declared.reading.words.Line.{Line}
use Rattle.cue_desk_line.specs.declared.reading.words.Line.TheVariants as line

-- it is a digit
abbrev pub is_digit : ℕ → Bool
is_digit c = nat_le 48 c && nat_le c 57

-- the number that two digits are
abbrev pub two_digits : ℕ → ℕ → Option ℕ
two_digits tens ones = if is_digit tens && is_digit ones then Some ((tens - 48) * 10 + (ones - 48)) else None

-- the minute of the day of an hour and a minute, if a clock shows them
abbrev pub minute_at : Option ℕ → Option ℕ → Option ℕ
minute_at None minutes = None
minute_at (Some hours) None = None
minute_at (Some hours) (Some minutes) =
    if nat_lt hours 24 && nat_lt minutes 60 then Some (hours * 60 + minutes) else None

-- the character at a place of a text
abbrev pub sign_at : List ℕ → ℕ → ℕ
sign_at text place = slice_index_or text place 0

-- the minute of the day that a text is: five characters, two digits, a colon and two digits
abbrev pub minute_of : List ℕ → Option ℕ
minute_of text =
    if (length text == 5) && (sign_at text 2 == 58)
    then minute_at (two_digits (sign_at text 0) (sign_at text 1)) (two_digits (sign_at text 3) (sign_at text 4))
    else None

-- the end that a text is: the mark, if it is the word of the mark, else a minute of the day
abbrev pub end_of : List ℕ → List ℕ → Option End
end_of mark text = if same_text text mark then Some Mark else option_map Minute (minute_of text)

-- an end, by the word after its option
abbrev pub end_in : ArgMatches → List ℕ → List ℕ → Option End
end_in m option mark = option_and_then (end_of mark) (first_value (found_of m) option)

-- The ends of a report are what the words after `--from` and `--to` say, and a mark is an end only where a file of marks
-- is said.
pub record IsToldBy (m : ArgMatches) (report : Report) : Type 0 where
  pub begins : report.from ≡ end_in m (codes "from") (codes "up")
  pub ends : report.to ≡ end_in m (codes "to") (codes "down")
  pub from_mark : report.from ≡ Some Mark → IsTrue (is_some report.marks)
  pub to_mark : report.to ≡ Some Mark → IsTrue (is_some report.marks)

-- what is carried out is such a report
abbrev pub IsReportBy : ArgMatches → Line → Type 0
IsReportBy m (line.Report report) = IsToldBy m report
IsReportBy m _ = ⊥
