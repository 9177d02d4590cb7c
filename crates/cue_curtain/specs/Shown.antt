-- Which marks a page shows.
use Rattle.std.specs.Prelude.{ℕ, ◌-◌, Bool, ◌&&◌, if◌then◌else◌, nat_le, List, Option, None, Some}
use Rattle.std.specs.List.{filter_map}
use Rattle.cue_connection.specs.declared.marking.CurtainMove.{CurtainMove}
use Rattle.cue_connection.specs.declared.marking.CurtainMove.TheVariants as move
use Rattle.cue_page.specs.declared.board.marks.CurtainMark.{CurtainMark}
use Rattle.cue_report.specs.Ends.{is_up}
use Rattle.cue_report.specs.declared.marks.Curtain.{Curtain}
use Rattle.cue_report.specs.declared.marks.Curtain.TheVariants as curtain
use Rattle.cue_report.specs.declared.marks.Mark.{Mark}
use Rattle.cue_curtain.specs.declared.showing.TheConstants.{EVENING}

-- what a press of the page marks
abbrev pub curtain_of : CurtainMove → Curtain
curtain_of move.Up = curtain.Up
curtain_of move.Down = curtain.Down

-- the mark is of the evening that is seen at this second: it is not to come, and not as old as half a day
abbrev pub is_of_evening : ℕ → Mark → Bool
is_of_evening now mark = nat_le mark.at now && nat_le (now - mark.at) EVENING

-- the mark as the page has it
abbrev pub page_mark : Mark → CurtainMark
page_mark mark = record { at = mark.at; is_up = is_up mark.curtain }

-- the same of a mark of the evening
abbrev pub shown_at : ℕ → Mark → Option CurtainMark
shown_at now mark = if is_of_evening now mark then Some (page_mark mark) else None

-- those of the evening, in their order
abbrev pub shown_of : ℕ → List Mark → List CurtainMark
shown_of now marks = filter_map (shown_at now) marks
