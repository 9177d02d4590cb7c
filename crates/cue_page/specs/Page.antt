-- A view as JSON (RFC 8259): what the page draws.
use Rattle.std.specs.Prelude.{ℕ, List, ◌-◌, filter, map, codes, Option, None, Some, option_map}
use Rattle.std.specs.List.{list_any}
use Rattle.serde_json.specs.Data.{Data, null, boolean, number, unsigned, string, array, object, Members, member}
use Rattle.serde_json.specs.Data.{no_members, put}
use Rattle.serde_json.specs.View.{items_of, view}
use Rattle.cue_show_file.specs.declared.together.Group.{Group}
use Rattle.cue_view.specs.declared.view.View.{View}
use Rattle.cue_view.specs.Late.{relay_late, serve_late}
use Rattle.cue_request.specs.Lit.{button_data}
use Rattle.cue_page.specs.Alarms.{alarm_data}
use Rattle.cue_page.specs.Buttons.{is_move, is_other}
use Rattle.cue_page.specs.Ends.{told_data, told_or_null}
use Rattle.cue_page.specs.Live.{attempt_data}
use Rattle.cue_page.specs.Marks.{marks_data}
use Rattle.cue_page.specs.Network.{contact_data}
use Rattle.cue_page.specs.Said.{said_data, unsent_data}
use Rattle.cue_page.specs.Stack.{next_data, number_data}
use Rattle.cue_page.specs.Whereabouts.{whereabouts_data}
use Rattle.cue_page.specs.declared.board.FirstHalf.{FirstHalf}
use Rattle.cue_page.specs.declared.board.Manner.{Manner}
use Rattle.cue_page.specs.declared.board.Parts.{Parts}
use Rattle.cue_page.specs.declared.board.SecondHalf.{SecondHalf}
use Rattle.cue_page.specs.declared.board.whereabouts.Standing.{Standing}

-- how old a thing of this moment is; null if it never came
abbrev pub age_data : ℕ → Option ℕ → Data
age_data at None = null
age_data at (Some moment) = number (unsigned (at - moment))

-- for how long something is silent; null if it is not late
abbrev pub silent_data : Option ℕ → Data
silent_data None = null
silent_data (Some silent) = number (unsigned silent)

-- which of controller and relay is late
abbrev pub late_data : View → Data
late_data v =
    object (member (codes "relay") (silent_data (relay_late v))
    (member (codes "serve") (silent_data (serve_late v)) no_members))

-- the attempt that GO and CANCEL are for
abbrev pub chosen_data : Option ℕ → Data
chosen_data None = null
chosen_data (Some q) = number (unsigned q)

-- the cue to which the way back leads
abbrev pub back_data : Option (List ℕ) → Data
back_data None = null
back_data (Some c) = string c

-- all that a view says, and where devices stand
abbrev pub view_data : ℕ → List Group → Standing → View → Data
view_data port groups standing v =
    object (member (codes "alarms") (array (items_of (map (alarm_data port v.at) v.alarms.items)))
    (member (codes "back") (back_data v.back)
    (member (codes "before") (said_data port v.before)
    (member (codes "chosen") (chosen_data v.chosen)
    (member (codes "failed") (array (items_of (map told_data v.failed.items)))
    (member (codes "last") (told_or_null v.last)
    (member (codes "late") (late_data v)
    (member (codes "lit") (array (items_of (map button_data (filter is_other v.lit.items))))
    (member (codes "live") (array (items_of (map (attempt_data v) v.live.items)))
    (member (codes "moves") (boolean (list_any is_move v.lit.items))
    (member (codes "network") (array (items_of (map contact_data v.network.items)))
    (member (codes "next") (next_data groups v.next)
    (member (codes "number") (number (unsigned v.number))
    (member (codes "past") (array (items_of (map told_data v.past.items)))
    (member (codes "read") (age_data v.at v.read)
    (member (codes "said") (said_data port v.said)
    (member (codes "served") (age_data v.at v.served)
    (member (codes "stack") (array (items_of (map number_data v.stack.items)))
    (member (codes "unsent") (unsent_data v.unsent)
    (member (codes "whereabouts") (whereabouts_data groups v.next standing) no_members))))))))))))))))))))

-- the first half of the parts, each by its name, and more members after them
abbrev pub first_members : FirstHalf → Members → Members
first_members p more =
    member (codes "alarms") (view p.alarms)
    (member (codes "back") (view p.back)
    (member (codes "before") (view p.before)
    (member (codes "chosen") (view p.chosen)
    (member (codes "failed") (view p.failed)
    (member (codes "last") (view p.last)
    (member (codes "late") (view p.late)
    (member (codes "lit") (view p.lit)
    (member (codes "live") (view p.live)
    (member (codes "moves") (boolean p.moves)
    (member (codes "network") (view p.network)
    (member (codes "next") (view p.next) more)))))))))))

-- the second half
abbrev pub second_members : SecondHalf → Members
second_members p =
    member (codes "number") (number (unsigned p.number))
    (member (codes "past") (view p.past)
    (member (codes "read") (view p.read)
    (member (codes "said") (view p.said)
    (member (codes "served") (view p.served)
    (member (codes "stack") (view p.stack)
    (member (codes "unsent") (view p.unsent)
    (member (codes "whereabouts") (view p.whereabouts) no_members)))))))

abbrev pub parts_data : Parts → Data
parts_data p = object (first_members p.first (second_members p.second))

-- members to which the second half was added, one after the other
unfoldable pub with_second : SecondHalf → Members → Members
with_second p members =
    put (codes "whereabouts") (view p.whereabouts) (put (codes "unsent") (view p.unsent)
    (put (codes "stack") (view p.stack) (put (codes "served") (view p.served)
    (put (codes "said") (view p.said) (put (codes "read") (view p.read)
    (put (codes "past") (view p.past) (put (codes "number") (number (unsigned p.number)) members)))))))

-- the line about the show file; null if there is none
abbrev pub file_line_data : Manner → Data
file_line_data m = elim m.told [ None ↦ null | Some told ↦ string told.now ]

-- what the page gets: the view, what its numbers are called, and in what manner it is shown: in which run of the desk
-- it was made, whether some presses need a word, whether none is taken, whether a rehearsal plays the devices, when the
-- curtain moved, and what is told of the show file
abbrev pub page_data : Data → Manner → Data → Data
page_data called m facts =
    object (member (codes "locked") (boolean m.is_locked)
    (member (codes "marks") (marks_data (option_map (λ marks. marks.now) m.marks))
    (member (codes "names") called
    (member (codes "readonly") (boolean m.is_read_only)
    (member (codes "rehearsed") (boolean m.is_rehearsed)
    (member (codes "run") (string m.run.now)
    (member (codes "told") (file_line_data m)
    (member (codes "view") facts no_members))))))))
