-- Which reply is the answer to a letter.
use Rattle.std.specs.Prelude.{ℕ, ℤ, pos, Bool, ◌&&◌, ◌||◌, nat_lt, if◌then◌else◌, List, Option, Some, None}
use Rattle.std.specs.Ordering.{int_eq}
use Rattle.cue_osc.specs.Reading.{datagram_at}
use Rattle.cue_desk.specs.declared.orders.DeskCommand.{DeskCommand}
use Rattle.cue_desk.specs.declared.replying.Replied.{Replied}
use Rattle.cue_desk.specs.declared.replying.Replied.TheVariants as replied
use Rattle.cue_desk.specs.Replies.{replied_in}
use Rattle.cue_desk.specs.Together.{condensed}
use Rattle.cue_ask_machine.specs.declared.letters.Letter.{Letter}
use Rattle.cue_ask_machine.specs.Letters.{count_of, is_status, shown_of}

-- the first of these numbers is 1, and the others are 0
abbrev pub is_alone : ℤ → ℤ → ℤ → Bool
is_alone n one other = int_eq n (pos 1) && (int_eq one (pos 0) && int_eq other (pos 0))

-- the reply speaks of exactly one command: it was made, was known or was refused
abbrev pub is_of_one : ℤ → ℤ → ℤ → Bool
is_of_one made known refused =
    is_alone made known refused || (is_alone known made refused || is_alone refused made known)

-- the reply, if it is such a one
abbrev pub of_one : Replied → Option Replied
of_one (replied.Reply made known refused code) =
    if is_of_one made known refused then Some (replied.Reply made known refused code) else None
of_one (replied.Status u) = None

-- to a message for so many cues: of several, what it says of them all
abbrev pub of_count : ℕ → Replied → Option Replied
of_count count r = if nat_lt 1 count then condensed count r else of_one r

-- to a question for the status: the status
abbrev pub of_status : Replied → Option Replied
of_status (replied.Reply made known refused code) = None
of_status (replied.Status u) = Some (replied.Status u)

-- to what was asked
abbrev pub of_asked : Bool → ℕ → Replied → Option Replied
of_asked status count r = if status then of_status r else of_count count r

-- the same of what a datagram says, if it says something to who asked
abbrev pub of_said : Bool → ℕ → Option Replied → Option Replied
of_said status count None = None
of_said status count (Some r) = of_asked status count r

-- what a datagram answers to a letter
abbrev pub answer_in : Letter → List ℕ → Option Replied
answer_in l bytes = of_said l.is_status l.count (replied_in l.shown.items (datagram_at bytes))

-- what a datagram answers to what was asked, with these others stood by, too
abbrev pub answer_to : DeskCommand → List (List ℕ) → List ℕ → Option Replied
answer_to o others bytes =
    of_said (is_status o) (count_of others) (replied_in (shown_of o others) (datagram_at bytes))
