-- The letter of what is asked.
use Rattle.std.specs.Prelude.{◌≡◌, ℕ, ◌+◌, Bool, true, false, List, length, take, min, Ok}
use Rattle.cue_osc.specs.Reading.{datagram_at}
use Rattle.cue_desk.specs.declared.orders.DeskCommand.{DeskCommand}
use Rattle.cue_desk.specs.declared.orders.DeskCommand.TheVariants as order
use Rattle.cue_desk.specs.Together.{address_with, message_with}
use Rattle.cue_ask_machine.specs.declared.letters.Letter.{Letter}

-- it is a question for the status
abbrev pub is_status : DeskCommand → Bool
is_status order.Status = true
is_status o = false

-- how many cues are asked for with these others, as far as a byte counts
abbrev pub count_of : List (List ℕ) → ℕ
count_of others = min (length others + 1) 255

-- the address that is asked, as a reply shows it: its first 64 bytes
abbrev pub shown_of : DeskCommand → List (List ℕ) → List ℕ
shown_of o others = take 64 (address_with o others)

-- The letter that asks it, and stands these others by, too: its bytes are that one message, and it is known what its
-- reply is read by.
pub record IsLetterOf (o : DeskCommand) (others : List (List ℕ)) (l : Letter) : Type 0 where
  pub asks : datagram_at l.message.items ≡ Ok (message_with o others)
  pub shows : l.shown.items ≡ shown_of o others
  pub count : l.count ≡ count_of others
  pub status : l.is_status ≡ is_status o
