-- The asks of a desk whose answers are awaited, the oldest first.
use Rattle.std.specs.Prelude.{◌≡◌, ◌<◌, ℕ, Bool, true, false, not, if◌then◌else◌, nat_lt, List, [], ◌∷◌, ◌++◌, length}
use Rattle.std.specs.Prelude.{Option, Some, None, count_by, position, remove}
use Rattle.std.specs.List.{slice_index_or}
use Rattle.mio.specs.declared.net.udp.UdpSocket.{UdpSocket}
use Rattle.cue_ask_machine.specs.declared.letters.Letter.{Letter}
use Rattle.cue_station.specs.declared.heard.Heard.{Heard}
use Rattle.cue_desk_run.specs.declared.ask.Ask.{Ask}
use Rattle.cue_desk_run.specs.Hearing.{IsHeardOf}

-- it is a question for the status; or else it is none
abbrev pub is_of_kind : Bool → Ask → Bool
is_of_kind status a = if status then a.letter.is_status else not a.letter.is_status

-- the most of a kind: one question for the status, and two others
abbrev pub most_of : Bool → ℕ
most_of status = if status then 1 else 2

-- the asks without the one at a place, if there is a place
abbrev pub without : Option ℕ → List Ask → List Ask
without None asks = asks
without (Some place) asks = remove asks place

-- the asks with room for one more of a kind: where there are as many as may be, the oldest of that kind is closed; the
-- others stay, in order
abbrev pub with_room : Bool → List Ask → List Ask
with_room status asks =
    if nat_lt (count_by (is_of_kind status) asks) (most_of status) then asks
    else without (position (is_of_kind status) asks) asks

-- this letter is the newest ask; the others stay
pub record Adds (l : Letter) (old new : List Ask) : Type 0 where
  pub socket : UdpSocket
  pub added : new ≡ old ++ record { letter = l; socket = socket } ∷ []

-- this is an answer to the ask at the place
pub record IsAnswer (asks : List Ask) (place : ℕ) (h : Heard) : Type 0 where
  pub ask : Ask
  pub within : place < length asks
  pub at : slice_index_or asks place ask ≡ ask
  pub answers : IsHeardOf ask.letter h

-- What is heard is an answer to one of the asks, which is closed by it: it has no second one. The others stay, in order.
pub record Closes (h : Heard) (old new : List Ask) : Type 0 where
  pub before : List Ask
  pub ask : Ask
  pub after : List Ask
  pub was : old ≡ before ++ ask ∷ after
  pub stay : new ≡ before ++ after
  pub answers : IsHeardOf ask.letter h
