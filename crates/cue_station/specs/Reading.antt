-- What the desk knows of the store, and of the controller at its port.
use Rattle.std.specs.Prelude.{ℕ, Bool, true, false, if◌then◌else◌, List, [], ◌∷◌}
use Rattle.std.specs.Prelude.{Option, None, Some, is_some, nat_eq, nat_le, max}
use Rattle.cue_exchange.specs.Live.{attempt_of}
use Rattle.cue_exchange.specs.Outcomes.{outcome_number}
use Rattle.cue_core.specs.State.{ShowState}
use Rattle.cue_core.specs.declared.event.Ended.{Ended}
use Rattle.cue_desk.specs.declared.orders.DeskCommand.{DeskCommand}
use Rattle.cue_desk.specs.declared.orders.DeskCommand.TheVariants as order
use Rattle.cue_desk.specs.declared.replying.Replied.TheVariants as replied
use Rattle.cue_desk.specs.declared.replying.Status.{Status}
use Rattle.cue_station.specs.declared.heard.Copied.{Copied}
use Rattle.cue_station.specs.declared.heard.Heard.{Heard}
use Rattle.cue_station.specs.declared.heard.Heard.TheVariants as heard
use Rattle.cue_station.specs.declared.heard.Send.{Send}
use Rattle.cue_station.specs.declared.memory.Answered.{Answered}
use Rattle.cue_station.specs.declared.memory.Question.{Question}
use Rattle.cue_station.specs.declared.memory.Reading.{Reading}
use Rattle.cue_station.specs.Turns.{Turn}

-- ---- the store

-- the same copy, for another moment
abbrev pub renewed : ℕ → Option Reading → Option Reading
renewed begun None = None
renewed begun (Some r) = Some (record { at = max r.at begun; copy = r.copy })

-- the newer of two; an older copy never replaces a newer one
abbrev pub newer : Copied → Option Reading → Option Reading
newer c None = Some (record { at = c.begun; copy = c })
newer c (Some r) = if nat_le r.at c.begun then Some (record { at = c.begun; copy = c }) else Some r

-- what is known of the store once this was heard
abbrev pub read_with : Heard → Option Reading → Option Reading
read_with (heard.Copied c) old = newer c old
read_with (heard.Same begun) old = renewed begun old
read_with _ old = old

-- what the store stood for when it was read
abbrev pub state_read : Reading → ShowState
state_read r = r.copy.state

-- the newest copy
abbrev pub reading_of : List Turn → Option Reading
reading_of [] = None
reading_of (t ∷ past) = read_with t.input.heard (reading_of past)

-- the copy has the attempt live
abbrev pub has_live : ℕ → Option Reading → Bool
has_live q None = false
has_live q (Some r) = is_some (attempt_of r.copy.state.live q)

-- the moment since which each copy had the attempt live
abbrev pub seen_since : ℕ → List Turn → Option ℕ
seen_since q [] = None
seen_since q (t ∷ past) =
    if has_live q (reading_of (t ∷ past)) then
    if is_some (seen_since q past) then seen_since q past else Some t.input.at else None

-- ---- the controller

abbrev pub is_status : DeskCommand → Bool
is_status order.Status = true
is_status _ = false

-- the question that a message is, if it asks for the status
abbrev pub question_with : Option Send → ℕ → Option Question → Option Question
question_with None at old = old
question_with (Some s) at old = if is_status s.order then Some (record { ask = s.ask; at = at }) else old

-- the newest question for the status
abbrev pub question_of : List Turn → Option Question
question_of [] = None
question_of (t ∷ past) = question_with t.sent t.input.at (question_of past)

-- a status that came to the ask n, if that is the newest question
abbrev pub answered_by : ℕ → Option Question → ℕ → Status → Option Answered → Option Answered
answered_by n None came u old = old
answered_by n (Some q) came u old =
    if nat_eq q.ask n then Some (record { asked = q.at; came = came; status = u }) else old

-- nobody listens where the ask n went: nothing is known, if that is the newest question
abbrev pub forgotten : ℕ → Option Question → Option Answered → Option Answered
forgotten n None old = old
forgotten n (Some q) old = if nat_eq q.ask n then None else old

-- what is known of the controller once this was heard
abbrev pub answered_with : Heard → ℕ → Option Question → Option Answered → Option Answered
answered_with (heard.Replied n (replied.Status u)) came q old = answered_by n q came u old
answered_with (heard.Nobody n) came q old = forgotten n q old
answered_with _ came q old = old

-- the newest status that came, each to the ask that was the newest then, at its own socket
abbrev pub answered_of : List Turn → Option Answered
answered_of [] = None
answered_of (t ∷ past) = answered_with t.input.heard t.input.at (question_of past) (answered_of past)

-- ---- both

abbrev pub ended_number : Option Ended → ℕ
ended_number None = 0
ended_number (Some e) = e.seq

abbrev pub ended_outcome : Option Ended → ℕ
ended_outcome None = 0
ended_outcome (Some e) = outcome_number e.outcome
