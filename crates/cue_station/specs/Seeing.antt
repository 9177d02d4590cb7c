-- What is kept of the live attempts and of the newest question, once something more was heard.
use Rattle.std.specs.Prelude.{ℕ, if◌then◌else◌, List, [], map, Option, None, Some, unwrap_or, nat_eq}
use Rattle.cue_exchange.specs.Answers.{is_decided}
use Rattle.cue_exchange.specs.declared.attempt.Attempt.{Attempt}
use Rattle.cue_station.specs.declared.memory.Question.{Question}
use Rattle.cue_station.specs.declared.memory.Reading.{Reading}
use Rattle.cue_station.specs.declared.memory.Seen.{Seen}
use Rattle.cue_station.specs.Showing.{given_in, since_in}

-- when the newest question was sent, if this is its ask
abbrev pub asked_at : ℕ → Option Question → Option ℕ
asked_at n None = None
asked_at n (Some q) = if nat_eq q.ask n then Some q.at else None

-- since when the attempt is seen to be given
abbrev pub given_now : List Seen → ℕ → Attempt → Option ℕ
given_now old at a = if is_decided a.stage then Some (unwrap_or (given_in old a.seq) at) else None

-- the attempt, and since when it is seen
abbrev pub seen_now : List Seen → ℕ → Attempt → Seen
seen_now old at a =
    record { seq = a.seq; since = unwrap_or (since_in old a.seq) at; given = given_now old at a }

-- each attempt of the copy that is live
abbrev pub seen_after : List Seen → ℕ → Option Reading → List Seen
seen_after old at None = []
seen_after old at (Some r) = map (seen_now old at) r.copy.state.live
