-- What is drawn, turn by turn: of the newest copy, of the relay, and what is wrong.
use Rattle.std.specs.Prelude.{◌≡◌, ℕ, Bool, List, [], Option, None, Some}
use Rattle.cue_exchange.specs.declared.attempt.Attempt.{Attempt}
use Rattle.cue_station.specs.declared.alarms.Facts.{Facts}
use Rattle.cue_station.specs.declared.heard.Copied.{Copied}
use Rattle.cue_station.specs.declared.memory.Reading.{Reading}
use Rattle.cue_view.specs.declared.view.Alarm.{Alarm}
use Rattle.cue_view.specs.declared.view.Next.TheVariants as next
use Rattle.cue_view.specs.declared.view.Told.{Told}
use Rattle.cue_view.specs.declared.view.View.{View}
use Rattle.cue_station.specs.Turns.{Turn}
use Rattle.cue_station.specs.Reading.{reading_of, answered_of, seen_since}
use Rattle.cue_station.specs.Alarms.{alarms_by, asked_at, awaited_by, differs_since, nobody_of}
use Rattle.cue_station.specs.Alarms.{put_back_in, read_at, trouble_of}
use Rattle.cue_station.specs.Asking.{unshown_of}
use Rattle.cue_station.specs.Following.{next_in}
use Rattle.cue_station.specs.Keeping.{failed_of, numbers_of, shown_failures}
use Rattle.cue_station.specs.Network.{network_by, relayed_of, stamped_at}
use Rattle.cue_station.specs.Showing.{shown_live, stack_of}
use Rattle.cue_station.specs.Telling.{last_in, past_in}

-- What a view says of a copy: `stands`: the copy is young, and is what is served; since when each attempt is seen, and
-- is seen to be given.
pub record ShowsCopy (stands : Bool) (since given : ℕ → Option ℕ) (now wall : ℕ) (v : View) (c : Copied) : Type 0 where
  pub next : v.next ≡ next_in c
  pub place : v.place ≡ c.state.show.place
  pub stack : v.stack.items ≡ stack_of c.state.show
  pub last : v.last ≡ last_in c
  pub past : v.past.items ≡ past_in c
  pub live : v.live.items ≡ shown_live stands since given c.events.items now wall c.state.live

-- what it says if there is none
pub record ShowsNone (v : View) : Type 0 where
  pub next : v.next ≡ next.Unknown
  pub place : v.place ≡ None
  pub stack : v.stack.items ≡ []
  pub last : v.last ≡ None
  pub past : v.past.items ≡ []
  pub live : v.live.items ≡ []

-- what it says of the newest copy
abbrev pub ShowsReading : Bool → (ℕ → Option ℕ) → (ℕ → Option ℕ) → ℕ → ℕ → View → Option Reading → Type 0
ShowsReading stands since given now wall v None = ShowsNone v
ShowsReading stands since given now wall v (Some r) = ShowsCopy stands since given now wall v r.copy

-- the attempts of the newest copy that are live
abbrev pub live_by : Option Reading → List Attempt
live_by None = []
live_by (Some r) = r.copy.state.live

-- what is known at a moment
abbrev pub facts_of : List Turn → ℕ → Facts
facts_of turns now =
    record {
      at = now;
      asked = asked_at (answered_of turns);
      nobody = nobody_of turns;
      differs = differs_since turns;
      stamped = stamped_at (relayed_of turns);
      read = read_at (reading_of turns);
      trouble = trouble_of turns;
      unshown = unshown_of turns;
    }

-- what went wrong, and nobody has said that he saw it; nothing before a copy was read
abbrev pub failures_shown : List Turn → List Told
failures_shown turns = shown_failures (reading_of turns) (failed_of turns)

-- what is wrong at a moment by each of the two clocks, the loudest first
abbrev pub alarms_of : List Turn → ℕ → ℕ → List Alarm
alarms_of turns now wall =
    alarms_by (facts_of turns now) (put_back_in (λ q. seen_since q turns) now wall (live_by (reading_of turns)))
    (numbers_of (failures_shown turns)) (awaited_by (reading_of turns) (network_by (relayed_of turns) now))
