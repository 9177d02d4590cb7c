-- What a view is made of.
use Rattle.std.specs.Prelude.{◌≡◌, ◌++◌, ℕ, List, [], Option, None, Some, filter, is_some}
use Rattle.std.specs.Option.{option_map}
use Rattle.cue_station.specs.declared.alarms.Facts.{Facts}
use Rattle.cue_view.specs.declared.button.Button.{Button}
use Rattle.cue_station.specs.declared.heard.Copied.{Copied}
use Rattle.cue_station.specs.declared.lighting.Footing.{Footing}
use Rattle.cue_station.specs.declared.memory.Notes.{Notes}
use Rattle.cue_station.specs.declared.memory.Reading.{Reading}
use Rattle.cue_station.specs.declared.memory.Relayed.{Relayed}
use Rattle.cue_station.specs.declared.memory.Seen.{Seen}
use Rattle.cue_view.specs.declared.view.Alarm.{Alarm}
use Rattle.cue_view.specs.declared.view.Next.TheVariants as next
use Rattle.cue_view.specs.declared.view.Told.{Told}
use Rattle.cue_view.specs.declared.view.View.{View}
use Rattle.cue_station.specs.declared.viewing.Drawn.{Drawn}
use Rattle.cue_station.specs.Alarms.{alarms_by, asked_at, awaited_by, put_back_in, read_at}
use Rattle.cue_station.specs.Asking.{said_by, unshown_by}
use Rattle.cue_station.specs.Choosing.{is_awaited}
use Rattle.cue_station.specs.Drawing.{ShowsReading, live_by}
use Rattle.cue_station.specs.Following.{next_in}
use Rattle.cue_station.specs.Moving.{back_by, place_by}
use Rattle.cue_station.specs.Lighting.{keys_of, may_in}
use Rattle.cue_station.specs.Keeping.{numbers_of, shown_failures}
use Rattle.cue_station.specs.Network.{network_by, stamped_at}
use Rattle.cue_station.specs.Smaller.{smaller_of}
use Rattle.cue_station.specs.Showing.{given_in, shown_live, since_in, stack_of}
use Rattle.cue_station.specs.Telling.{last_in, past_in}

-- ---- the alarms

-- what is known when the alarms are made
abbrev pub facts_by : Notes → Option Reading → Option Relayed → ℕ → Facts
facts_by n r relay now =
    record {
      at = now;
      asked = asked_at n.answered;
      nobody = n.nobody;
      differs = n.differs;
      stamped = stamped_at relay;
      read = read_at r;
      trouble = n.trouble;
      unshown = unshown_by n.press;
    }

-- what is wrong
abbrev pub alarms_in : Notes → Option Reading → Option Relayed → List Seen → List Told → Footing → List Alarm
alarms_in n r relay seen kept f =
    alarms_by (facts_by n r relay f.at) (put_back_in (since_in seen) f.at f.wall (live_by r))
    (numbers_of (shown_failures r kept)) (awaited_by r (network_by relay f.at))

-- ---- what is shown of a copy

pub record DrawsNone (d : Drawn) : Type 0 where
  pub next : d.next ≡ next.Unknown
  pub place : d.place ≡ None
  pub stack : d.stack.items ≡ []
  pub last : d.last ≡ None
  pub past : d.past.items ≡ []
  pub live : d.live.items ≡ []

pub record DrawsCopy (f : Footing) (seen : List Seen) (c : Copied) (d : Drawn) : Type 0 where
  pub next : d.next ≡ next_in c
  pub place : d.place ≡ c.state.show.place
  pub stack : d.stack.items ≡ stack_of c.state.show
  pub last : d.last ≡ last_in c
  pub past : d.past.items ≡ past_in c
  pub live : d.live.items ≡ shown_live f.stands (since_in seen) (given_in seen) c.events.items f.at f.wall c.state.live

abbrev pub DrawsBy : Footing → List Seen → Option Reading → Drawn → Type 0
DrawsBy f seen None d = DrawsNone d
DrawsBy f seen (Some r) d = DrawsCopy f seen r.copy d

-- ---- the lit buttons

-- the cues are the whole stack of the newest copy
abbrev pub AreStack : Option Reading → List (List ℕ) → Type 0
AreStack None cues = Unit {0}
AreStack (Some r) cues = cues ≡ stack_of r.copy.state.show

-- of the great buttons, and of the smaller ones, those that may be lit
abbrev pub LightsBy : Footing → List Seen → Option Reading → List (List ℕ) → List Alarm → List Button → Type 0
LightsBy f seen None cues alarms lit = lit ≡ []
LightsBy f seen (Some r) cues alarms lit =
    lit ≡ filter (may_in f (since_in seen) r.copy)
    (keys_of f r.copy ++ smaller_of r.copy.state.live cues alarms)

-- ---- the view

-- The view of these notes, of the newest copy, of the relay, of the attempts that are seen and of what went wrong.
pub record IsView (n : Notes) (r : Option Reading) (relay : Option Relayed) (seen : List Seen) (kept : List Told)
    (f : Footing) (v : View) : Type 0 where
  pub at : v.at ≡ f.at
  pub read : v.read ≡ read_at r
  pub served : v.served ≡ asked_at n.answered
  pub stamped : v.stamped ≡ stamped_at relay
  pub chosen : v.chosen ≡ f.chosen
  pub awaits : v.awaits ≡ is_awaited n.choice
  pub differs : v.differs ≡ is_some n.differs
  pub back : v.back ≡ back_by n.moved (place_by r)
  pub said : v.said ≡ option_map (said_by r) n.press
  pub before : v.before ≡ option_map (said_by r) n.before
  pub copy : ShowsReading f.stands (since_in seen) (given_in seen) f.at f.wall v r
  pub lit : LightsBy f seen r v.stack.items v.alarms.items v.lit.items
  pub failed : v.failed.items ≡ shown_failures r kept
  pub network : v.network.items ≡ network_by relay f.at
  pub alarms : v.alarms.items ≡ alarms_in n r relay seen kept f
