-- What was known before something was heard, and what is heard beside the store and the relay.
use Rattle.std.specs.Prelude.{ℕ, Bool, true, Option, None, Some, nat_le}
use Rattle.std.specs.Option.{option_map}
use Rattle.cue_station.specs.declared.heard.Heard.{Heard}
use Rattle.cue_station.specs.declared.heard.Heard.TheVariants as heard
use Rattle.cue_station.specs.declared.hearing.Before.{Before}
use Rattle.cue_station.specs.declared.hearing.Before.TheVariants as before
use Rattle.cue_station.specs.declared.memory.Reading.{Reading}
use Rattle.cue_station.specs.declared.memory.Relayed.{Relayed}

-- a copy that was begun at the moment is as new as the one that is known
abbrev pub is_newer : ℕ → Option Reading → Bool
is_newer begun None = true
is_newer begun (Some r) = nat_le r.at begun

-- the copy that was known before
abbrev pub before_reading : Before → Option Reading → Option Reading
before_reading before.Same r = r
before_reading (before.Reading old) r = old
before_reading (before.Moment at) r = option_map (λ (x : Reading). record x { at = at }) r
before_reading (before.Relay old) r = r

-- what was known of the relay before
abbrev pub before_relay : Before → Option Relayed → Option Relayed
before_relay before.Same r = r
before_relay (before.Reading old) r = r
before_relay (before.Moment at) r = r
before_relay (before.Relay old) r = old

-- what is heard beside a copy and beside the words of the relay
abbrev pub hollow : Heard → Heard
hollow (heard.Copied c) = heard.Same c.begun
hollow (heard.Same begun) = heard.Same begun
hollow (heard.Unread why) = heard.Unread why
hollow (heard.Replied n r) = heard.Replied n r
hollow (heard.Nobody n) = heard.Nobody n
hollow (heard.Pressed view b) = heard.Pressed view b
hollow (heard.Relay s) = heard.Relay None
hollow (heard.Kept k) = heard.Kept k
hollow heard.Tick = heard.Tick
