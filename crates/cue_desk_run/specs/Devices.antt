-- What a desk knows of where devices stand, by what it heard.
use Rattle.std.specs.Prelude.{◌≡◌, List}
use Rattle.cue_station.specs.declared.heard.Copied.{Copied}
use Rattle.cue_station.specs.declared.heard.Heard.{Heard}
use Rattle.cue_station.specs.declared.heard.Heard.TheVariants as heard
use Rattle.cue_whereabouts.specs.Differing.{differences}
use Rattle.cue_whereabouts.specs.Memory as memory
use Rattle.cue_whereabouts.specs.declared.differing.Difference.{Difference}
use Rattle.cue_whereabouts.specs.declared.memory.Known.{Known}
use Rattle.cue_desk_run.specs.declared.devices.DeviceWatch.{DeviceWatch}

-- what is known once a copy was heard: its store knows no later attempt than its last one, and its events are heard
abbrev pub known_by : Copied → List Known → List Known
known_by c all = memory.heard c.state.show c.events.items (memory.forgotten_after c.state.last_seq all)

-- the same of anything that is heard: a copy alone says something of devices
abbrev pub known_after : Heard → List Known → List Known
known_after (heard.Copied c) all = known_by c all
known_after _ all = all

-- the devices that do not stand as the stack of the copy supposes
abbrev pub differences_by : Copied → List Known → List Difference
differences_by c all = differences c.state all

-- the differences are those of the copy, or stay as they were
abbrev pub AreOf : Heard → (new old : DeviceWatch) → Type 0
AreOf (heard.Copied c) new old = new.differences.items ≡ differences_by c new.known
AreOf _ new old = new.differences ≡ old.differences
