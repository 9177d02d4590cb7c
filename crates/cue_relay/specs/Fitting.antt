-- The numbers that the types of a status hold.
use Rattle.std.specs.Prelude.{ℕ, ◌<◌, ◌≤◌, ◌^◌, IsTrue, Option, Some, None, ⊤, FitsSigned}
use Rattle.std.specs.Int.{w32}
use Rattle.std.specs.List.{AllByRecursion}
use Rattle.cue_show.specs.DeviceNumber.{is_device}
use Rattle.cue_relay.specs.declared.claims.Position.{Position}
use Rattle.cue_relay.specs.declared.motion.Motion.{Motion}
use Rattle.cue_relay.specs.declared.motion.Motion.TheVariants.{Unknown, Moving, Over}
use Rattle.cue_relay.specs.declared.relaying.Counts.{Counts}
use Rattle.cue_relay.specs.declared.route.Address.{Address}
use Rattle.cue_relay.specs.declared.status.Seen.{Seen}
use Rattle.cue_relay.specs.Status.{Said, is_seen}

-- numbers of 64 bits
pub record FitsCounts (c : Counts) : Type 0 where
  pub passed : c.passed < 2 ^ 64
  pub lost : c.lost < 2 ^ 64
  pub dropped : c.dropped < 2 ^ 64

-- a host of 32 bits, and a port of 16
pub record FitsAddress (a : Address) : Type 0 where
  pub host : a.host < 2 ^ 32
  pub port : a.port < 65536

-- a number of 64 bits, if it is there
abbrev pub FitsTime : Option ℕ → Type 0
FitsTime None = ⊤
FitsTime (Some time) = time < 2 ^ 64

-- a number of 32 bits
abbrev pub FitsMotion : Motion → Type 0
FitsMotion Unknown = ⊤
FitsMotion (Moving seq) = seq < 4294967296
FitsMotion (Over seq) = seq < 4294967296

-- a time of 64 bits, and two numbers of 32
abbrev pub FitsPosition : Option Position → Type 0
FitsPosition None = ⊤
FitsPosition (Some p) = (p.told < 2 ^ 64) × FitsSigned w32 p.at × FitsSigned w32 p.goal

-- a device at an address, with what a device may tell of itself, and the numbers that its types hold
pub record FitsSeen (s : Seen) : Type 0 where
  pub is_seen : IsTrue (is_seen s)
  pub device : IsTrue (is_device s.device)
  pub address : FitsAddress s.address
  pub heard : FitsTime s.heard
  pub motion : FitsMotion s.motion
  pub position : FitsPosition s.claims.position

-- and so is each device of a status
pub record FitsStatus (s : Said) : Type 0 where
  pub now : s.now < 2 ^ 64
  pub counts : FitsCounts s.counts
  pub devices : AllByRecursion FitsSeen s.devices
