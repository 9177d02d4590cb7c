-- The text of a status, byte for byte: when it was written, how many datagrams were handed on, lost and dropped, and
-- each device with what it told of itself.
--
--   relay 4 1764000005000
--   passed 7 lost 0 dropped 2
--   device 3 10.0.7.31:9001 heard 1764000002000 go moving 12
--   why 12 emergency stop pulled
--   at 1764000004900 2310 4000 mm
--   who Acme winch 2.1
--   device 4 10.0.7.32:7000 never standby over 11 silent
--   end
use Rattle.std.specs.Prelude.{ℕ, ℤ, Bool, not, ◌&&◌, ◌==◌, if◌then◌else◌, List, [], ◌++◌, codes, decimal, Option, Some}
use Rattle.std.specs.Prelude.{None}
use Rattle.std.specs.Fmt.{signed_decimal}
use Rattle.std.specs.Int.{w32, to_be_bytes}
use Rattle.std.specs.List.{flat_map, list_all}
use Rattle.std.specs.Net.Text.{ipv4_text}
use Rattle.cue_relay.specs.declared.claims.Claims.{Claims}
use Rattle.cue_relay.specs.declared.claims.Position.{Position}
use Rattle.cue_relay.specs.declared.claims.Reason.{Reason}
use Rattle.cue_relay.specs.declared.motion.Motion.{Motion}
use Rattle.cue_relay.specs.declared.motion.Motion.TheVariants.{Unknown, Moving, Over}
use Rattle.cue_relay.specs.declared.relaying.Counts.{Counts}
use Rattle.cue_relay.specs.declared.route.Address.{Address}
use Rattle.cue_relay.specs.declared.status.Ordered.{Ordered}
use Rattle.cue_relay.specs.declared.status.Ordered.TheVariants.{Standby, Go, Cancel}
use Rattle.cue_relay.specs.declared.status.Seen.{Seen}
use Rattle.cue_relay.specs.declared.status.Status.{Status}
use Rattle.cue_relay.specs.Claims.{are_claims}

-- what a relay says of itself
pub record Said : Type 0 where
  pub now : ℕ
  pub counts : Counts
  pub devices : List Seen

abbrev pub said_of : Status → Said
said_of s = record { now = s.now; counts = s.counts; devices = s.devices.items }

-- ---- a device

-- words, and a number after them
abbrev pub counted : List ℕ → ℕ → List ℕ
counted words n = words ++ decimal n

-- words, and a number that may be negative
abbrev pub measured : List ℕ → ℤ → List ℕ
measured words z = words ++ signed_decimal z

-- four numbers with dots between them, a colon, and the port
unfoldable pub address_text : Address → List ℕ
address_text a = ipv4_text (to_be_bytes w32 a.host) ++ (codes ":" ++ decimal a.port)

-- a device, and where it is
unfoldable pub place_text : ℕ → Address → List ℕ
place_text device address = counted (codes "device ") device ++ (codes " " ++ address_text address)

-- when it answered last
unfoldable pub heard_text : Option ℕ → List ℕ
heard_text None = codes " never"
heard_text (Some now) = counted (codes " heard ") now

-- the word of an order
abbrev pub ordered_word : Ordered → List ℕ
ordered_word Standby = codes " standby"
ordered_word Go = codes " go"
ordered_word Cancel = codes " cancel"

-- the order that it has not answered
abbrev pub ordered_text : Option Ordered → List ℕ
ordered_text None = []
ordered_text (Some order) = ordered_word order

-- what is known of its motions
abbrev pub motion_text : Motion → List ℕ
motion_text Unknown = []
motion_text (Moving seq) = counted (codes " moving ") seq
motion_text (Over seq) = counted (codes " over ") seq

-- whether it is silent, and the end of its line
abbrev pub silent_text : Bool → List ℕ
silent_text silent = if silent then codes " silent\n" else codes "\n"

-- ---- what it told of itself

-- a word, what was told, and the end of the line
unfoldable pub told_text : List ℕ → List ℕ → List ℕ
told_text word told = word ++ (told ++ codes "\n")

-- where it was, and where it went
unfoldable pub measures_text : ℤ → ℤ → List ℕ
measures_text at goal = measured (codes " ") at ++ measured (codes " ") goal

-- why it aborted an attempt
unfoldable pub reason_text : Option Reason → List ℕ
reason_text None = []
reason_text (Some r) = counted (codes "why ") r.seq ++ told_text (codes " ") r.words

-- where it was, where it went, and the unit of both
unfoldable pub position_text : Option Position → List ℕ
position_text None = []
position_text (Some p) =
    counted (codes "at ") p.told ++ (measures_text p.at p.goal ++ told_text (codes " ") p.unit)

-- who made it
unfoldable pub identity_text : Option (List ℕ) → List ℕ
identity_text None = []
identity_text (Some words) = told_text (codes "who ") words

-- the lines of what it told of itself
unfoldable pub claims_text : Claims → List ℕ
claims_text c = reason_text c.reason ++ (position_text c.position ++ identity_text c.identity)

-- ---- the whole

-- the lines of a device
unfoldable pub seen_text : Seen → List ℕ
seen_text s =
    place_text s.device s.address ++ (heard_text s.heard ++ (ordered_text s.ordered ++ (motion_text s.motion
    ++ (silent_text s.silent ++ claims_text s.claims))))

-- when it was written, and the counts
unfoldable pub head_text : ℕ → Counts → List ℕ
head_text now c =
    counted (codes "relay 4 ") now ++ (counted (codes "\npassed ") c.passed ++ (counted (codes " lost ") c.lost
    ++ (counted (codes " dropped ") c.dropped ++ codes "\n")))

-- the whole text
abbrev pub status_text : Said → List ℕ
status_text s = head_text s.now s.counts ++ (flat_map seen_text s.devices ++ codes "end\n")

-- ---- which texts are read

-- neither the host 0.0.0.0 nor the port 0
abbrev pub is_address : Address → Bool
is_address a = not (a.host == 0) && not (a.port == 0)

-- a device at an address, with what a device may tell of itself
abbrev pub is_seen : Seen → Bool
is_seen s = is_address s.address && are_claims s.claims

-- so is each device
abbrev pub is_status : Said → Bool
is_status s = list_all is_seen s.devices
