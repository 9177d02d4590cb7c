-- How the text of a status is read: first for what it may say, and then whether that is written so, byte for byte.
use Rattle.std.specs.Prelude.{ℕ, zero, suc, ℤ, pos, negsuc, Bool, true, false, ◌&&◌, if◌then◌else◌, List, [], ◌∷◌}
use Rattle.std.specs.Prelude.{length, codes, Option, Some, None, nat_le}
use Rattle.std.specs.Int.{w32, from_be_bytes}
use Rattle.cue_show.specs.DeviceNumber.{device_of_byte}
use Rattle.cue_show.specs.Number.{same_text}
use Rattle.cue_relay.specs.declared.claims.Claims.{Claims}
use Rattle.cue_relay.specs.declared.claims.Position.{Position}
use Rattle.cue_relay.specs.declared.claims.Reason.{Reason}
use Rattle.cue_relay.specs.declared.claims.TheConstants.{MAX_UNIT, MAX_WORDS}
use Rattle.cue_relay.specs.declared.motion.Motion.{Motion}
use Rattle.cue_relay.specs.declared.motion.Motion.TheVariants.{Unknown, Moving, Over}
use Rattle.cue_relay.specs.declared.relaying.Counts.{Counts}
use Rattle.cue_relay.specs.declared.route.Address.{Address}
use Rattle.cue_relay.specs.declared.status.Ordered.{Ordered}
use Rattle.cue_relay.specs.declared.status.Ordered.TheVariants.{Standby, Go, Cancel}
use Rattle.cue_relay.specs.declared.status.Seen.{Seen}
use Rattle.cue_relay.specs.Claims.{kept}
use Rattle.cue_relay.specs.Pieces.{◌>>=◌, after, below, first_of, if_there, line_at, number_after, number_at}
use Rattle.cue_relay.specs.Pieces.{word_after}
use Rattle.cue_relay.specs.Status.{Said, is_status, status_text}

-- ---- a device

-- a device
unfoldable pub device_at : List ℕ → Option (ℕ × List ℕ)
device_at text = number_after (codes "device ") text >>= λ n. below 256 n.0 >>= λ b. device_of_byte b
    >>= λ d. Some (d, n.1)

-- a number of one byte, after these words
unfoldable pub octet_after : List ℕ → List ℕ → Option (ℕ × List ℕ)
octet_after words text = number_after words text >>= λ n. below 256 n.0 >>= λ b. Some (b, n.1)

-- two of them, the second after a dot
unfoldable pub octets_after : List ℕ → List ℕ → Option ((ℕ × ℕ) × List ℕ)
octets_after words text =
    octet_after words text >>= λ a. octet_after (codes ".") a.1 >>= λ b. Some ((a.0, b.0), b.1)

-- a port
unfoldable pub port_at : List ℕ → Option (ℕ × List ℕ)
port_at text = number_after (codes ":") text >>= λ n. below 65536 n.0 >>= λ port. Some (port, n.1)

-- an address, after a space
unfoldable pub address_at : List ℕ → Option (Address × List ℕ)
address_at text = octets_after (codes " ") text >>= λ a. octets_after (codes ".") a.1 >>= λ b. port_at b.1 >>= λ p.
    Some (record { host = from_be_bytes w32 (a.0.0 ∷ a.0.1 ∷ b.0.0 ∷ b.0.1 ∷ []); port = p.0 }, p.1)

-- that it was never heard
unfoldable pub never_at : List ℕ → Option (Option ℕ × List ℕ)
never_at text = after (codes " never") text >>= λ rest. Some (None, rest)

-- when it was heard
unfoldable pub heard_at : List ℕ → Option (Option ℕ × List ℕ)
heard_at text = by (number_after (codes " heard ") text)
  where
    by : Option (ℕ × List ℕ) → Option (Option ℕ × List ℕ)
    by (Some n) = Some (Some n.0, n.1)
    by None = never_at text

-- the order of this word
unfoldable pub order_at : List ℕ → Ordered → List ℕ → Option (Ordered × List ℕ)
order_at word order text = after word text >>= λ rest. Some (order, rest)

-- the order that it has not answered, if there is one
unfoldable pub ordered_at : List ℕ → Option Ordered × List ℕ
ordered_at text = by (order_at (codes " standby") Standby text) (order_at (codes " go") Go text)
  where
    by : Option (Ordered × List ℕ) → Option (Ordered × List ℕ) → Option Ordered × List ℕ
    by (Some x) go = (Some x.0, x.1)
    by None (Some x) = (Some x.0, x.1)
    by None None = if_there (order_at (codes " cancel") Cancel text) text

-- that it may move
unfoldable pub moving_at : List ℕ → Option (Motion × List ℕ)
moving_at text = word_after (codes " moving ") text >>= λ n. Some (Moving n.0, n.1)

-- which of its motions are over
unfoldable pub over_at : List ℕ → Option (Motion × List ℕ)
over_at text = word_after (codes " over ") text >>= λ n. Some (Over n.0, n.1)

-- what is known of its motions
unfoldable pub motion_at : List ℕ → Motion × List ℕ
motion_at text = first_of (moving_at text) (first_of (over_at text) (Unknown, text))

-- whether it is silent
unfoldable pub silent_at : List ℕ → Bool × List ℕ
silent_at text = by (after (codes " silent") text)
  where
    by : Option (List ℕ) → Bool × List ℕ
    by (Some rest) = (true, rest)
    by None = (false, text)

-- ---- what it told of itself

-- so many bytes at most
abbrev pub short : ℕ → List ℕ → Option (List ℕ)
short most bytes = if nat_le (length bytes) most then Some bytes else None

-- the rest of a line, of so many bytes at most, and what follows its line feed
unfoldable pub rest_at : ℕ → List ℕ → Option (List ℕ × List ℕ)
rest_at most text = short most (line_at text).0 >>= λ said. after (codes "\n") (line_at text).1
    >>= λ rest. Some (said, rest)

-- why it aborted an attempt
unfoldable pub why_said : List ℕ → Option (Reason × List ℕ)
why_said text = word_after (codes "why ") text >>= λ n. after (codes " ") n.1 >>= λ rest. rest_at MAX_WORDS rest
    >>= λ w. Some (record { seq = n.0; words = w.0 }, w.1)

-- a number below 0, of 32 bits
abbrev pub negative : ℕ → ℤ
negative zero = pos zero
negative (suc n) = negsuc n

-- a number that may be negative, of 32 bits
unfoldable pub below_zero : List ℕ → Option (ℤ × List ℕ)
below_zero text = number_after (codes "-") text >>= λ n. below 2147483649 n.0 >>= λ m. Some (negative m, n.1)

unfoldable pub from_zero : List ℕ → Option (ℤ × List ℕ)
from_zero text = below 2147483648 (number_at text).0 >>= λ m. Some (pos m, (number_at text).1)

-- a number after these words that may be negative
unfoldable pub measure_after : List ℕ → List ℕ → Option (ℤ × List ℕ)
measure_after words text = after words text >>= λ rest. by (below_zero rest) (from_zero rest)
  where
    by : Option (ℤ × List ℕ) → Option (ℤ × List ℕ) → Option (ℤ × List ℕ)
    by (Some x) other = Some x
    by None other = other

-- where it was, and where it went
unfoldable pub measures_at : List ℕ → Option ((ℤ × ℤ) × List ℕ)
measures_at text =
    measure_after (codes " ") text >>= λ a. measure_after (codes " ") a.1 >>= λ g. Some ((a.0, g.0), g.1)

-- where it was and where it went, and the unit of both
unfoldable pub place_said : List ℕ → Option (Position × List ℕ)
place_said text = number_after (codes "at ") text >>= λ t. measures_at t.1 >>= λ m. after (codes " ") m.1
    >>= λ rest. rest_at MAX_UNIT rest
    >>= λ u. Some (record { told = t.0; at = m.0.0; goal = m.0.1; unit = u.0 }, u.1)

-- who made it
unfoldable pub who_said : List ℕ → Option (List ℕ × List ℕ)
who_said text = after (codes "who ") text >>= λ rest. rest_at MAX_WORDS rest

-- what it told of itself
unfoldable pub claims_at : List ℕ → Claims × List ℕ
claims_at text =
    let r = if_there (why_said text) text in
    let p = if_there (place_said r.1) r.1 in
    let w = if_there (who_said p.1) p.1 in
    (record { reason = r.0; position = p.0; identity = w.0 }, w.1)

-- ---- the whole

-- what the lines of a device say, after its address
unfoldable pub seen_of : ℕ → Address → List ℕ → Option (Seen × List ℕ)
seen_of device address text = heard_at text >>= λ h.
    let o = ordered_at h.1 in
    let m = motion_at o.1 in
    let s = silent_at m.1 in
    after (codes "\n") s.1 >>= λ rest.
    Some (
      record {
        device = device;
        address = address;
        heard = h.0;
        ordered = o.0;
        motion = m.0;
        silent = s.0;
        claims = (claims_at rest).0;
      },
      (claims_at rest).1,
    )

-- what the lines of a device say
unfoldable pub seen_at : List ℕ → Option (Seen × List ℕ)
seen_at text = device_at text >>= λ d. address_at d.1 >>= λ a. seen_of d.0 a.0 a.1

-- what was found, and more of it in what follows
abbrev pub and_more : {A : Type 0} → (List ℕ → List A) → Option (A × List ℕ) → List A
and_more more None = []
and_more more (Some x) = x.0 ∷ more x.1

-- as many devices as there are, and no more than so many
abbrev pub devices_at : ℕ → List ℕ → List Seen
devices_at zero text = []
devices_at (suc n) text = and_more (devices_at n) (seen_at text)

-- the counts
unfoldable pub counts_at : List ℕ → Option (Counts × List ℕ)
counts_at text =
    number_after (codes "\npassed ") text >>= λ p. number_after (codes " lost ") p.1
    >>= λ l. number_after (codes " dropped ") l.1
    >>= λ d. Some (record { passed = p.0; lost = l.0; dropped = d.0 }, d.1)

-- when it was written, and the counts
unfoldable pub head_at : List ℕ → Option ((ℕ × Counts) × List ℕ)
head_at text = number_after (codes "relay 4 ") text >>= λ n. counts_at n.1 >>= λ c. after (codes "\n") c.1 >>= λ rest.
    Some ((n.0, c.0), rest)

-- what a text may say
unfoldable pub said_at : List ℕ → Option Said
said_at text = head_at text >>= λ h.
    Some (record { now = h.0.0; counts = h.0.1; devices = devices_at (length h.1) h.1 })

-- it is written so
abbrev pub is_written : List ℕ → Said → Bool
is_written text s = is_status s && same_text (status_text s) text

-- what a text says
unfoldable pub read : List ℕ → Option Said
read text = said_at text >>= kept (is_written text)
