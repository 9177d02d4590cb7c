-- What a relay says of its devices and of itself, byte for byte.
use Rattle.std.specs.Prelude.{◌≡◌, ℕ, ◌++◌, codes, decimal, List, [], ◌∷◌, Option, Some, None, slice_get}
use Rattle.std.specs.Prelude.{slice_set}
use Rattle.std.specs.Prelude.{map}
use Rattle.std.specs.Option.{option_map}
use Rattle.cue_machine.specs.Addresses.{address_text}
use Rattle.cue_relay.specs.declared.hearing.Contact.{Contact}
use Rattle.cue_relay.specs.declared.hearing.News.{News}
use Rattle.cue_relay.specs.declared.hearing.News.TheVariants.{FirstHeard, HeardAgain, Silent}
use Rattle.cue_relay.specs.declared.hearing.Pending.{Pending}
use Rattle.cue_relay.specs.declared.messages.Message.{Message}
use Rattle.cue_relay.specs.declared.relaying.Counts.{Counts}
use Rattle.cue_relay.specs.declared.status.Ordered.{Ordered}
use Rattle.cue_relay.specs.declared.status.Seen.{Seen}
use Rattle.cue_relay.specs.declared.claims.Claim.{Claim}
use Rattle.cue_relay.specs.Claims.{after_claim, no_claims}
use Rattle.cue_relay.specs.Status.{status_text}
use Rattle.cue_relay.specs.declared.route.Route.{Route}
use Rattle.cue_relay.specs.Hearing.{after_message, after_time}
use Rattle.cue_relay.specs.Silences.{never}
use Rattle.cue_relay_machine.specs.declared.known.Known.{Known}
use Rattle.cue_relay_machine.specs.Places.{machine_address}

-- ---- what is known

-- a device of which nothing is known
abbrev pub unknown : Route → Known
unknown route = record { route = route; contact = never; claims = no_claims }

abbrev pub after_message_of : Known → Message → ℕ → Known
after_message_of k m now = record {
  route = k.route;
  contact = after_message k.contact m now;
  claims = k.claims;
}

abbrev pub after_time_of : ℕ → Known → Known
after_time_of now k = record {
  route = k.route;
  contact = after_time k.contact now;
  claims = k.claims;
}

-- it told this of itself
abbrev pub after_claim_of : Known → Claim → ℕ → Known
after_claim_of k c now = record { route = k.route; contact = k.contact; claims = after_claim k.claims c now }

-- the devices, once the one of this route told this
abbrev pub tell_at : List Known → ℕ → Claim → ℕ → List Known
tell_at known route c now = by (slice_get known route)
  where
    by : Option Known → List Known
    by None = known
    by (Some k) = slice_set known route (after_claim_of k c now)

-- the devices, once this went on by the route of one of them
abbrev pub take_at : List Known → ℕ → Message → ℕ → List Known
take_at known route m now = by (slice_get known route)
  where
    by : Option Known → List Known
    by None = known
    by (Some k) = slice_set known route (after_message_of k m now)

-- ---- lines

abbrev pub news_words : News → List ℕ
news_words FirstHeard = codes "heard"
news_words HeardAgain = codes "heard again"
news_words Silent = codes "silent: it was sent an order, and has answered nothing for five seconds"

-- a line on a device, after its date
abbrev pub device_line : List ℕ → Known → News → List ℕ
device_line date k news =
    date ++ (codes "device " ++ (decimal k.route.device ++ (codes " at "
    ++ (address_text (machine_address k.route.address) ++ (codes ": " ++ (news_words news ++ codes "\n"))))))

-- what the datagrams are that are dropped
abbrev pub dropped_words : List ℕ
dropped_words =
    codes " datagrams dropped: from nobody whom the file names, no answer of the device that sent it, "
    ++ codes "no order, or more than 100 of one device within a second\n"

-- a line on what was dropped, after its date
abbrev pub dropped_line : List ℕ → ℕ → List ℕ
dropped_line date count = date ++ (decimal count ++ dropped_words)

-- what is said of a file that cannot be written
abbrev pub trouble_line : List ℕ → List ℕ
trouble_line path = codes "cuedesk: " ++ (path ++ codes ": the status cannot be written\n")

-- ---- the status

-- the order of what is pending
abbrev pub order_pending : Pending → Ordered
order_pending p = p.order

-- what is said of a device
abbrev pub seen_of : Known → Seen
seen_of k = record {
  device = k.route.device;
  address = k.route.address;
  heard = k.contact.heard;
  ordered = option_map order_pending k.contact.pending;
  motion = k.contact.motion;
  silent = k.contact.silent;
  claims = k.claims;
}

-- the whole status, as a text
abbrev pub known_text : ℕ → Counts → List Known → List ℕ
known_text now c known = status_text (record { now = now; counts = c; devices = map seen_of known })
