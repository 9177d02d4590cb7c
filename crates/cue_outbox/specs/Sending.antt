-- What is sent, and its bytes.
use Rattle.std.specs.Prelude.{ℕ, pos, List, [], ◌∷◌, length, map, Option, unwrap_or, codes}
use Rattle.std.specs.Option.{option_map_or}
use Rattle.cue_osc.specs.Argument.{Argument, int, text, blob}
use Rattle.cue_osc.specs.Content.{Content, message}
use Rattle.cue_osc.specs.Writing.{text_of}
use Rattle.cue_exchange.specs.Outcomes.{outcome_number}
use Rattle.cue_core.specs.declared.event.Ended.{Ended}
use Rattle.cue_core.specs.State.{ShowState}
use Rattle.cue_core.specs.Pending.{Order, standby, go_2pc, cancel, pending}

-- a datagram that is sent: the reply to a message, the status, or an order to a device
pub data Send : Type 0 where
  reply : (address : List ℕ) (made known refused code : ℕ) → Send
  status : (last : ℕ) (place : List ℕ) (live ended outcome : ℕ) → Send
  order : Order → Send

-- a number as an argument
abbrev pub number : ℕ → Argument
number n = int (pos n)

-- an order as an OSC message
unfoldable pub order_content : Order → Content
order_content (standby q d cue bytes) =
    message (codes "/msc/standby") (number q ∷ number d ∷ text cue ∷ blob bytes ∷ [])
order_content (go_2pc q d) = message (codes "/msc/go_2pc") (number q ∷ number d ∷ [])
order_content (cancel q d) = message (codes "/msc/cancel") (number q ∷ number d ∷ [])

-- what is sent as an OSC message
unfoldable pub send_content : Send → Content
send_content (reply address made known refused code) =
    message (codes "/reply") (text address ∷ number made ∷ number known ∷ number refused ∷ number code ∷ [])
send_content (status last place live ended outcome) =
    message (codes "/status") (number last ∷ text place ∷ number live ∷ number ended ∷ number outcome ∷ [])
send_content (order o) = order_content o

-- the port that it goes to, and its bytes
unfoldable pub datagram : ℕ × Send → ℕ × List ℕ
datagram send = (send.0, text_of (send_content send.1))

-- each with its port and its bytes
abbrev pub datagrams : List (ℕ × Send) → List (ℕ × List ℕ)
datagrams sends = map datagram sends

-- the number of the attempt that ended last; 0 before the first
abbrev pub ended_number : Option Ended → ℕ
ended_number e = option_map_or (λ (e : Ended). e.seq) e 0

-- how it ended; 0 before the first
abbrev pub ended_outcome : Option Ended → ℕ
ended_outcome e = option_map_or (λ (e : Ended). outcome_number e.outcome) e 0

-- the state as the status shows it
unfoldable pub status_of : ShowState → Send
status_of s =
    status s.last_seq (unwrap_or s.show.place []) (length s.live) (ended_number s.ended) (ended_outcome s.ended)

-- orders as what is sent, each to its port
abbrev pub orders : List (ℕ × Order) → List (ℕ × Send)
orders os = map (λ o. (o.0, order o.1)) os

-- the orders that the devices are still to answer
abbrev pub all_pending : ShowState → List (ℕ × Send)
all_pending s = orders (pending s)
