-- What was sent rests on what was decided, down to the bytes of the datagrams.
use Rattle.std.specs.Prelude.{◌≡◌, ℕ, ◌||◌, List, ◌∷◌, Ok, IsTrue, codes}
use Rattle.std.specs.List.{AllByRecursion, list_any}
use Rattle.cue_osc.specs.Argument.{Argument}
use Rattle.cue_osc.specs.Content.{message}
use Rattle.cue_osc.specs.Reading.{datagram_at}
use Rattle.cue_core.specs.declared.event.Event.{Event}
use Rattle.cue_core.specs.Events.{is_cancel_of, is_go_of, is_start_of}
use Rattle.cue_core.specs.State.{ShowState, is_state}
use Rattle.cue_core.specs.Pending.{Order}
use Rattle.cue_outbox.specs.Sending.{number, datagrams, order_content}
use Rattle.cue_engine.specs.Runs.{Happening, WasPending, is_cancelling_in, run, joined_list}
use Rattle.cue_core.specs.Batches.{is_live_in, is_decided_in}

-- the bytes are read as a message to this address about the attempt with this number
abbrev pub AreReadAs : List ℕ → List ℕ → ℕ → Type 0
AreReadAs bytes address q = (others : List Argument) × (datagram_at bytes ≡ Ok (message address (number q ∷ others)))

-- Bytes that are read as a GO_2PC are for an attempt that is Decided in the state or by a Go among the events; those
-- of a STANDBY or a CANCEL for one that is live in it or starts among them; and of a CANCEL for one that is Cancelling
-- in it or by a Cancel among them.
pub record BytesRest (s : ShowState) (es : List Event) (bytes : List ℕ) : Type 0 where
  pub go_2pc : (q : ℕ) → AreReadAs bytes (codes "/msc/go_2pc") q
      → IsTrue (is_decided_in s q || list_any (is_go_of q) es)
  pub standby : (q : ℕ) → AreReadAs bytes (codes "/msc/standby") q
      → IsTrue (is_live_in s q || list_any (is_start_of q) es)
  pub cancel : (q : ℕ) → AreReadAs bytes (codes "/msc/cancel") q
      → IsTrue (is_live_in s q || list_any (is_start_of q) es)
  pub cancelled : (q : ℕ) → AreReadAs bytes (codes "/msc/cancel") q
      → IsTrue (is_cancelling_in s q || list_any (is_cancel_of q) es)

-- Bytes that are read as an order are of one that is pending in the state, or in the one after the first of the events.
abbrev pub BytesPending : ShowState → List Event → List ℕ → Type 0
BytesPending s es bytes = (o : Order) → datagram_at bytes ≡ Ok (order_content o) → WasPending s es o

-- The bytes of each datagram of a run, recoveries in between or not, rest on the first state and the batches.
abbrev pub BytesOfEachRest : Type 0
BytesOfEachRest = (s : ShowState) (hs : List Happening) → IsTrue (is_state s)
    → AllByRecursion (λ d. BytesRest s (joined_list (run s hs).batches) d.1) (datagrams (run s hs).sends)
