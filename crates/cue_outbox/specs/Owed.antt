-- Helper: the orders that are owed, as datagrams: to one device, and to some devices of an attempt.
use Rattle.std.specs.Prelude.{ℕ, List, Option}
use Rattle.std.specs.List.{filter_map}
use Rattle.std.specs.Option.{option_map}
use Rattle.cue_show.specs.declared.part.Part.{Part}
use Rattle.cue_exchange.specs.declared.attempt.DeviceAnswer.{DeviceAnswer}
use Rattle.cue_exchange.specs.declared.attempt.Attempt.{Attempt}
use Rattle.cue_core.specs.State.{ShowState}
use Rattle.cue_core.specs.Pending.{Order, bytes_for, order_at, order_for}
use Rattle.cue_outbox.specs.Sending.{order, orders, datagram, datagrams}

-- the order to a device of the attempt, by the parts of its cue
abbrev pub order_in : Attempt → List Part → ℕ → Order
order_in a parts d = order_at a.stage a.seq d a.cue (bytes_for d parts)

-- the datagram to a device, if it is still to answer
abbrev pub datagram_for : ShowState → Attempt → DeviceAnswer → Option (ℕ × List ℕ)
datagram_for s a x = option_map (λ o. datagram (o.0, order o.1)) (order_for s a x)

-- the datagrams to those devices of the attempt
abbrev pub datagrams_for : ShowState → Attempt → List DeviceAnswer → List (ℕ × List ℕ)
datagrams_for s a xs = datagrams (orders (filter_map (order_for s a) xs))
