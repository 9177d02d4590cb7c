-- What an input came to, as values, for whoever writes a log.
use Rattle.std.specs.Prelude.{ℕ, ◌+◌, Bool, true, List, [], ◌∷◌, length, map, take, if◌then◌else◌, Option, Some, None}
use Rattle.std.specs.List.{filter_map, flat_map}
use Rattle.std.specs.Option.{option_map}
use Rattle.cue_exchange.specs.declared.attempt.Attempt.{Attempt}
use Rattle.cue_exchange.specs.declared.attempt.DeviceAnswer.{DeviceAnswer}
use Rattle.cue_core.specs.declared.event.Event.{Event}
use Rattle.cue_core.specs.Codes.{code_number}
use Rattle.cue_core.specs.InTurn.{events_of}
use Rattle.cue_core.specs.Pending.{Order as Pending, standby, go_2pc, cancel, order_for}
use Rattle.cue_core.specs.State.{ShowState}
use Rattle.cue_show.specs.Devices.{is_among}
use Rattle.cue_outbox.specs.Asked.{is_asked}
use Rattle.cue_outbox.specs.Sending.{Send, reply, status, order}
use Rattle.cue_engine.specs.declared.account.Account.{Account}
use Rattle.cue_engine.specs.declared.account.Order.{Order}
use Rattle.cue_engine.specs.declared.account.OrderKind.TheVariants as kind
use Rattle.cue_engine.specs.declared.account.Reply.{Reply}
use Rattle.cue_engine.specs.declared.taken.Taken.{Taken}
use Rattle.cue_engine.specs.Heard.{Heard, refused, carried, counts_of, first_code, shown_sends, no_counts, one_refused}

-- what is sent for an input: the replies, each with its statuses, and then the orders
pub record Accounted : Type 0 where
  pub replies : List Reply
  pub orders : List Order

-- ---- replies

-- a reply without statuses and events; it shows at most 64 bytes of the address
abbrev pub plain_reply : ℕ → List ℕ → Taken → ℕ → Reply
plain_reply port address counts code = record {
  port = port;
  address = take 64 address;
  counts = counts;
  code = code;
  statuses = 0;
  events = 0;
}

-- the reply to a message: after it come the statuses that were asked for, and its own events are so many
abbrev pub reply_to : ℕ → Heard → Reply
reply_to from (refused address code) = plain_reply from address one_refused (code_number code)
reply_to from (carried address xs) = record {
  port = from;
  address = take 64 address;
  counts = counts_of xs;
  code = first_code xs;
  statuses = length (shown_sends xs);
  events = length (events_of xs);
}

-- a datagram without messages has one reply, too
abbrev pub reply_or_more : ℕ → List Reply → List Reply
reply_or_more from [] = plain_reply from [] no_counts 0 ∷ []
reply_or_more from (r ∷ rs) = r ∷ rs

-- how many events they have together
abbrev pub events_in : List Reply → ℕ
events_in [] = 0
events_in (r ∷ rs) = r.events + events_in rs

-- the replies to all messages, or the one
abbrev pub replies_of : ℕ → List Heard → List Reply
replies_of from hs = reply_or_more from (map (reply_to from) hs)

-- ---- orders

-- an order with its port, new or sent again
abbrev pub order_of : Bool → ℕ → Pending → Order
order_of new port (standby q d cue bytes) = record {
  kind = kind.Standby;
  attempt = q;
  device = d;
  port = port;
  is_new = new;
}
order_of new port (go_2pc q d) = record { kind = kind.Go; attempt = q; device = d; port = port; is_new = new }
order_of new port (cancel q d) = record { kind = kind.Cancel; attempt = q; device = d; port = port; is_new = new }

-- the same of an order beside its port
abbrev pub order_view : Bool → ℕ × Pending → Order
order_view new o = order_of new o.0 o.1

-- the orders to those devices of the attempt that are still to answer
abbrev pub orders_for : Bool → ShowState → Attempt → List DeviceAnswer → List Order
orders_for new s a xs = filter_map (λ x. option_map (order_view new) (order_for s a x)) xs

-- the orders of those attempts that have one of the numbers
abbrev pub orders_of : List ℕ → ShowState → List Attempt → List Order
orders_of numbers s live = flat_map (λ a. if is_among a.seq numbers then orders_for true s a a.answers else []) live

-- the orders of those attempts that the events start, decide or cancel
abbrev pub new_orders_of : List Event → ShowState → List Attempt → List Order
new_orders_of events s live = flat_map (λ a. if is_asked a.seq events then orders_for true s a a.answers else []) live

-- the orders of all these attempts; new are those of the attempts that the events start, decide or cancel
abbrev pub orders_asked : List Event → ShowState → List Attempt → List Order
orders_asked events s live = flat_map (λ a. orders_for (is_asked a.seq events) s a a.answers) live

-- the orders that are new after the events
unfoldable pub new_orders : List Event → ShowState → List Order
new_orders events s = new_orders_of events s s.live

-- all that are pending after the events, the new ones among them
unfoldable pub all_orders : List Event → ShowState → List Order
all_orders events s = orders_asked events s s.live

-- an order that is sent for the first time; none if it is a reply or the status
abbrev pub order_in : ℕ × Send → Option Order
order_in (port, reply address made known not_made code) = None
order_in (port, status last place live ended outcome) = None
order_in (port, order o) = Some (order_of true port o)

-- ---- accounts of the code

-- what it has, in order
abbrev pub account_view : Account → Accounted
account_view account = record { replies = account.replies.items; orders = account.orders.items }

-- the same of each
abbrev pub accounts_view : List Account → List Accounted
accounts_view accounts = map account_view accounts
