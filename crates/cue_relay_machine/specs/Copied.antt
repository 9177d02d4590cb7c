-- What the copies of a GO are, over the turns of a life.
use Rattle.std.specs.Prelude.{◌≡◌, ◌≤◌, ◌<◌, ◌+◌, ◌==◌, ℕ, Bool, true, is_none, if◌then◌else◌, List, [], ◌∷◌, ◌++◌}
use Rattle.std.specs.Prelude.{count_by, Contains, Option, Some, None}
use Rattle.std.specs.List.{list_all}
use Rattle.cue_machine.specs.Living.{Turn}
use Rattle.cue_relay.specs.declared.going.Going.{Going}
use Rattle.cue_relay.specs.declared.messages.Message.{Message}
use Rattle.cue_relay.specs.declared.messages.Message.TheVariants as says
use Rattle.cue_relay.specs.declared.relaying.Relay.{Relay}
use Rattle.cue_relay.specs.declared.status.Ordered.{Ordered}
use Rattle.cue_relay.specs.declared.status.Ordered.TheVariants.{Go}
use Rattle.cue_relay.specs.Relayed.{Answer, Sending, comes, ticks, way_and_message}
use Rattle.cue_relay_machine.specs.declared.copies.TheConstants.{LAST_COPY}
use Rattle.cue_relay_machine.specs.Turns.{answer_of, copies_at, handed_at}

-- ---- orders

-- the order that goes on, if it is one
abbrev pub order_of : Message → Option Ordered
order_of (says.Order order seq) = Some order
order_of says.Reply = None
order_of (says.Answer a) = None

abbrev pub order_going : Option Going → Option Ordered
order_going None = None
order_going (Some g) = order_of g.message

-- the order to the device of this route that what came is, if it is one
abbrev pub order_at : Relay → ℕ → Answer → Option Ordered
order_at r route (comes now at from bytes) =
    if at.route == route then order_going (way_and_message r at from bytes) else None
order_at r route (ticks now) = None

-- no order to the device of this route came in this turn
abbrev pub is_quiet : Relay → ℕ → Turn → Bool
is_quiet r route t = is_none (order_at r route (answer_of t))

-- ---- copies

-- it is sent by this route
abbrev pub is_by : ℕ → Sending → Bool
is_by route s = s.way.out.route == route

-- how many datagrams were sent by this route at the wakes among these turns
abbrev pub copied : ℕ → List Turn → ℕ
copied route [] = 0
copied route (t ∷ ts) = count_by (is_by route) (copies_at t) + copied route ts

-- A datagram that is sent now is a copy, given the turns before, the latest first: it was handed on as it came, in one
-- of them, and was a GO. Since then no other order came to its device, so none of a later attempt; fewer than three
-- copies were said by its route; and no more time has passed than the last copy has.
pub record IsCopy (r : Relay) (past : List Turn) (now : ℕ) (s : Sending) : Type 0 where
  pub since : List Turn
  pub first : Turn
  pub earlier : List Turn
  pub split : past ≡ since ++ first ∷ earlier
  pub handed : handed_at first ≡ s ∷ []
  pub is_go : order_at r s.way.out.route (answer_of first) ≡ Some Go
  pub no_order : list_all (is_quiet r s.way.out.route) since ≡ true
  pub few : copied s.way.out.route since < 3
  pub after : first.heard.now ≤ now
  pub soon : now ≤ first.heard.now + LAST_COPY

-- all that is sent at the wakes among these turns is copies, given the turns before, the latest first
abbrev pub OnlyCopies : Relay → (past ts : List Turn) → Type 0
OnlyCopies r past [] = Unit {0}
OnlyCopies r past (t ∷ ts) =
    ((s : Sending) → Contains (copies_at t) s → IsCopy r past t.heard.now s) × OnlyCopies r (t ∷ past) ts
