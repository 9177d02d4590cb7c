-- What the log writes at a look: a total function of the state, of the events, and of what was sent.
use Rattle.std.specs.Prelude.{◌≡◌, ℕ, ◌+◌, Bool, ◌||◌, if◌then◌else◌, List, [], ◌∷◌, ◌++◌, drop, filter, is_none, map, take}
use Rattle.std.specs.Prelude.{Option, Some, None}
use Rattle.std.specs.List.{flat_map}
use Rattle.std.specs.Option.{option_map, unwrap_or}
use Rattle.cue_core.specs.State.{ShowState}
use Rattle.cue_core.specs.declared.event.Event.{Event}
use Rattle.cue_engine.specs.declared.account.Order.{Order}
use Rattle.cue_engine.specs.declared.account.Reply.{Reply}
use Rattle.cue_exchange.specs.declared.attempt.Attempt.{Attempt}
use Rattle.cue_exchange.specs.declared.attempt.Reason.{Reason}
use Rattle.cue_log_lines.specs.declared.line.Line.{Line}
use Rattle.cue_log_lines.specs.declared.line.Line.TheVariants as line
use Rattle.cue_log_lines.specs.declared.listed.Cause.{Cause}
use Rattle.cue_log_lines.specs.declared.listed.Cause.TheVariants as cause
use Rattle.cue_evening.specs.Course.{course_after, cue_of, followed_of, given_up, is_followed}
use Rattle.cue_evening.specs.Holding.{held_up}
use Rattle.cue_evening.specs.LinesOf.{cancel_line, device_of_cancel, end_line, failures_of, held_line, order_line, recovered_text, reply_line, standby_line}
use Rattle.cue_evening.specs.Refusals.{is_refusal}
use Rattle.cue_evening.specs.Replies.{address_text, cause_in, is_told, more_of}
use Rattle.cue_evening.specs.Sent.{first}
use Rattle.cue_evening.specs.declared.course.Followed.{Followed}
use Rattle.cue_evening.specs.declared.sent.Sent.{Sent}

-- ---- what is written

-- a line; or a refusal, which has its line or is counted
pub data Entry : Type 0 where
  said : Line → Entry
  refused : Line → Entry

-- all that the log wrote, and the attempts that it follows
pub record Log : Type 0 where
  pub told : List Entry
  pub course : List Followed

-- the log, if it reports what it writes
abbrev pub log_of : Option (List Entry) → List Followed → Option Log
log_of None course = None
log_of (Some told) course = Some (record { told = told; course = course })

-- What is reported grew by these entries. None: nothing is reported, for good; so it is once something was lost for
-- want of memory.
abbrev pub Grew : Option (List Entry) → List Entry → Option (List Entry) → Type 0
Grew old more None = Unit {0}
Grew None more (Some new) = ⊥
Grew (Some old) more (Some new) = new ≡ old ++ more

-- what is made of the later log is what is made of the log before, if it still reports
abbrev pub Meets : (Log → Log) → Option Log → (Log → Log) → Option Log → Type 0
Meets later None first old = Unit {0}
Meets later (Some new) first None = ⊥
Meets later (Some new) first (Some old) = later new ≡ first old

-- this was done with the log, if it still reports
abbrev pub Does : (Log → Log) → Option Log → Option Log → Type 0
Does change old new = Meets (λ log. log) new change old

-- these entries are written
abbrev pub writes : List Entry → Log → Log
writes entries log = record log { told = log.told ++ entries }

-- the entry of a line, if there is one
abbrev pub entry_of : Option Line → List Entry
entry_of None = []
entry_of (Some l) = said l ∷ []

-- ---- the begin of a look

-- for how long there was no look between two times, if that is to be said and both are known
abbrev pub held_between : Option ℕ → Option ℕ → Option ℕ
held_between None now = None
held_between (Some before) None = None
held_between (Some before) (Some now) = held_up before now

-- the line of it, if it is to be said
abbrev pub held_entry : Option ℕ → List Entry
held_entry held = entry_of (option_map held_line held)

-- the line of the attempts that the first look finds, if there are any
abbrev pub found_entry : List Attempt → List Entry
found_entry [] = []
found_entry (a ∷ rest) = said (line.Recovered (recovered_text (a ∷ rest))) ∷ []

-- attempts are followed as the state has them
abbrev pub follows : List Attempt → Log → Log
follows live log = record log { course = log.course ++ map followed_of live }

-- a look begins: the first one says what was recovered, and follows it
abbrev pub opens : Option ℕ → List Attempt → Log → Log
opens None live log = follows live (writes (found_entry live) log)
opens (Some last) live log = log

-- ---- events

-- an event happens to the attempts
abbrev pub applies : Cause → Event → Log → Log
applies why e log = record log { course = course_after e why log.course }

-- the line of an attempt that is given up by an event, by the events after it
abbrev pub cancel_of : Option (ℕ × Reason) → List Followed → List Event → Option Line
cancel_of None course later = None
cancel_of (Some x) course later = Some (cancel_line x.0 (cue_of x.0 course) x.1 (device_of_cancel later))

-- it is written
abbrev pub tells_cancel : Event → List Event → Log → Log
tells_cancel e later log = writes (entry_of (cancel_of (given_up e) log.course later)) log

-- events happen to the attempts, in order; each attempt that is given up has a line
abbrev pub takes : Cause → List Event → Log → Log
takes why [] log = log
takes why (e ∷ later) log = takes why later (tells_cancel e later (applies why e log))

-- ---- replies

-- a reply has its line; if it is a refusal, it has that or is counted
abbrev pub reply_entry : Reply → Line → Entry
reply_entry reply l = if is_refusal reply.counts then refused l else said l

-- the line of a reply, by the events of its commands and, if it is known, the state on which they were judged
abbrev pub line_of_reply : Reply → Bool → List Event → Option ShowState → Line
line_of_reply reply sent made state = reply_line reply sent (address_text reply.address) (more_of state reply made)

-- the same, if there is something to say
abbrev pub reply_entries : Reply → Bool → List Event → Option ShowState → List Entry
reply_entries reply sent made state =
    if is_told reply.counts sent then reply_entry reply (line_of_reply reply sent made state) ∷ [] else []

-- the state, if no later command of the datagram changed it
abbrev pub state_if : ShowState → List Event → Option ShowState
state_if state [] = Some state
state_if state (e ∷ later) = None

-- a reply is told, if it is known whether it left
abbrev pub tells_reply : ShowState → Reply → Option Bool → List Event → List Event → Log → Log
tells_reply state reply None made later log = log
tells_reply state reply (Some sent) made later log = writes (reply_entries reply sent made (state_if state later)) log

-- then the events of its commands happen
abbrev pub hears_reply : ShowState → Reply → Option Bool → List Event → List Event → Log → Log
hears_reply state reply sent made later log =
    takes (cause_in reply.address) made (tells_reply state reply sent made later log)

-- replies in order: each has its events, the first of those that are left, and its bit, the one before its statuses
abbrev pub hears : ShowState → List Reply → List Event → List Bool → Log → Log
hears state [] events left log = log
hears state (r ∷ rs) events left log =
    hears state rs (drop r.events events) (drop (r.statuses + 1) left)
    (hears_reply state r (first left) (take r.events events) (drop r.events events) log)

-- the events that are left after replies, and the bits
abbrev pub events_after : List Reply → List Event → List Event
events_after [] events = events
events_after (r ∷ rs) events = events_after rs (drop r.events events)

abbrev pub bits_after : List Reply → List Bool → List Bool
bits_after [] left = left
bits_after (r ∷ rs) left = bits_after rs (drop (r.statuses + 1) left)

-- ---- orders

-- the line of an order, if it is known whether it left, and it is new or the first look finds it
abbrev pub order_entries : Option ℕ → Order → Option Bool → List Followed → List Entry
order_entries last order None course = []
order_entries last order (Some sent) course =
    if order.is_new || is_none last then said (order_line order (cue_of order.attempt course) sent) ∷ [] else []

-- the lines of orders, each with its bit
abbrev pub orders_entries : Option ℕ → List Order → List Bool → List Followed → List Entry
orders_entries last [] left course = []
orders_entries last (o ∷ os) left course =
    order_entries last o (first left) course ++ orders_entries last os (drop 1 left) course

abbrev pub tells_orders : Option ℕ → List Order → List Bool → Log → Log
tells_orders last orders left log = writes (orders_entries last orders left log.course) log

-- ---- attempts

-- each attempt that began since the last look and hangs on one device has a line
abbrev pub alone_entry : ℕ → Attempt → List Entry
alone_entry last a = entry_of (standby_line last a)

abbrev pub alone_entries : Option ℕ → List Attempt → List Entry
alone_entries None live = []
alone_entries (Some last) live = flat_map (alone_entry last) live

-- an attempt that is no longer live at this moment has a line
abbrev pub end_entry : ShowState → ℕ → Followed → List Entry
end_entry state now f =
    if is_followed state f then [] else said (end_line f (failures_of f.stage f.failures) now) ∷ []

-- each of them, and it is followed no longer
abbrev pub ends : ShowState → ℕ → Log → Log
ends state now log = record {
  told = log.told ++ flat_map (end_entry state now) log.course;
  course = filter (is_followed state) log.course;
}

-- ---- a look

-- what is known of what was sent
pub record Handed : Type 0 where
  pub replies : List Reply
  pub orders : List Order
  pub left : List Bool

abbrev pub handed : Sent → Handed
handed sent = record { replies = sent.replies.now; orders = sent.orders.now; left = sent.left.now }

-- What the log writes at a look: what was recovered, at the first one; each reply, and what its events give up; what
-- the other events give up; the orders; the attempts that hang on one device; and the ends. `last` is the number of the
-- last attempt that was seen before, and None at the first look.
abbrev pub looks : Option ℕ → ShowState → List Event → Handed → ℕ → Log → Log
looks last state events sent now log =
    let heard = hears state sent.replies events sent.left (opens last state.live log) in
    let taken = takes cause.Unseen (events_after sent.replies events) heard in
    let ordered = tells_orders last sent.orders (bits_after sent.replies sent.left) taken in
    ends state now (writes (alone_entries last state.live) ordered)

-- At this time the log looks, after a look at another one: first it says for how long there was none, if that is long.
abbrev pub looks_at : Option ℕ → Option ℕ → Option ℕ → ShowState → List Event → Handed → Log → Log
looks_at before time last state events sent log =
    looks last state events sent (unwrap_or time 0) (writes (held_entry (held_between before time)) log)
