-- Each pending order can be written, is read again, and goes to a port.
use Rattle.std.proofs.Common.{ℕ, ◌<◌, ◌≤◌, ◌^◌, Bool, true, false, cond, List, length, IsTrue, None, Some}
use Rattle.std.specs.Prelude.{IfSome, unwrap_or}
use Rattle.std.specs.List.{AllByRecursion, filter_map}
use Rattle.cue_osc.specs.Spelling.{IsText}
use Rattle.cue_show.specs.DeviceNumber.{is_port}
use Rattle.cue_show.specs.Show.{port_of}
use Rattle.cue_exchange.specs.declared.attempt.Stage.{Stage}
use Rattle.cue_exchange.specs.declared.attempt.Stage.TheVariants.{Preparing, Decided, Cancelling}
use Rattle.cue_exchange.specs.declared.attempt.DeviceAnswer.{DeviceAnswer}
use Rattle.cue_exchange.specs.declared.attempt.Attempt.{Attempt}
use Rattle.cue_exchange.specs.Answers.{waits}
use Rattle.cue_core.specs.State.{ShowState, cue_parts, is_state}
use Rattle.cue_core.specs.Pending.{Order, bytes_for, order_at, order_for, pending}
use Rattle.cue_outbox.specs.Sending.{Send, order, order_content, send_content}
use Rattle.cue_outbox.specs.Owed.{order_in}
use Rattle.cue_outbox.specs.Laws.{IsReadBack, OrdersAreRead, OrdersHavePorts}
use Rattle.cue_outbox.proofs.ReadBackLemmas.{IsWritable, read_back, standby_writable, go_2pc_writable, cancel_writable}
use Rattle.cue_outbox.proofs.ListLemmas.{each_weaker, each_map, each_found, each_flat}
use Rattle.cue_outbox.proofs.ReportLemmas.{IsTold, live_told}

-- the port of a device of the attempt, and what it is told
abbrev pub sent : ShowState → Attempt → DeviceAnswer → ℕ × Order
sent s a x = (unwrap_or (port_of s.show x.device) 0, order_in a (cue_parts s.show a.cue) x.device)

-- what holds of it holds of it also where the device is to be told nothing
pub if_waits : (b : Bool) (o : ℕ × Order) (P : ℕ × Order → Type 0) → P o → IfSome (cond b (Some o) None) P
if_waits true o P h = h
if_waits false o P h = tt

writable_at : (t : Stage) (q d : ℕ) (cue bytes : List ℕ) → q < 2 ^ 31 → d < 2 ^ 31 → IsText cue → length cue ≤ 16
    → length bytes ≤ 32 → IsWritable (order_content (order_at t q d cue bytes))
writable_at Preparing q d cue bytes m k is_text short part = standby_writable q d cue bytes m k is_text short part
writable_at Decided q d cue bytes m k is_text short part = go_2pc_writable q d m k
writable_at (Cancelling r) q d cue bytes m k is_text short part = cancel_writable q d m k

abbrev pub IsWritableOrder : ℕ × Order → Type 0
IsWritableOrder o = IsWritable (order_content o.1)

pub writable_for : (s : ShowState) (a : Attempt) → IsTold s a
    → AllByRecursion IsWritableOrder (filter_map (order_for s a) a.answers)
writable_for s a t =
    each_found (λ (x : DeviceAnswer). x.device < 2 ^ 31) IsWritableOrder (order_for s a)
    (λ x small. if_waits (waits x) (sent s a x) IsWritableOrder
    (writable_at a.stage a.seq x.device a.cue (bytes_for x.device (cue_parts s.show a.cue)) t.number small t.text
    t.short (t.part x.device)))
    a.answers t.devices

pub all_writable : (s : ShowState) → IsTrue (is_state s) → AllByRecursion IsWritableOrder (pending s)
all_writable s h = each_flat (IsTold s) IsWritableOrder (λ a. filter_map (order_for s a) a.answers)
    (λ a t. writable_for s a t) s.live (live_told s h)

order_read : (o : ℕ × Order) → IsWritableOrder o → IsReadBack (order o.1)
unfolding send_content
order_read o w = read_back (order_content o.1) w

pub orders-are-read : OrdersAreRead
orders-are-read s h = each_map (λ x. IsReadBack x.1) (λ (o : ℕ × Order). (o.0, order o.1)) (pending s)
    (each_weaker IsWritableOrder (λ o. IsReadBack (order o.1)) order_read (pending s) (all_writable s h))

-- ---- each goes to a port

port_for : (s : ShowState) (a : Attempt) → IsTold s a
    → AllByRecursion (λ (o : ℕ × Order). IsTrue (is_port o.0)) (filter_map (order_for s a) a.answers)
port_for s a t =
    each_found (λ (x : DeviceAnswer). IsTrue (is_port (unwrap_or (port_of s.show x.device) 0)))
    (λ (o : ℕ × Order). IsTrue (is_port o.0)) (order_for s a)
    (λ x port. if_waits (waits x) (sent s a x) (λ (o : ℕ × Order). IsTrue (is_port o.0)) port) a.answers t.ports

pub orders-have-ports : OrdersHavePorts
orders-have-ports s h =
    each_map (λ (x : ℕ × Send). IsTrue (is_port x.0)) (λ (o : ℕ × Order). (o.0, order o.1)) (pending s)
    (each_flat (IsTold s) (λ (o : ℕ × Order). IsTrue (is_port o.0)) (λ a. filter_map (order_for s a) a.answers)
    (λ a t. port_for s a t) s.live (live_told s h))
