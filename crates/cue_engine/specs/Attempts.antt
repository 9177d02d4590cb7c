-- What an attempt may count on, over all inputs of any parties, in any order, with recoveries from power loss between
-- them.
use Rattle.std.specs.Prelude.{◌≡◌, ℕ, Bool, false, not, ◌&&◌, List, [], ◌∷◌, ◌++◌, IsTrue}
use Rattle.std.specs.List.{list_any, list_all}
use Rattle.cue_core.specs.declared.event.Event.{Event}
use Rattle.cue_core.specs.declared.event.Event.TheVariants.{Start, Go}
use Rattle.cue_core.specs.Events.{is_start_of, is_cancel_of, is_end_of}
use Rattle.cue_core.specs.State.{empty_state}
use Rattle.cue_core.specs.Happenings.{onto}
use Rattle.cue_core.specs.History.{parts_by}
use Rattle.cue_core.specs.InOrder.{may_go_by}
use Rattle.cue_core.specs.Pending.{Order}
use Rattle.cue_core.specs.Safety.{is_order_to, is_go_to, is_cancel_to}
use Rattle.cue_outbox.specs.Sending.{Send, reply, status, order}
use Rattle.cue_engine.specs.Runs.{Happening, run, joined_list}

-- all events that were accepted, from the empty state on, in order
abbrev pub accepted_events : List Happening → List Event
accepted_events hs = joined_list (run empty_state hs).batches

-- What was accepted before Go of an attempt, and after it.
pub record IsDecidedInOrder (q : ℕ) (before later : List Event) : Type 0 where
  -- the attempt had started
  pub started : IsTrue (list_any (is_start_of q) before)
  -- each required device of its cue stood by in it, and each optional one stood by or was excused
  pub all_ready : IsTrue (list_all (may_go_by before q) (parts_by (onto before []) q))
  -- it was not cancelled, and it never is
  pub not_cancelled : IsTrue (not (list_any (is_cancel_of q) before))
  pub stays : IsTrue (not (list_any (is_cancel_of q) later))

-- Go of an attempt is accepted only after Ready of each required device, after Ready or Excuse of each optional one,
-- and after no Cancel; and no Cancel is accepted after it.
abbrev pub DecidedInOrder : Type 0
DecidedInOrder = (hs : List Happening) (q : ℕ) (before later : List Event) → accepted_events hs ≡ before ++ Go q ∷ later
    → IsDecidedInOrder q before later

-- A number names one attempt for good: no other Start has it.
abbrev pub NumberNamesOne : Type 0
NumberNamesOne = (hs : List Happening) (q : ℕ) (cue : List ℕ) (deadline : ℕ) (before later : List Event)
    → accepted_events hs ≡ before ++ Start q cue deadline ∷ later
    → IsTrue (not (list_any (is_start_of q) before) && not (list_any (is_start_of q) later))

-- a datagram that is a command with this test
abbrev pub is_order_with : (Order → Bool) → Send → Bool
is_order_with test (reply address made known refused code) = false
is_order_with test (status last place live ended outcome) = false
is_order_with test (order o) = test o

-- some datagram that was sent is such a command
abbrev pub was_sent : (Order → Bool) → List Happening → Bool
was_sent test hs = list_any (λ m. is_order_with test m.1) (run empty_state hs).sends

-- Once a device is done with in an attempt, since it has answered for the last time or was excused, no later input has
-- anything sent to it there. What earlier ones had sent may be handed over after that: the order is that of the inputs.
abbrev pub NothingMoreIsSent : Type 0
NothingMoreIsSent = (hs later : List Happening) (q d : ℕ) → IsTrue (list_any (is_end_of q d) (accepted_events hs))
    → IsTrue (not (list_any (λ m. is_order_with (is_order_to q d) m.1) (run (run empty_state hs).state later).sends))

-- No device is ever sent both GO_2PC and CANCEL in one attempt.
abbrev pub NeverSentBoth : Type 0
NeverSentBoth = (hs : List Happening) (q d : ℕ) → IsTrue
    (not (was_sent (is_go_to q d) hs && was_sent (is_cancel_to q d) hs))
