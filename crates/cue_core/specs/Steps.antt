-- When an event is acceptable in a state, and what it makes of it.
use Rattle.std.specs.Prelude.{◌≡◌, ℕ, ◌+◌, take, Bool, true, not, ◌&&◌, List, [], ◌∷◌, Option, None, Some, is_some}
use Rattle.std.specs.Prelude.{option_and_then, nat_eq}
use Rattle.cue_show.specs.Show.{ShowLists, has_cue, following, can_add_device, can_remove_device, can_add_cue}
use Rattle.cue_show.specs.Show.{with_device, without_device, with_cue, without_cue, with_place}
use Rattle.cue_exchange.specs.declared.attempt.Answer.TheVariants as answer
use Rattle.cue_exchange.specs.declared.attempt.Stage.TheVariants.{Decided, Cancelling}
use Rattle.cue_exchange.specs.declared.attempt.Outcome.{Outcome}
use Rattle.cue_exchange.specs.declared.attempt.Attempt.{Attempt}
use Rattle.cue_exchange.specs.Live.{attempt_of, attempt_of_cue}
use Rattle.cue_exchange.specs.Steps.{can_start, can_ready, can_go, can_cancel, can_done, can_let_go, can_fail}
use Rattle.cue_exchange.specs.Steps.{can_excuse, after_start, after_answer, after_move, without_ended, ended_in}
use Rattle.cue_core.specs.declared.event.Ended.{Ended}
use Rattle.cue_core.specs.declared.event.Event.{Event}
use Rattle.cue_core.specs.declared.event.Event.TheVariants.{Device, NoDevice, Cue, NoCue, Place, Start, Ready, Go, Done}
use Rattle.cue_core.specs.declared.event.Event.TheVariants.{Cancel, LetGo, Failed, Excuse}
use Rattle.cue_core.specs.State.{ShowState, with_show, with_live, cue_parts}

-- the number is the one after the last, the cue is in the stack, and an attempt with its devices may start
abbrev pub can_begin : ShowLists → List Attempt → ℕ → ℕ → List ℕ → ℕ → Bool
can_begin show live last q c t = nat_eq q (last + 1) && (has_cue show c && can_start q t (cue_parts show c) live)

-- the event may happen in the state
abbrev pub acceptable : ShowState → Event → Bool
acceptable s (Device d port) = can_add_device s.show d port
acceptable s (NoDevice d) = can_remove_device s.show d
acceptable s (Cue c parts) = can_add_cue s.show c parts
acceptable s (NoCue c) = has_cue s.show c && not (is_some (attempt_of_cue s.live c))
acceptable s (Place c) = has_cue s.show c
acceptable s (Start q c t) = can_begin s.show s.live s.last_seq q c t
acceptable s (Ready q d) = can_ready q d s.live
acceptable s (Go q) = can_go q s.live
acceptable s (Done q d) = can_done q d s.live
acceptable s (Cancel q r) = can_cancel q s.live
acceptable s (LetGo q d) = can_let_go q d s.live
acceptable s (Failed q d) = can_fail q d s.live
acceptable s (Excuse q d) = can_excuse q d s.live

-- the attempt that ended last: q, if it has ended
abbrev pub ended_as : ℕ → Option Outcome → Option Ended → Option Ended
ended_as q None old = old
ended_as q (Some o) old = Some (record { seq = q; outcome = o })

-- a device of q has answered for the last time: q ends if it was the last
abbrev pub after_last_answer : ShowState → ℕ → List Attempt → ShowState
after_last_answer s q live =
    record {
      show = s.show;
      live = without_ended q live;
      last_seq = s.last_seq;
      ended = ended_as q (ended_in q live) s.ended;
    }

-- the cue that follows that of q, or none
abbrev pub place_after : ShowLists → List Attempt → ℕ → Option (List ℕ)
place_after show live q = option_and_then (λ a. following show a.cue) (attempt_of live q)

-- the state after the event
abbrev pub after : ShowState → Event → ShowState
after s (Device d port) = with_show s (with_device s.show d port)
after s (NoDevice d) = with_show s (without_device s.show d)
after s (Cue c parts) = with_show s (with_cue s.show c parts)
after s (NoCue c) = with_show s (without_cue s.show c)
after s (Place c) = with_show s (with_place s.show (Some c))
after s (Start q c t) =
    record { show = s.show; live = after_start q c t (cue_parts s.show c) s.live; last_seq = q; ended = s.ended }
after s (Ready q d) = with_live s (after_answer q d answer.Ready s.live)
after s (Go q) =
    record {
      show = with_place s.show (place_after s.show s.live q);
      live = after_move q Decided s.live;
      last_seq = s.last_seq;
      ended = s.ended;
    }
after s (Done q d) = after_last_answer s q (after_answer q d answer.Done s.live)
after s (Cancel q r) = with_live s (after_move q (Cancelling r) s.live)
after s (LetGo q d) = after_last_answer s q (after_answer q d answer.LetGo s.live)
after s (Failed q d) = after_last_answer s q (after_answer q d answer.Failed s.live)
after s (Excuse q d) = with_live s (after_answer q d answer.Excused s.live)

-- each event is acceptable, in turn
abbrev pub are_acceptable : ShowState → List Event → Bool
are_acceptable s [] = true
are_acceptable s (e ∷ es) = acceptable s e && are_acceptable (after s e) es

-- the state after the events, in turn
abbrev pub after_events : ShowState → List Event → ShowState
after_events s [] = s
after_events s (e ∷ es) = after_events (after s e) es

-- the new state is the old one after some of the events, from the first on
abbrev pub AppliesFirst : ShowState → List Event → ShowState → Type 0
AppliesFirst old events new = (n : ℕ) × (new ≡ after_events old (take n events))
