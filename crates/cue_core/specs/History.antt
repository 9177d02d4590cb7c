-- What a history says by itself. A history is the list of the events that were accepted, the newest first.
use Rattle.std.specs.Prelude.{◌≡◌, ℕ, Bool, true, not, ◌&&◌, if◌then◌else◌, List, [], ◌∷◌, Some, is_some, count_by}
use Rattle.std.specs.Prelude.{IsTrue}
use Rattle.std.specs.List.{list_any}
use Rattle.cue_show.specs.declared.part.Part.{Part}
use Rattle.cue_exchange.specs.declared.attempt.Attempt.{Attempt}
use Rattle.cue_exchange.specs.Answers.{devices_of, is_preparing, is_decided, is_ready, answer_passes}
use Rattle.cue_exchange.specs.Live.{attempt_of, devices_in, is_among}
use Rattle.cue_core.specs.declared.event.Event.{Event}
use Rattle.cue_core.specs.declared.event.Event.TheVariants.{Start}
use Rattle.cue_core.specs.State.{ShowState, empty_state, cue_parts, are_of_parts}
use Rattle.cue_core.specs.Steps.{acceptable, after}
use Rattle.cue_core.specs.Events.{is_start, is_start_of, is_ready_of, is_go_of, is_end_of, is_excuse_of}

-- the state that a history leads to from the empty one
abbrev pub state_of : List Event → ShowState
state_of [] = empty_state
state_of (e ∷ past) = after (state_of past) e

-- each event was acceptable after those before it
abbrev pub is_history : List Event → Bool
is_history [] = true
is_history (e ∷ past) = acceptable (state_of past) e && is_history past

-- the parts of the cue at which an attempt starts
abbrev pub parts_started : ShowState → Event → List Part
parts_started s (Start q c t) = cue_parts s.show c
parts_started s _ = []

-- the parts of q are those of its cue at its Start
abbrev pub parts_by : List Event → ℕ → List Part
parts_by [] q = []
parts_by (e ∷ past) q = if is_start_of q e then parts_started (state_of past) e else parts_by past q

-- and its devices are those of its parts
abbrev pub devices_by : List Event → ℕ → List ℕ
devices_by h q = devices_in (parts_by h q)

-- q has started, and some device of it is not done with
abbrev pub is_live_by : List Event → ℕ → Bool
is_live_by h q = list_any (is_start_of q) h && list_any (λ d. not (list_any (is_end_of q d) h)) (devices_by h q)

-- q was decided
abbrev pub is_decided_by : List Event → ℕ → Bool
is_decided_by h q = list_any (is_go_of q) h

-- the device d stood by in q
abbrev pub stood_by : List Event → ℕ → ℕ → Bool
stood_by h q d = list_any (is_ready_of q d) h

-- the device d was excused in q
abbrev pub was_excused : List Event → ℕ → ℕ → Bool
was_excused h q d = list_any (is_excuse_of q d) h

-- the state is what its history says
pub record IsByHistory (h : List Event) (s : ShowState) : Type 0 where
  -- the last number is the count of Starts
  pub last : s.last_seq ≡ count_by is_start h
  pub live : (q : ℕ) → is_some (attempt_of s.live q) ≡ is_live_by h q
  pub parts : (q : ℕ) (a : Attempt) → attempt_of s.live q ≡ Some a → IsTrue (are_of_parts (parts_by h q) a.answers)
  pub devices : (q : ℕ) (a : Attempt) → attempt_of s.live q ≡ Some a → devices_of a.answers ≡ devices_by h q
  pub decided : (q : ℕ) (a : Attempt) → attempt_of s.live q ≡ Some a → is_decided a.stage ≡ is_decided_by h q
  pub ready : (q d : ℕ) (a : Attempt) → attempt_of s.live q ≡ Some a → IsTrue (is_preparing a.stage)
      → IsTrue (is_among d (devices_of a.answers))
      → answer_passes is_ready d a.answers ≡ (stood_by h q d && not (was_excused h q d))

-- every state that acceptable events lead to is what its history says
abbrev pub FactsByHistory : Type 0
FactsByHistory = (h : List Event) → IsTrue (is_history h) → IsByHistory h (state_of h)
