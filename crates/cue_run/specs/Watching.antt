-- What a watch is shown while a show runs: the events of each input that was taken.
use Rattle.std.specs.Prelude.{◌≡◌, ◌≤◌, ◌+◌, ℕ, List, ◌++◌, length, Option, None, Some}
use Rattle.cue_core.specs.declared.event.Event.{Event}
use Rattle.cue_core.specs.State.{ShowState}
use Rattle.cue_keeper.specs.Stands.{folded_all}

-- what a watch reports that it was shown grew by the events of these looks; None: it does not report, for good
abbrev pub Saw : Option (List (List Event)) → List (List Event) → Option (List (List Event)) → Type 0
Saw old looks None = Unit {0}
Saw None looks (Some new) = ⊥
Saw (Some old) looks (Some new) = new ≡ old ++ looks

-- A watch was shown the batches that made the one state of the other, in order, and no other events: one look for each
-- of so many inputs.
pub record ShowedEach (turns : ℕ) (seen : Option (List (List Event))) (s s_then : ShowState)
    (seen_then : Option (List (List Event))) : Type 0 where
  pub looks : List (List Event)
  pub each : length looks ≡ turns
  pub saw : Saw seen looks seen_then
  pub made : s_then ≡ folded_all s looks

-- The same of a whole run, which begins with a look that has no events, if it has memory to begin.
pub record Showed (turns : ℕ) (seen : Option (List (List Event))) (s s_then : ShowState)
    (seen_then : Option (List (List Event))) : Type 0 where
  pub looks : List (List Event)
  pub each : turns ≤ length looks
  pub one_more : length looks ≤ turns + 1
  pub saw : Saw seen looks seen_then
  pub made : s_then ≡ folded_all s looks
