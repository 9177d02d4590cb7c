-- What ears tell.
use Rattle.std.specs.Prelude.{◌≤◌, ℕ, List, take, Option, Result, Ok, Err}
use Rattle.cue_machine.specs.declared.ears.EarsFault.{EarsFault}
use Rattle.cue_machine.specs.declared.ears.Input.{Input}
use Rattle.cue_machine.specs.declared.ears.Turn.{Turn}
use Rattle.cue_machine.specs.declared.ears.Turn.TheVariants as turn

-- what came, at its moment, with its bytes
pub record Heard : Type 0 where
  pub now : ℕ
  pub input : Input
  pub bytes : List ℕ

-- one answer: something came, nothing comes any more, or the ears failed
pub data Answer : Type 0 where
  comes : Heard → Answer
  ends : Answer
  fails : Answer

-- an answer, and when it was to come at the latest
pub record Told : Type 0 where
  pub until : Option ℕ
  pub answer : Answer

abbrev pub heard_as : ℕ → Input → List ℕ → Heard
heard_as now input bytes = record { now = now; input = input; bytes = bytes }

-- what a call answered, with what stands in its buffer
abbrev pub answer_as : Result Turn EarsFault → List ℕ → Answer
answer_as (Ok turn.End) buffer = ends
answer_as (Ok (turn.Comes now input n)) buffer = comes (heard_as now input (take n buffer))
answer_as (Err e) buffer = fails

abbrev pub told_as : Option ℕ → Result Turn EarsFault → List ℕ → Told
told_as until result buffer = record { until = until; answer = answer_as result buffer }

-- the bytes lie within the buffer
abbrev pub IsWithin : Result Turn EarsFault → ℕ → Type 0
IsWithin (Ok turn.End) size = Unit {0}
IsWithin (Ok (turn.Comes now input n)) size = n ≤ size
IsWithin (Err e) size = Unit {0}
