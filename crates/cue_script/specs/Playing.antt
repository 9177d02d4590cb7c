-- Helper: a script that is being run, step by step.
use Rattle.std.specs.Prelude.{◌≡◌, ◌<◌, ◌≤◌, ◌+◌, ◌^◌, ℕ, false, true, List, [], Option, Some, None}
use Rattle.std.specs.Io.KnownBytes.{Appends}
use Rattle.cue_log.specs.Area.{Area}
use Rattle.cue_snap.specs.Pair.{PairReads}
use Rattle.cue_core.specs.State.{ShowState}
use Rattle.cue_core.specs.Steps.{after_events}
use Rattle.cue_keeper.specs.Observed.{is_broken, generation_of}
use Rattle.cue_outbox.specs.Sending.{datagrams}
use Rattle.cue_engine.specs.declared.engine.Engine.{Engine}
use Rattle.cue_engine.specs.Runs.{Happening, given_at}
use Rattle.cue_engine.specs.Observed.{keeper_of, queue_of, state_of}
use Rattle.cue_script.specs.declared.ending.Ending.{Ending}
use Rattle.cue_script.specs.declared.ending.Ending.TheVariants.{Done, BadLine, BadInput, Failed, Stopped}
use Rattle.cue_script.specs.Endings.{can_come}
use Rattle.cue_script.specs.ScriptLines.{happening_in}
use Rattle.cue_script.specs.Script.{printed_lines}

-- an engine that works and owes nothing
pub record IsReady {D : Type 0} {disk : _} (engine : Engine D disk) : Type 0 where
  pub works : is_broken (keeper_of engine) ≡ false
  pub owes_none : queue_of engine ≡ []

-- an engine that works, after this happened in a state: it owes what is sent then
pub record IsAfter {D : Type 0} {disk : _} (s : ShowState) (h : Happening) (engine : Engine D disk) : Type 0 where
  pub works : is_broken (keeper_of engine) ≡ false
  pub is : state_of engine ≡ after_events s (given_at s h).batch
  pub owes : queue_of engine ≡ datagrams (given_at s h).sends

-- a generation is left for a new area
abbrev pub CanTurnOver : {D : Type 0} {disk : _} → Engine D disk → Type 0
CanTurnOver engine = generation_of (keeper_of engine) + 1 < 2 ^ 64

-- there was one new area at most
abbrev pub TurnedOnce : {D : Type 0} {disk : _} → (old new : Engine D disk) → Type 0
TurnedOnce old new = generation_of (keeper_of new) ≤ generation_of (keeper_of old) + 1

-- The two read as an area of this generation.
pub record ReadsAt (generation : ℕ) (x y : List ℕ) : Type 0 where
  pub area : Area
  pub reads : PairReads area x y
  pub same : area.generation ≡ generation

-- A line stands for what happened, the state is the one after it, and what is sent then was written.
pub record Goes (line : List ℕ) (s t : ShowState) (old new : Option (List ℕ)) : Type 0 where
  pub happening : Happening
  pub tells : happening_in line ≡ Some happening
  pub is : t ≡ after_events s (given_at s happening).batch
  pub wrote : Appends old new (printed_lines (datagrams (given_at s happening).sends))

-- what happened cannot be carried out, or its output not be written, and that ends the script; nothing is said of the
-- output if a call of the writer failed
abbrev pub EndsUnheard : Ending → (old new : Option (List ℕ)) → Type 0
EndsUnheard Done old new = ⊥
EndsUnheard BadLine old new = ⊥
EndsUnheard BadInput old new = ⊥
EndsUnheard (Failed failure) old new = (can_come failure ≡ true) × (new ≡ old)
EndsUnheard (Stopped failure) old new = Unit {0}

-- a line ends the script, and nothing was written for it; nothing is said of the output if a call of the writer
-- failed
abbrev pub EndsAt : Ending → List ℕ → (old new : Option (List ℕ)) → Type 0
EndsAt Done line old new = ⊥
EndsAt BadLine line old new = (happening_in line ≡ None) × (new ≡ old)
EndsAt BadInput line old new = ⊥
EndsAt (Failed failure) line old new = (can_come failure ≡ true) × (new ≡ old)
EndsAt (Stopped failure) line old new = Unit {0}
