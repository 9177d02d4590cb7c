-- What a device answers to copies: once it came to the end of what it was asked, each further copy has its answer.
use Rattle.std.specs.Prelude.{◌≡◌, ◌≢◌, ℕ, Bool, true, false, Option, Some, is_some}
use Rattle.cue_device.specs.declared.asked.Command.{Command}
use Rattle.cue_device.specs.declared.asked.Command.TheVariants.{Standby, Go, Cancel}
use Rattle.cue_device.specs.declared.asked.Task.{Task}
use Rattle.cue_device.specs.declared.hearing.Device.{Device}
use Rattle.cue_device.specs.declared.hearing.Place.TheVariants.{Same}
use Rattle.cue_device.specs.declared.phase.Attempt.{Attempt}
use Rattle.cue_device.specs.declared.phase.Phase.{Phase}
use Rattle.cue_device.specs.declared.phase.Phase.TheVariants.{Preparing, Ready, Moving, Done, LettingGo, LetGo, Failed}
use Rattle.cue_device.specs.declared.words.Answer.TheVariants.{StandingBy, Complete, Cancelled, Abort}
use Rattle.cue_device.specs.Hearing.{after_command, what_comes_of, is_for, phase_now, place, seq_of}

-- It is ready: each copy of the standby is answered that it stands by.
abbrev pub ReadyAnswers : Type 0
ReadyAnswers = (d : Device) (a : Attempt) (q : ℕ) (t : Task) → place d q ≡ Same a → a.phase ≡ Ready
    → is_for t a.task ≡ true → (what_comes_of (Standby q t) d).answer ≡ Some (StandingBy q)

-- It has carried the cue out: each copy of the go is answered that it is complete.
abbrev pub DoneAnswers : Type 0
DoneAnswers = (d : Device) (a : Attempt) (q : ℕ) → place d q ≡ Same a → a.phase ≡ Done
    → (what_comes_of (Go q) d).answer ≡ Some (Complete q)

-- It has let go: each copy of the cancel is answered that it is cancelled.
abbrev pub LetGoAnswers : Type 0
LetGoAnswers = (d : Device) (a : Attempt) (q : ℕ) → place d q ≡ Same a → a.phase ≡ LetGo
    → (what_comes_of (Cancel q) d).answer ≡ Some (Cancelled q)

-- It has failed: each order of the controller for the attempt has an answer.
abbrev pub FailedAnswers : Type 0
FailedAnswers = (d : Device) (a : Attempt) (c : Command) → place d (seq_of c) ≡ Same a → a.phase ≡ Failed
    → is_some (what_comes_of c d).answer ≡ true

-- it moves, or has moved
abbrev pub is_in_motion : Phase → Bool
is_in_motion Preparing = false
is_in_motion Ready = false
is_in_motion Moving = true
is_in_motion Done = true
is_in_motion LettingGo = false
is_in_motion LetGo = false
is_in_motion Failed = false

-- the order is of the attempt for this task: a standby is for the same task
abbrev pub is_of : Option Task → Command → Bool
is_of known (Standby q t) = is_for t known
is_of known (Go q) = true
is_of known (Cancel q) = true

-- It moves, or has moved: no order of the attempt, however late and however often it comes, changes how far it has
-- come, or is answered with an abort. So the network cannot make a cue fail that this device carries out.
abbrev pub LateCopiesFailNothing : Type 0
LateCopiesFailNothing = (d : Device) (a : Attempt) (c : Command) → place d (seq_of c) ≡ Same a
    → is_in_motion a.phase ≡ true → is_of a.task c ≡ true
    → (phase_now (after_command c d).attempt ≡ Some a.phase) × ((what_comes_of c d).answer ≢ Some (Abort (seq_of c)))
