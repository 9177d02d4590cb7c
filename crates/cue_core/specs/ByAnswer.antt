-- Which command makes a device Ready.
use Rattle.std.specs.Prelude.{◌≡◌, ℕ, IsTrue}
use Rattle.std.specs.List.{list_any}
use Rattle.cue_core.specs.declared.command.AnswerKind.TheVariants.{StandingBy}
use Rattle.cue_core.specs.declared.command.Command.{Command}
use Rattle.cue_core.specs.declared.command.Command.TheVariants.{Reply}
use Rattle.cue_core.specs.State.{ShowState}
use Rattle.cue_core.specs.Events.{is_ready_of}
use Rattle.cue_core.specs.Judge.{judgement_of}

-- A device becomes Ready in an attempt only by its own answer that it stands by in that attempt.
abbrev pub ReadyOnlyByAnswer : Type 0
ReadyOnlyByAnswer =
    (s : ShowState) (now from : ℕ) (asked : Command) (q d : ℕ)
    → IsTrue (list_any (is_ready_of q d) (judgement_of s now from asked).1) → asked ≡ Reply StandingBy d q
