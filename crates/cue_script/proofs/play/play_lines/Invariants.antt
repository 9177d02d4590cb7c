use Rattle.std.specs.Prelude.{◌≡◌, ◌≤◌, ◌+◌, length}
use Rattle.cue_keeper.specs.Observed.{generation_of}
use Rattle.cue_engine.specs.Observed.{keeper_of, state_of}
use Rattle.cue_script.specs.Playing.{IsReady}
use Rattle.cue_script.proofs.ScriptLemmas.{IsRunning}
use Rattle.cue_script.proofs.play.play_lines.Given as goal

abbrev pub invariant-loop-rest : goal.invariant-loop-rest
invariant-loop-rest g l =
    IsRunning (state_of l.initial.engine) l.text l.rest (state_of l.engine) (g.W.Write.contents l.initial.writer)
    (g.W.Write.contents l.writer)
    × IsReady l.engine × (l.streams ≡ l.initial.streams)
    × (generation_of (keeper_of l.engine) + length l.rest
    ≤ generation_of (keeper_of l.initial.engine) + length l.text)

abbrev pub decreases-loop-rest : goal.decreases-loop-rest
decreases-loop-rest g l = length l.rest
