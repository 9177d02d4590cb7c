use Rattle.std.specs.Prelude.{List, ℕ, []}
use Rattle.std.proofs.Common.{subst, sym}
use Rattle.cue_core.specs.State.{empty_state}
use Rattle.cue_script.specs.Script.{Wrote}
use Rattle.cue_script.specs.Streams.{HasCause, FailedAs}
use Rattle.cue_script.specs.declared.entry.TheConstants.{MAX_SCRIPT}
use Rattle.cue_script.specs.declared.ending.StreamFailure.{StreamFailure}
use Rattle.cue_script.specs.declared.stream.Streams.{Streams}
use Rattle.cue_script.proofs.ScriptLemmas.{of_known, too_long, stopped_known}
use Rattle.cue_script.proofs.entry.play_all.Goals as goal

pub returns-in-Ok-Some-clause-wrote : goal.returns-in-Ok-Some-clause-wrote
returns-in-Ok-Some-clause-wrote g c =
    let P : List ℕ → Type 0 =
    λ text. Wrote c.play_text.result empty_state text [] (g.W.Write.contents c.args.writer.now)
    (g.W.Write.contents c.play_text.new.writer) in
    of_known (g.R.Read.remaining c.args.reader.now) MAX_SCRIPT c.in-Ok-Some.text.items P
    (rw c.in-Ok-Some.field-0-is at c.in-Ok-Some.ensures.read)
    (subst P c.as_slice.ensures.value c.play_text.ensures.wrote)

pub returns-in-Ok-Some-clause-cause : goal.returns-in-Ok-Some-clause-cause
returns-in-Ok-Some-clause-cause g c =
    let P : Streams → Type 0 = λ streams. HasCause c.play_text.result streams c.play_text.new.streams in
    subst P c.in-Ok-Some.ensures.no_failure c.play_text.ensures.cause

pub returns-in-Ok-None-clause-wrote : goal.returns-in-Ok-None-clause-wrote
returns-in-Ok-None-clause-wrote g c =
    too_long (g.R.Read.remaining c.args.reader.now) empty_state (g.W.Write.contents c.args.writer.now)
    (rw c.in-Ok-None.field-0-is at c.in-Ok-None.ensures.read)

pub returns-in-Err-clause-wrote : goal.returns-in-Err-clause-wrote
returns-in-Err-clause-wrote g c =
    stopped_known (g.R.Read.remaining c.args.reader.now) c.of.result empty_state (g.W.Write.contents c.args.writer.now)
    (g.W.Write.contents c.args.writer.now)

pub returns-in-Err-clause-cause : goal.returns-in-Err-clause-cause
returns-in-Err-clause-cause g c =
    let P : StreamFailure → Type 0 = λ failure. FailedAs failure c.args.streams.now c.read_at_most.new.streams in
    subst P (sym c.of.ensures) c.in-Err.ensures.cause
