use Rattle.cue_core.specs.State.{empty_state}
use Rattle.cue_script.specs.declared.ending.Ending.TheVariants.{Stopped}
use Rattle.cue_script.proofs.EndingLemmas.{has_stopped, small_status}
use Rattle.cue_script.proofs.ScriptLemmas.{has_run}
use Rattle.cue_script.proofs.entry.script.Goals as goal

pub returns-in-Ok : goal.returns-in-Ok
returns-in-Ok g c = record {
  ran = has_run (g.R.Read.remaining c.args.reader.now) c.play_all-ending.result empty_state c.line.result.now
      c.status.result
      (g.W.Write.contents c.args.writer.now) (g.W.Write.contents c.play_all-ending.new.writer)
      (g.W.Write.contents c.write_last.new.writer)
      c.play_all-ending.ensures.wrote c.line.ensures c.in-Ok.ensures c.status.ensures;
  statuses = small_status c.play_all-ending.result c.status.result c.status.ensures;
}

pub returns-in-Err : goal.returns-in-Err
returns-in-Err g c = record {
  ran = has_stopped (g.R.Read.remaining c.args.reader.now) c.of.result empty_state c.status-in-Err.result
      (g.W.Write.contents c.args.writer.now) (g.W.Write.contents c.write_last-in-Err.new.writer)
      c.status-in-Err.ensures;
  statuses = small_status (Stopped c.of.result) c.status-in-Err.result c.status-in-Err.ensures;
}
