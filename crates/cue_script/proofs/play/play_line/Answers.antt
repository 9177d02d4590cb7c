use Rattle.std.proofs.Common.{sym}
use Rattle.cue_engine.specs.Observed.{state_of}
use Rattle.cue_script.specs.ScriptViews.{line_view}
use Rattle.cue_script.proofs.ScriptLemmas.{goes_behind, ends_behind}
use Rattle.cue_script.proofs.play.play_line.Goals as goal

pub returns-in-Ok-Some-clause-goes : goal.returns-in-Ok-Some-clause-goes
returns-in-Ok-Some-clause-goes g c =
    goes_behind c.run_line.result state_of c.args.line.now (line_view c.in-Ok-Some.told) (state_of c.args.engine)
    (g.W.Write.contents c.args.writer.now) (g.W.Write.contents c.run_line.new.writer)
    (sym (rw c.in-Ok-Some.field-0-is at c.in-Ok-Some.ensures)) c.run_line.ensures.state c.run_line.ensures.wrote

pub returns-in-Ok-Some-clause-ends : goal.returns-in-Ok-Some-clause-ends
returns-in-Ok-Some-clause-ends g c =
    ends_behind c.run_line.result c.args.line.now (g.W.Write.contents c.args.writer.now)
    (g.W.Write.contents c.run_line.new.writer) c.run_line.ensures.ends
