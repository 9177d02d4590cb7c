use Rattle.std.proofs.Common.{Err, ap, inr}
use Rattle.std.specs.Prelude.{map, string_bytes}
use Rattle.clap.specs.Words.{subcommand_of}
use Rattle.cue_core.specs.State.{empty_state}
use Rattle.cue_command_line.specs.Lines.{cuectl_app}
use Rattle.cue_script.specs.declared.ending.StreamFailure.TheVariants.{Memory}
use Rattle.cue_script.proofs.EndingLemmas.{has_stopped}
use Rattle.cue_program.proofs.PerformLemmas.{is_script, ends_so, only_memory}
use Rattle.cue_program.proofs.program.perform.Goals as goal

pub returns-in-Ok-clause-done : goal.returns-in-Ok-clause-done
returns-in-Ok-clause-done g c = λ zero. inr (record {
  taken = c.in-Ok.ensures.taken;
  line = c.in-Ok.line;
  named = c.in-Ok.ensures.line;
  ends = c.carry_out.ensures.ends;
})

pub returns-in-Ok-clause-script : goal.returns-in-Ok-clause-script
returns-in-Ok-clause-script g c = λ taken named.
    let is = is_script (subcommand_of cuectl_app (map string_bytes c.args.words.now)) c.in-Ok.line c.in-Ok.ensures.line
    named in
    ends_so c.in-Ok.line c.carry_out.result (g.I.Read.remaining c.args.reader.now)
    (g.W.Write.contents c.args.writer.now) (g.W.Write.contents c.carry_out.new.writer) is c.carry_out.ensures.ends

pub returns-in-Err-clause-script : goal.returns-in-Err-clause-script
returns-in-Err-clause-script g c = λ taken named.
    let is = only_memory (map string_bytes c.args.words.now) c.in-Err.fault taken named c.in-Err.ensures.help
    (λ same. c.in-Err.ensures.usage (ap Err same)) in
    has_stopped (g.I.Read.remaining c.args.reader.now) Memory empty_state c.refused_line.result
    (g.W.Write.contents c.args.writer.now) (g.W.Write.contents c.refused_line.new.writer)
    (c.refused_line.ensures.memory is)
