use Rattle.cue_script.proofs.ScriptLemmas.{printed_step}
use Rattle.cue_script.proofs.print.print_all.Goals as goal

pub loop-sent-preserved : goal.loop-sent-preserved
loop-sent-preserved c =
    printed_step c.args.all.now c.loop-sent.sent-index c.sent-item.result c.loop-sent.text.items c.print.new.text.items
    c.loop-sent-test.true c.sent-item.is c.loop-sent.invariant c.in_ok-print.ensures
