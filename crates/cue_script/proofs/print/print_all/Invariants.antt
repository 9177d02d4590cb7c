use Rattle.std.specs.Prelude.{◌≡◌, map, take}
use Rattle.cue_script.specs.ScriptViews.{sent_view}
use Rattle.cue_script.specs.Script.{printed_lines}
use Rattle.cue_script.proofs.print.print_all.Given as goal

abbrev pub invariant-loop-sent : goal.invariant-loop-sent
invariant-loop-sent l = l.text.items ≡ printed_lines (map sent_view (take l.sent-index l.all))
