use Rattle.std.proofs.Common.{◌++◌, arith, string_bytes}
use Rattle.cue_screen.specs.Pictures.{emptied}
use Rattle.cue_screen.proofs.WritingLemmas.{rows-more}
use Rattle.cue_screen.proofs.screen.push_empty.Goals as goal

pub loop-at-preserved : goal.loop-at-preserved
loop-at-preserved c =
    rows-more c.args.row c.loop-at.at c.args.count (string_bytes c.loop-at.text) (string_bytes c.push_line.new.text)
    (string_bytes c.args.text.now ++ emptied c.args.row c.args.count) (omega arith) c.in_ok-push_line.ensures
    c.loop-at.invariant
