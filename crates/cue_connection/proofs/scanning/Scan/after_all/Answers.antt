use Rattle.std.proofs.Common.{◌∙◌, ◌+◌, ap, arith, get_or, refl, sym}
use Rattle.cue_connection.specs.Scanning.{after_all}
use Rattle.cue_connection.proofs.ScanningLemmas.{all-done, all-more}
use Rattle.cue_connection.proofs.scanning.Scan.after_all.Goals as goal

pub loop-at-init : goal.loop-at-init
loop-at-init c = ap (λ n. after_all c.args.self n c.args.bytes.now) (omega arith)

pub loop-at-preserved : goal.loop-at-preserved
loop-at-preserved c =
    all-more c.loop-at.scan c.after-scan.result c.args.before c.loop-at.at (get_or c.args.bytes.now c.loop-at.at 0)
    c.args.bytes.now (omega arith) refl c.after-scan.ensures ∙ c.loop-at.invariant

pub returns : goal.returns
returns c =
    sym (all-done c.loop-at.scan (c.args.before + c.loop-at.at) c.loop-at.at c.args.bytes.now (omega arith))
    ∙ c.loop-at.invariant
