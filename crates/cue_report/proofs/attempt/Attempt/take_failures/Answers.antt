use Rattle.std.proofs.Common.{◌≡◌, ◌∙◌, ℕ, List, ap, arith, subst}
use Rattle.cue_report.proofs.FailureLemmas.{failures_more}
use Rattle.cue_report.specs.Seen as seen
use Rattle.cue_report.specs.Seen.{Seen}
use Rattle.cue_report.proofs.attempt.Attempt.take_failures.Goals as goal

pub loop-taken-preserved : goal.loop-taken-preserved
loop-taken-preserved c = c.in_ok-left.ensures ∙ failures_more _ _ _ _ _ c.loop-taken.invariant

pub returns : goal.returns
returns c =
    let all : c.loop-taken._taken ≡ 16 = omega arith in
    let told : ℕ → Type 0 = λ n. (c.loop-taken.left.now, seen.seen c.loop-taken.self) ≡ seen.failures_taken n c.args.failures.now (seen.seen c.args.self.now) in
    ap (λ (x : List ℕ × Seen). x.1) (subst told all c.loop-taken.invariant)
