use Rattle.std.proofs.Common.{ap, arith}
use Rattle.std.proofs.lemmas.Bool.{false≢true}
use Rattle.cue_report.specs.Picture as spec
use Rattle.cue_report.specs.Seen as seen
use Rattle.cue_report.specs.Seen.{Seen}
use Rattle.std.specs.Prelude.{List}
use Rattle.cue_report.proofs.PlaceLemmas.{after_ok, changed_by_set, changed_past_end}
use Rattle.cue_report.proofs.attempts.Attempts.end_at.Goals as goal

pub returns-in-Some : goal.returns-in-Some
returns-in-Some c =
    after_ok c.end.result c.end.ensures
    (λ e. ap (λ (xs : List Seen). record (spec.picture c.args.self.now) { attempts = xs })
    (changed_by_set seen.seen (seen.after_end c.args.at c.args.end.now) c.args.self.now.list.items c.args.place
    c.in-Some.attempt.now c.end.new.self c.in-Some.ensures.value e))

pub returns-in-None : goal.returns-in-None
returns-in-None c =
    ap (λ (xs : List Seen). record (spec.picture c.args.self.now) { attempts = xs })
    (changed_past_end seen.seen (seen.after_end c.args.at c.args.end.now) c.args.self.now.list.items c.args.place
    (λ h. false≢true (c.in-None.ensures.variant.1 (omega (arith, h, c.args.self.now.list.ok.0)))))
