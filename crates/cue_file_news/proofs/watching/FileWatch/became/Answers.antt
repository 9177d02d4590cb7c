-- A text that was asked for: whether the file changed while it was read.
use Rattle.std.proofs.Common.{◌≡◌, ◌≢◌, Some, string_bytes, rules, subst, List, ℕ}
use Rattle.std.proofs.lemmas.Result.{IfOk-weaker}
use Rattle.cue_file_news.specs.Keeping.{kept_in}
use Rattle.cue_file_news.specs.Laws.{BecomesSo, IsWhole}
use Rattle.cue_file_news.specs.Watching.{BecomesNow}
use Rattle.cue_file_news.specs.declared.looking.Look.TheVariants as look
use Rattle.cue_file_news.proofs.TakeLemmas.{becomes_whole}
use Rattle.cue_file_news.proofs.watching.FileWatch.became.Goals as goal

pub returns-then-eq : goal.returns-then-eq
returns-then-eq c =
    let asked : c.args.self.now.asked ≡ Some c.args.reading.now.begun.stamp = search rules in
    let agrees : c.args.reading.now.after ≡ look.There c.args.reading.now.begun.stamp = search rules in
    let whole : IsWhole (c.args.self.now.asked ≡ Some c.args.reading.now.begun.stamp) c.args.reading.now c.in-Some.text
    = record { is_asked = asked; had = c.in-Some.is; agrees = agrees } in
    IfOk-weaker c.judge.result
    (BecomesSo (string_bytes c.args.self.now.text) c.args.self.now.said (kept_in c.args.self.now.kept)
    c.as_str.result.now)
    (BecomesNow c.args.self.now c.args.reading.now)
    (λ b so. becomes_whole (c.args.self.now.asked ≡ Some c.args.reading.now.begun.stamp)
    (string_bytes c.args.self.now.text) c.args.self.now.said (kept_in c.args.self.now.kept) c.args.reading.now
    c.in-Some.text b whole
    (subst (λ (x : List ℕ). BecomesSo (string_bytes c.args.self.now.text) c.args.self.now.said
    (kept_in c.args.self.now.kept) x b) c.as_str.ensures.value so)) c.judge.ensures

pub returns-else-eq : goal.returns-else-eq
returns-else-eq c =
    let changed : c.args.reading.now.after ≢ look.There c.args.reading.now.begun.stamp = search rules in
    λ asked. record { text = c.in-Some.text; had = c.in-Some.is; changed = changed }
