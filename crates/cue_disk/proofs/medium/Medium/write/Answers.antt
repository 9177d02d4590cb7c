use Rattle.std.proofs.Common.{◌≡◌, ℕ, List, ◌∙◌, ap, arith}
use Rattle.cue_disk.specs.Disk.{overwritten_bytes}
use Rattle.cue_disk.specs.Medium.{undone, state_of}
use Rattle.cue_disk.proofs.HistoryLemmas.{pushed}
use Rattle.cue_disk.proofs.WrittenLemmas.{written_contents}
use Rattle.cue_disk.proofs.medium.Medium.write.Goals as goal

pub returns-clause-written : goal.returns-clause-written
returns-clause-written c =
    let m = c.args.self.now in
    written_contents (state_of m) m.past.items _ c.in_ok-change.change c.args.at c.args.asked c.args.stored.now
    c.overwrite.new.bytes.items (omega (arith, m.since)) c.in_ok-change.ensures.touches c.in_ok-push.ensures.items
    cc

pub returns-clause-time : goal.returns-clause-time
returns-clause-time c =
    let m = c.args.self.now in
    let bytes_are : c.overwrite.new.bytes.items ≡ overwritten_bytes m.bytes.items c.args.at c.args.stored.now = cc in
    pushed _ _ _ _ _ c.in_ok-push.ensures.items
    (ap (λ (b : List ℕ). undone c.in_ok-change.change (record (state_of m) { bytes = b })) bytes_are
    ∙ c.in_ok-change.ensures.undoes c.args.stored.now c.requires.part)
