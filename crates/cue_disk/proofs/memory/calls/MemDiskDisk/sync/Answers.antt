use Rattle.std.proofs.Common.{◌≡◌, OnOk, is_err, sym, ◌∙◌, ap, subst}
use Rattle.cue_disk.specs.Disk.{Contents, IsImage, IsStable}
use Rattle.cue_disk.specs.Effect.{synced_as}
use Rattle.cue_disk.specs.Medium.{medium_held}
use Rattle.cue_disk.specs.MediumLaws.{reads_as_image}
use Rattle.cue_disk.specs.Memory.{memory_held}
use Rattle.cue_disk.specs.declared.medium.Medium.{Medium}
use Rattle.cue_disk.proofs.ClauseLemmas.{synced_as_stable, synced_as_images}
use Rattle.cue_disk.proofs.memory.calls.MemDiskDisk.sync.Goals as goal

-- what the disk holds at the end, by what it held at the start
held : (c : goal.After-end) → memory_held c.end.new.self ≡ synced_as c.begin-outcome.result (is_err c.sync_as-done.result)
    (memory_held c.args.self.now)
held c =
    ap medium_held c.end.ensures.ended.medium
    ∙ c.sync_as-done.ensures.held
    ∙ ap (λ (m : Medium). synced_as c.begin-outcome.result (is_err c.sync_as-done.result) (medium_held m))
    c.begin-outcome.ensures.begun.medium

pub returns-clause-stable : goal.returns-clause-stable
returns-clause-stable c =
    subst (λ (now : Contents). OnOk c.end.result (IsStable now)) (sym (held c))
    (synced_as_stable c.end.result c.begin-outcome.result (is_err c.sync_as-done.result) (memory_held c.args.self.now)
    c.end.ensures.succeeds)

pub returns-clause-crash : goal.returns-clause-crash
returns-clause-crash c = λ image left.
    synced_as_images c.begin-outcome.result (is_err c.sync_as-done.result) (memory_held c.args.self.now)
    (reads_as_image c.args.self.now.medium).no_shorter image
    (subst (λ (now : Contents). IsImage now image) (held c) left)
