use Rattle.std.proofs.Common.{◌≡◌, OnOk, is_err, length, sym, ◌∙◌, ap, subst}
use Rattle.cue_disk.specs.Disk.{Contents, Writes, AllTouched}
use Rattle.cue_disk.specs.Effect.{written_as}
use Rattle.cue_disk.specs.Medium.{medium_held}
use Rattle.cue_disk.specs.Memory.{memory_held}
use Rattle.cue_disk.specs.declared.medium.Medium.{Medium}
use Rattle.cue_disk.proofs.ClauseLemmas.{written_as_writes, written_as_touched}
use Rattle.cue_disk.proofs.memory.calls.MemDiskDisk.write_at.Goals as goal

-- what the disk holds at the end, by what it held at the start
held : (c : goal.After-end)
    → memory_held c.end.new.self ≡ written_as c.begin-outcome.result (is_err c.write_as-done.result) c.args.at
    c.args.bytes.now (memory_held c.args.self.now)
held c =
    ap medium_held c.end.ensures.ended.medium
    ∙ c.write_as-done.ensures.held
    ∙ ap (λ (m : Medium). written_as c.begin-outcome.result (is_err c.write_as-done.result) c.args.at c.args.bytes.now
    (medium_held m)) c.begin-outcome.ensures.begun.medium

pub returns-clause-touched : goal.returns-clause-touched
returns-clause-touched c =
    subst (λ (now : Contents). OnOk c.end.result (AllTouched c.args.at (length c.args.bytes.now) now)) (sym (held c))
    (written_as_touched c.end.result c.begin-outcome.result (is_err c.write_as-done.result) c.args.at c.args.bytes.now
    (memory_held c.args.self.now) c.end.ensures.succeeds)

pub returns-clause-crash : goal.returns-clause-crash
returns-clause-crash c =
    subst (λ (now : Contents). Writes c.args.at (length c.args.bytes.now) (memory_held c.args.self.now) now)
    (sym (held c))
    (written_as_writes c.begin-outcome.result (is_err c.write_as-done.result) c.args.at c.args.bytes.now
    (memory_held c.args.self.now) c.requires)
