use Rattle.std.proofs.Common.{◌≡◌, ◌∙◌, ℕ, ap, length, min}
use Rattle.cue_log.specs.declared.area.TheConstants.{HEAD_LEN}
use Rattle.cue_copies.proofs.CopyLemmas.{filled_up}
use Rattle.cue_copies.proofs.copying.head.Goals as goal

pub returns-in-Ok-read_at-clause-head : goal.returns-in-Ok-read_at-clause-head
returns-in-Ok-read_at-clause-head g c = λ honest.
    let whole = (g.D.Disk.held c.args.disk.now).bytes in
    let len : c.min-len.result ≡ min (length whole) HEAD_LEN = c.min-len.ensures
    ∙ ap (λ (n : ℕ). min n HEAD_LEN) (c.in-Ok.ensures.len honest) in
    let same = c.len.ensures.same honest in
    let read = c.in-Ok-read_at.ensures.read (c.len.ensures.honest.1 honest) in
    filled_up HEAD_LEN c.min-len.result c.read_at.new.buf whole len (rw same at read)
