use Rattle.std.proofs.Common.{ℕ, min, arith, ap, ◌∙◌}
use Rattle.cue_log.specs.declared.area.TheConstants.{MAX_AREA}
use Rattle.cue_copies.proofs.CopyLemmas.{front_full, front_on}
use Rattle.cue_copies.proofs.copying.read_grown.Goals as goal

pub returns-then-len-clause-copy : goal.returns-then-len-clause-copy
returns-then-len-clause-copy g c = λ honest.
    let held = g.D.Disk.held c.args.disk.now in
    front_full c.args.bytes.now.items held.bytes MAX_AREA c.min-len.result (c.requires.front honest)
    (c.min-len.ensures ∙ ap (λ (n : ℕ). min n MAX_AREA) (c.in-Ok.ensures.len honest))
    (omega (arith, c.if-len.true, c.len-2.ensures)) c.requires.short

pub returns-clause-copy : goal.returns-clause-copy
returns-clause-copy g c = λ honest.
    let held = g.D.Disk.held c.args.disk.now in
    let same = c.len.ensures.same honest in
    let read = c.in_ok-read_on.ensures.read (c.len.ensures.honest.1 honest) in
    front_on c.args.bytes.now.items c.read_on.new.bytes.items held.bytes MAX_AREA c.min-len.result
    (c.requires.front honest)
    (omega (arith, c.if-len.false, c.len-2.ensures))
    (c.min-len.ensures ∙ ap (λ (n : ℕ). min n MAX_AREA) (c.in-Ok.ensures.len honest))
    (rw same at read) c.in_ok-read_on.ensures.len
