use Rattle.std.proofs.Common.{ap, ◌∙◌, sym}
use Rattle.cue_log.specs.declared.area.TheConstants.{MAX_AREA}
use Rattle.cue_copies.specs.Copies.{copy_of}
use Rattle.cue_copies.proofs.CopyLemmas.{front_of}
use Rattle.cue_copies.proofs.copying.bytes_of.Goals as goal

pub read_grown-requires-in-loop-clause-front : goal.read_grown-requires-in-loop-clause-front
read_grown-requires-in-loop-clause-front g c = λ honest.
    let then = c.loop.invariant.honest.0 honest in
    front_of c.loop.bytes.items (g.D.Disk.held c.loop.disk).bytes MAX_AREA (c.loop.invariant.copy then
    ∙ ap copy_of (sym (c.loop.invariant.kept then)))
