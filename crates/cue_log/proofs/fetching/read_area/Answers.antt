use Rattle.std.proofs.Common.{List, ℕ, sym, subst, length}
use Rattle.cue_log.specs.Area.{IsArea}
use Rattle.cue_log.specs.Parts.{parts_area}
use Rattle.cue_log.proofs.TextLemmas.{longer_reads}
use Rattle.cue_log.proofs.SoundLemmas.{front_missing}
use Rattle.cue_log.proofs.fetching.read_area.Goals as goal

pub returns-in-Some-clause-stood : goal.returns-in-Some-clause-stood
returns-in-Some-clause-stood g c = λ honest.
    let front = c.in_ok-text.ensures.front honest in
    let found = rw (c.in-Some.is, c.deref.ensures.value) at c.in_ok-parts.ensures.found in
    longer_reads (parts_area c.in-Some.parts) (length c.in_ok-text.text.items) (g.D.Disk.held c.args.disk.now).bytes
    (subst (λ (l : List ℕ). IsArea (parts_area c.in-Some.parts) l) front.front found)

pub returns-in-Some-clause-few : goal.returns-in-Some-clause-few
returns-in-Some-clause-few g c = rw c.in-Some.is at c.in_ok-parts.ensures.few

pub returns-clause-damaged : goal.returns-clause-damaged
returns-clause-damaged g c = λ honest damaged.
    let none = rw (c.in-None.is, c.deref.ensures.value) at c.in_ok-parts.ensures.area in
    front_missing c.in_ok-text.text.items (g.D.Disk.held c.args.disk.now).bytes (c.in_ok-text.ensures.front honest)
    (sym none)
