use Rattle.std.proofs.Common.{◌∙◌, ℕ, List, Option, ap, sym, subst}
use Rattle.cue_disk.specs.Disk.{Contents}
use Rattle.cue_log.specs.Area.{IsArea, IsAbsent}
use Rattle.cue_log.specs.Log.{IsDamaged}
use Rattle.cue_log.specs.Opened.{area_read}
use Rattle.cue_copies.specs.Earlier.{IsAreaBefore}
use Rattle.cue_copies.proofs.EarlierLemmas.{before_or_none, no_area}
use Rattle.cue_copies.proofs.earlier.records_before.Goals as goal

pub returns-in-Ok-open : goal.returns-in-Ok-open
returns-in-Ok-open c =
    let area = area_read c.in-Ok-open.field-0 in
    let is : IsArea area c.args.bytes.now = subst (λ (bytes : List ℕ). IsArea area bytes)
    (ap (λ (held : Contents). held.bytes) c.in-Ok.ensures.held) (c.in-Ok-open.ensures.stood tt) in
    subst (λ (found : Option (List (List ℕ))). IsAreaBefore c.args.generation c.args.bytes.now found)
    (sym c.if_before.ensures)
    (before_or_none c.args.generation c.args.bytes.now area c.is_before-is_before.result is c.is_before-is_before.ensures)

pub returns : goal.returns
returns c = λ area is same.
    let held = ap (λ (held : Contents). held.bytes) c.in-Ok.ensures.held in
    no_area c.in-Err.fault c.args.bytes.now (λ f. subst IsAbsent held (c.in-Err.ensures.absent tt f))
    (λ f. subst IsDamaged held (c.in-Err.ensures.damaged tt f)) (sym c.area_fault.ensures ∙ c.in-None.is) area is
