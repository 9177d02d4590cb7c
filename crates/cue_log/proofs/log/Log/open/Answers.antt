use Rattle.std.proofs.Common.{◌≡◌, ◌∙◌, List, ℕ, sym, ap, subst, arith}
use Rattle.cue_disk.specs.Disk.{IsImage}
use Rattle.cue_log.specs.Area.{Area, IsArea}
use Rattle.cue_log.specs.Reading.{area_in}
use Rattle.cue_log.specs.Opened.{area_read}
use Rattle.cue_log.specs.Parts.{parts_area}
use Rattle.cue_log.proofs.CompleteLemmas.{area_in_is}
use Rattle.cue_log.proofs.SettledLemmas.{settled_on, counted_on, stable_reads}
use Rattle.cue_log.proofs.log.Log.open.Goals as goal

pub settled-requires-clause-settled : goal.settled-requires-clause-settled
settled-requires-clause-settled g c = λ honest1.
    let honest = c.read_area.ensures.honest.0 honest1 in
    let area = parts_area c.in-Ok.parts in
    let there = subst (λ (l : List ℕ). IsArea area l) (sym (c.read_area.ensures.bytes honest))
    (c.in-Ok.ensures.stood honest) in
    settled_on (g.D.Disk.held c.read_area.new.disk) area c.in-Ok.parts.end there (c.in-Ok.ensures.stable honest)
    c.in-Ok.ensures.end

pub settled-requires-clause-counted : goal.settled-requires-clause-counted
settled-requires-clause-counted g c = λ honest1.
    let honest = c.read_area.ensures.honest.0 honest1 in
    let area = parts_area c.in-Ok.parts in
    let there = subst (λ (l : List ℕ). IsArea area l) (sym (c.read_area.ensures.bytes honest))
    (c.in-Ok.ensures.stood honest) in
    let counted = counted_on (g.D.Disk.held c.read_area.new.disk) area there in
    record {
      same_generation = counted.same_generation;
      same_count = omega (arith, c.count-count.ensures, counted.same_count);
    }

pub returns-in-Ok-clause-reads : goal.returns-in-Ok-clause-reads
returns-in-Ok-clause-reads g c = λ honest image left.
    let area = parts_area c.in-Ok.parts in
    let there = subst (λ (l : List ℕ). IsArea area l) (sym (c.read_area.ensures.bytes honest))
    (c.in-Ok.ensures.stood honest) in
    let same : area_read record {
      log = c.settled.result;
      snapshot = c.from_vec.result;
      records = c.in-Ok.parts.records;
    } ≡ area =
    λ i. record {
      generation = c.settled.ensures.numbers.0 i;
      snapshot = c.from_vec.ensures i;
      payloads =
          c.in-Ok.parts.records;
    } in
    subst (λ (a : Area). IsArea a image) (sym same)
    (stable_reads (g.D.Disk.held c.read_area.new.disk) area there (c.in-Ok.ensures.stable honest) image
    (subst (λ (d : _). IsImage (g.D.Disk.held d) image) c.settled.ensures.disk left))

pub returns-in-Ok-clause-area : goal.returns-in-Ok-clause-area
returns-in-Ok-clause-area g c = λ honest.
    let area = parts_area c.in-Ok.parts in
    let there = subst (λ (l : List ℕ). IsArea area l) (sym (c.read_area.ensures.bytes honest))
    (c.in-Ok.ensures.stood honest) in
    let same : area_read record {
      log = c.settled.result;
      snapshot = c.from_vec.result;
      records = c.in-Ok.parts.records;
    } ≡ area =
    λ i. record {
      generation = c.settled.ensures.numbers.0 i;
      snapshot = c.from_vec.ensures i;
      payloads =
          c.in-Ok.parts.records;
    } in
    ap (λ (d : _). area_in (g.D.Disk.held d).bytes) c.settled.ensures.disk
    ∙ area_in_is area (g.D.Disk.held c.read_area.new.disk).bytes there ∙ sym same
