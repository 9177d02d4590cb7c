use Rattle.std.proofs.Common.{◌≡◌, ◌∙◌, sym, arith, length}
use Rattle.cue_log.specs.Reading.{area_with}
use Rattle.cue_log.specs.Area.{Area}
use Rattle.cue_log.proofs.SoundLemmas.{last_gate, few_records, sound_at}
use Rattle.cue_log.proofs.RecordsReadLemmas.{read_in}
use Rattle.cue_log.proofs.reading.read_parts.Goals as goal

pub returns-clause-end : goal.returns-clause-end
returns-clause-end c =
    let front = c.in-Some.front in
    let area : Area = record {
      generation = front.generation;
      snapshot = c.in_ok-snapshot.snapshot.items;
      payloads =
          c.in_ok-records.records;
    } in
    let gate = last_gate area (length c.args.text.now) c.in-Some-len_left.behind front.tail.now
    c.in-Some-len_left.ensures (read_in front.tail.now c.in-Some-len_left.behind c.in_ok-records.records
    c.in-Some-len_left.ensures c.in_ok-records.ensures)
    (omega (arith, c.in-Some.ensures.len, c.in_ok-snapshot.ensures.len)) in
    gate.0

pub returns-clause-few : goal.returns-clause-few
returns-clause-few c =
    let front = c.in-Some.front in
    let area : Area = record {
      generation = front.generation;
      snapshot = c.in_ok-snapshot.snapshot.items;
      payloads =
          c.in_ok-records.records;
    } in
    let gate = last_gate area (length c.args.text.now) c.in-Some-len_left.behind front.tail.now
    c.in-Some-len_left.ensures (read_in front.tail.now c.in-Some-len_left.behind c.in_ok-records.records
    c.in-Some-len_left.ensures c.in_ok-records.ensures)
    (omega (arith, c.in-Some.ensures.len, c.in_ok-snapshot.ensures.len)) in
    omega (arith, gate.0, few_records area)

pub returns-clause-found : goal.returns-clause-found
returns-clause-found c =
    let front = c.in-Some.front in
    let area : Area = record {
      generation = front.generation;
      snapshot = c.in_ok-snapshot.snapshot.items;
      payloads =
          c.in_ok-records.records;
    } in
    let same : c.in_ok-snapshot.snapshot.items ≡ front.snapshot.now =
    c.in_ok-snapshot.ensures.items_if_clones_equal (λ x y equal. equal) in
    sound_at c.args.text.now area (λ i. (c.type_inv.text i).fits) c.requires
    (c.in-Some.ensures.front
    ∙ (λ i. area_with front.generation (sym same i)
    (read_in front.tail.now c.in-Some-len_left.behind c.in_ok-records.records c.in-Some-len_left.ensures
    c.in_ok-records.ensures i)))

pub returns-clause-within : goal.returns-clause-within
returns-clause-within c =
    let front = c.in-Some.front in
    let area : Area = record {
      generation = front.generation;
      snapshot = c.in_ok-snapshot.snapshot.items;
      payloads =
          c.in_ok-records.records;
    } in
    let gate = last_gate area (length c.args.text.now) c.in-Some-len_left.behind front.tail.now
    c.in-Some-len_left.ensures (read_in front.tail.now c.in-Some-len_left.behind c.in_ok-records.records
    c.in-Some-len_left.ensures c.in_ok-records.ensures)
    (omega (arith, c.in-Some.ensures.len, c.in_ok-snapshot.ensures.len)) in
    gate.1
