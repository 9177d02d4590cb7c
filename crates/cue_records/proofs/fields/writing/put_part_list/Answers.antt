use Rattle.cue_show.specs.Parts.{is_part}
use Rattle.cue_records.specs.Fields.{part_text}
use Rattle.cue_records.proofs.WrittenLemmas.{write_goes_on, fit_goes_on}
use Rattle.cue_records.proofs.fields.writing.put_part_list.Goals as goal

pub loop-part-preserved : goal.loop-part-preserved
loop-part-preserved c = record {
  written = write_goes_on (part_text c.args.form) c.args.parts.now c.loop-part.part-index c.part-item.result
      c.loop-part.out.items c.put_part.new.out.items _ c.loop-part-test.true c.part-item.is c.in_ok-put_part.ensures
      c.loop-part.invariant.written;
  fit = fit_goes_on is_part c.args.parts.now c.loop-part.part-index c.part-item.result c.loop-part-test.true
      c.part-item.is c.loop-part.invariant.fit;
}
