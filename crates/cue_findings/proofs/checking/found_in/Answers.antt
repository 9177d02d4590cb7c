use Rattle.std.proofs.Common.{rules, subst}
use Rattle.std.specs.List.Sorted.{IsPermutation}
use Rattle.cue_findings.specs.Checking.{all_of}
use Rattle.cue_findings.proofs.checking.found_in.Goals as goal

pub returns : goal.returns
returns c =
    record {
      file = c.in_ok-file.field-0.file;
      told = c.in_ok-file.field-0.told.items;
      reviewed = c.in_ok-mistakes.field-0.mistakes.items;
      is_told = c.in_ok-file.ensures.told;
      review = c.in_ok-mistakes.ensures;
      all =
          subst
          (λ b. IsPermutation (all_of c.in_ok-file.field-0.told.items c.in_ok-mistakes.field-0.mistakes.items b)
          c.in_ok-mistakes-2.mistakes.items)
          c.has_device.ensures c.in_ok-mistakes-2.ensures.all;
      in_order = c.in_ok-mistakes-2.ensures.sorted;
      plan = c.in_ok-plan.ensures;
      devices = search rules;
      cues = search rules;
    }
