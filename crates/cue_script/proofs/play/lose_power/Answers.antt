use Rattle.std.proofs.Common.{sym}
use Rattle.cue_script.proofs.play.lose_power.Goals as goal

pub returns-clause-stand : goal.returns-clause-stand
returns-clause-stand c = c.close-first.ensures.stands tt tt c.requires.works _ _ c.in_ok-left.ensures.image
    c.in_ok-other.ensures.image

pub returns-clause-reads : goal.returns-clause-reads
returns-clause-reads c =
    let kept = c.close-first.ensures.numbers tt tt c.requires.works in
    record {
      area = kept.area;
      reads = kept.leaves _ _ c.in_ok-left.ensures.image c.in_ok-other.ensures.image;
      same = sym kept.same_generation;
    }
