use Rattle.std.proofs.Common.{arith, subst, inl, inr, List, ℕ}
use Rattle.std.proofs.lemmas.Bool.{cases_eq}
use Rattle.cue_pattern.specs.Lanes.{Stands}
use Rattle.cue_pattern.proofs.LaneTableLemmas.{name-at, same-stands, same-blank}
use Rattle.cue_pattern.proofs.lanes.Lanes.of.Goals as goal

pub loop-lane-preserved : goal.loop-lane-preserved
loop-lane-preserved c = record {
  stands = λ j l. elim (cases_eq j c.loop-lane.lane) [
    | inl is ↦ rw is (subst (λ (t : List ℕ). Stands c.put.new.self c.loop-lane.lane t)
        (name-at (λ name. name.now) c.args.names.now c.loop-lane.lane _ (omega arith)) c.put.ensures.stands)
    | inr apart ↦ same-stands j c.loop-lane.lanes c.put.new.self _ (c.put.ensures.others j apart)
        (c.loop-lane.invariant.stands j (omega arith))
  ];
  blank = λ j l. same-blank j c.loop-lane.lanes c.put.new.self (c.put.ensures.others j (omega arith))
      (c.loop-lane.invariant.blank j (omega arith));
}
