use Rattle.std.proofs.Common.{◌+◌, refl, ◌∙◌, ap}
use Rattle.cue_keeper.specs.Observed as keeper
use Rattle.cue_engine.specs.Observed.{queue_of}
use Rattle.cue_engine.proofs.LifeLemmas.{lives_handed, handed_what_is_owed}
use Rattle.cue_engine.proofs.WireLemmas.{handed_none, part_more, parts_all}
use Rattle.cue_engine.proofs.laws.lives.hand_out_in_parts.Goals as goal

pub loop-most-init : goal.loop-most-init
loop-most-init g c = record {
  keeper = refl;
  so_far = (0, handed_none (g.W.Wire.told c.args.wire.now) (queue_of c.args.engine.now));
}

pub loop-most-preserved : goal.loop-most-preserved
loop-most-preserved g c =
    let part = c.hand_out_first-refused in
    let before = c.loop-most.invariant.so_far in
    record {
      keeper = part.ensures.keeper ∙ c.loop-most.invariant.keeper;
      so_far = (before.0 + part.result, part_more _ part.ensures.left before.1 part.ensures.handed);
    }

pub returns-clause-handed_out : goal.returns-clause-handed_out
returns-clause-handed_out g c = λ life runs. lives_handed c.args.engine.now c.hand_out-refused.new.self runs
    (ap keeper.state_of (c.hand_out-refused.ensures.keeper ∙ c.loop-most.invariant.keeper))
    c.hand_out-refused.ensures.emptied

pub returns-clause-handed : goal.returns-clause-handed
returns-clause-handed g c = λ life runs.
    let last = c.hand_out-refused in
    let before = c.loop-most.invariant.so_far in
    rw (← handed_what_is_owed runs) (before.0 + last.result, parts_all before.1 last.ensures.handed)
