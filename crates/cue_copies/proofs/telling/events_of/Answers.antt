use Rattle.cue_copies.proofs.TellingLemmas.{one_more, all_told}
use Rattle.cue_copies.proofs.telling.events_of.Goals as goal

pub loop-payload-preserved : goal.loop-payload-preserved
loop-payload-preserved c = record {
  so_far =
      one_more c.args.tail.now c.loop-payload.rest c.next.new.self c.in-Some.payload.now c.loop-payload.events.items
      c.push_batch.new.events.items c.loop-payload.invariant.so_far c.in-Some.ensures c.in_ok-push_batch.ensures;
}

pub returns : goal.returns
returns c =
    all_told c.args.tail.now c.loop-payload.rest c.loop-payload.events.items c.loop-payload.invariant.so_far c.in_default.ensures.0
