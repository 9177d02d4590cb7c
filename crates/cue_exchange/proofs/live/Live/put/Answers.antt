use Rattle.std.proofs.Common.{refl}
use Rattle.cue_exchange.proofs.PlaceLemmas.{insert-place, are_live-with_attempt}
use Rattle.cue_exchange.proofs.live.Live.put.Goals as goal

pub invariant_of-self-2 : goal.invariant_of-self-2
invariant_of-self-2 c = record {
  live =
      rw (c.in_ok-insert.ensures.items, c.place_of-place.ensures.place, insert-place)
      (are_live-with_attempt c.args.attempt c.self.inside.attempts.items c.self.invariant.live
      (rw (← c.self.view_is) at c.requires));
  holders = rw (← c.deref.ensures.value) c.holders_of-self-inside.ensures;
}

pub returns-clause-ok : goal.returns-clause-ok
returns-clause-ok c = rw (c.in_ok-insert.ensures.items, c.place_of-place.ensures.place, insert-place, c.self.view_is)
    refl
