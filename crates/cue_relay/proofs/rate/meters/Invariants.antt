use Rattle.std.proofs.Common.{◌≡◌, [], replicate}
use Rattle.cue_relay.proofs.rate.meters.Given as goal

abbrev pub invariant-loop-made : goal.invariant-loop-made
invariant-loop-made l = l.meters.items ≡ replicate l._made []
