use Rattle.cue_engine.proofs.TryLemmas.{Passed}
use Rattle.cue_engine.proofs.sources.udp.tries.first_turn.Given as goal

abbrev pub invariant-loop : goal.invariant-loop
invariant-loop g l = Passed l.most l.counter (g.T.Tries.left l.initial.tries) (g.T.Tries.left l.tries)
