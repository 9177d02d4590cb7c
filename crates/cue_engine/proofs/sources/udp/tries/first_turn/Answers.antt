use Rattle.std.proofs.Common.{◌≡◌, arith}
use Rattle.cue_engine.proofs.TryLemmas.{passed_none, passed_more, gave_turn, gave_fault, gave_none}
use Rattle.cue_engine.proofs.sources.udp.tries.first_turn.Goals as goal

pub loop-init : goal.loop-init
loop-init g c = passed_none c.args.most (g.T.Tries.left c.args.tries.now)

pub returns-in-Ok-Some-clause-first : goal.returns-in-Ok-Some-clause-first
returns-in-Ok-Some-clause-first g c =
    gave_turn c.args.most c.loop.counter (g.T.Tries.left c.args.tries.now) (g.T.Tries.left c.loop.tries)
    (g.T.Tries.left c.try_next.new.self) c.in-Ok-Some.turn
    (omega (arith, c.loop-test)) c.loop.invariant (rw c.in-Ok-Some.field-0-is at c.in-Ok-Some.ensures.tried)

pub returns-in-Err-clause-first : goal.returns-in-Err-clause-first
returns-in-Err-clause-first g c =
    gave_fault c.args.most c.loop.counter (g.T.Tries.left c.args.tries.now) (g.T.Tries.left c.loop.tries)
    (g.T.Tries.left c.try_next.new.self) (record {})
    (omega (arith, c.loop-test)) c.loop.invariant c.in-Err.ensures.tried

pub loop-preserved : goal.loop-preserved
loop-preserved g c =
    passed_more c.args.most c.loop.counter (g.T.Tries.left c.args.tries.now) (g.T.Tries.left c.loop.tries)
    (g.T.Tries.left c.try_next.new.self)
    (omega (arith, c.loop-test)) c.loop.invariant (rw c.in-Ok-None.field-0-is at c.in-Ok-None.ensures.tried)

pub returns-clause-first : goal.returns-clause-first
returns-clause-first g c =
    let all : c.loop.counter ≡ c.args.most = omega (arith, c.loop-test, c.loop.auto.counter-end) in
    gave_none c.args.most (g.T.Tries.left c.args.tries.now) (g.T.Tries.left c.loop.tries) (record {})
    (rw all at c.loop.invariant)
