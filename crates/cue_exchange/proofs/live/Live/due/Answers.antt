use Rattle.std.proofs.Common.{◌≡◌, IsTrue, nat_lt}
use Rattle.std.proofs.lemmas.Result.{IfOk-weaker}
use Rattle.cue_exchange.specs.Live.{due, pairwise}
use Rattle.cue_exchange.proofs.RisingLemmas.{rising-due}
use Rattle.cue_exchange.proofs.live.Live.due.Goals as goal

pub returns-clause-rising : goal.returns-clause-rising
returns-clause-rising c =
    IfOk-weaker c.due.result (λ seqs. seqs.items ≡ due c.args.now c.self.inside.attempts.items)
    (λ seqs. IsTrue (pairwise nat_lt seqs.items))
    (λ seqs same. rw same (rising-due c.args.now c.self.inside.attempts.items c.self.invariant.live)) c.due.ensures
