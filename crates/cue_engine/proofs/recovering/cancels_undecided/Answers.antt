use Rattle.std.proofs.Common.{◌∙◌}
use Rattle.cue_exchange.specs.declared.attempt.Reason.TheVariants as reason
use Rattle.cue_core.specs.Happenings.{is_undecided}
use Rattle.cue_engine.proofs.HistoryLemmas.{recovery-ok}
use Rattle.cue_engine.proofs.TickLemmas.{cancels_are, cancels_fit, on_batch}
use Rattle.cue_engine.proofs.recovering.cancels_undecided.Goals as goal

pub returns-clause-batch : goal.returns-clause-batch
returns-clause-batch c = on_batch c.cancels.result c.cancels.ensures (λ v is. is
    ∙ cancels_are is_undecided reason.Power c.args.kept.now c.deref.result.now
    (c.deref.ensures.value ∙ c.in_ok-seqs.ensures))

pub returns-clause-acceptable : goal.returns-clause-acceptable
returns-clause-acceptable c = on_batch c.cancels.result (returns-clause-batch c)
    (λ v is. rw is (recovery-ok c.args.kept.now c.last_seq-last.ensures.rules))

pub returns-clause-fits : goal.returns-clause-fits
returns-clause-fits c = on_batch c.cancels.result (returns-clause-batch c)
    (λ v is. rw is (cancels_fit is_undecided reason.Power c.args.kept.now c.last_seq-last.ensures.rules))
