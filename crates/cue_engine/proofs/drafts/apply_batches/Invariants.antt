use Rattle.std.proofs.Common.{◌≡◌, drop, IsTrue}
use Rattle.cue_keeper.specs.Groups.{are_all_acceptable, batches_view}
use Rattle.cue_keeper.specs.Stands.{folded_all}
use Rattle.cue_engine.proofs.drafts.apply_batches.Given as goal

abbrev pub invariant-loop-batch : goal.invariant-loop-batch
invariant-loop-batch l = record {
  ends : folded_all l.initial.state (batches_view l.batches) ≡ folded_all l.state
      (batches_view (drop l.batch-index l.batches));
  may : IsTrue (are_all_acceptable l.state (batches_view (drop l.batch-index l.batches)));
}
