use Rattle.std.proofs.Common.{◌≡◌, ◌+◌, ◌∷◌, ◌++◌, [], length, take, get_or, refl, ◌∙◌, sym, ap, arith}
use Rattle.std.proofs.lemmas.List.{take_more}
use Rattle.std.proofs.Math.Seq.{take-length}
use Rattle.cue_engine.specs.Observed.{queue_of, last_batches_of}
use Rattle.cue_run.proofs.RunLemmas.{so_far_none, so_far_more, so_far_all}
use Rattle.cue_run.proofs.WatchLemmas.{saw_none, saw_more}
use Rattle.cue_run.proofs.groups.handing.hand_out_each.Goals as goal

pub loop-place-init : goal.loop-place-init
loop-place-init g c = (
  so_far_none (g.W.Wire.told c.args.wire.now) (queue_of c.args.engine.now),
  refl,
  refl,
  refl,
  refl,
  saw_none (g.V.Watch.seen c.args.watch.now),
)

pub loop-place-preserved : goal.loop-place-preserved
loop-place-preserved g c =
    let now = c.loop-place.invariant in
    let h = c.hand_out_first-refused.ensures in
    let place = c.loop-place.place in
    let batches = last_batches_of c.args.engine.now in
    let batch = c.batch_at-batch.result.now in
    let is : batch ≡ get_or batches place [] =
    c.batch_at-batch.ensures ∙ ap (λ l. get_or l place []) (c.last_batches.ensures ∙ (h.last ∙ now.4)) in
    let more : take (place + 1) batches ≡ take place batches ++ batch ∷ [] =
    take_more batches place [] (omega (arith, c.loop-place-test.true, c.requires))
    ∙ sym (ap (λ b. take place batches ++ b ∷ []) is) in (
      so_far_more c.saturating_add-unsent.ensures now.0 c.saturating_sub.result h.left c.look.ensures.told h.handed,
      h.keeper ∙ now.1,
      h.offered.0 ∙ now.2,
      h.offered.1 ∙ now.3,
      h.last ∙ now.4,
      rw more
          (saw_more (g.V.Watch.seen c.args.watch.now) (g.V.Watch.seen c.loop-place.watch)
          (g.V.Watch.seen c.look.new.self) (take place batches) (batch ∷ []) now.5 c.look.ensures.seen),
    )

pub returns-clause-handed : goal.returns-clause-handed
returns-clause-handed g c = so_far_all c.saturating_add.ensures c.loop-place.invariant.0 c.hand_out.ensures.handed

pub returns-clause-saw : goal.returns-clause-saw
returns-clause-saw g c =
    let batches = last_batches_of c.args.engine.now in
    let all : c.loop-place.place ≡ length batches =
    omega (arith, c.loop-place-test.false, c.loop-place.auto.place-end, c.requires) in
    let whole : take c.loop-place.place batches ≡ batches = ap (λ k. take k batches) all ∙ take-length batches in
    rw whole at c.loop-place.invariant.5
