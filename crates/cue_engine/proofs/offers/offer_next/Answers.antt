use Rattle.std.proofs.Common.{◌≡◌, List, ◌∙◌, ap}
use Rattle.cue_core.specs.declared.event.Event.{Event}
use Rattle.cue_keeper.proofs.StandingLemmas.{is_a_batch}
use Rattle.cue_engine.specs.Groups.{last_of}
use Rattle.cue_engine.specs.Takes.{Follows}
use Rattle.cue_engine.proofs.GroupLemmas.{last_more}
use Rattle.cue_engine.proofs.offers.offer_next.Goals as goal

pub add-requires-clause-batch : goal.add-requires-clause-batch
add-requires-clause-batch c = λ some. is_a_batch c.args.draft.now.state c.in_ok-heard.heard.batch.items
    c.last_seq-last.ensures.rules c.in_ok-heard.ensures.acceptable some c.in_ok-heard.ensures.fits.most

pub follow-requires-clause-in_turn : goal.follow-requires-clause-in_turn
follow-requires-clause-in_turn c = λ _. rw (
  c.last_batch.ensures,
  c.batches.ensures,
  c.in_ok-counts.ensures.group,
  last_more c.args.offered.now.group c.in_ok-heard.heard.batch.items,
  c.set_missing.ensures.missing,
  c.new.ensures.items,
  c.set_missing.ensures.state,
  c.swap.ensures.y_after,
) c.in_ok-heard.ensures.acceptable

pub returns-clause-spare : goal.returns-clause-spare
returns-clause-spare c =
    let batch : List Event = c.in_ok-heard.heard.batch.items in
    let last : c.last_batch.result.now ≡ batch = c.last_batch.ensures
    ∙ ap last_of (c.batches.ensures ∙ c.in_ok-counts.ensures.group) ∙ last_more c.args.offered.now.group batch in
    let follows : Follows c.args.draft.now.state c.set_missing.new.draft =
    λ _. rw (c.set_missing.ensures.missing, c.new.ensures.items, c.set_missing.ensures.state) c.swap.ensures.y_after in
    rw (c.swap.ensures.x_after, c.in_ok-heard.ensures.draft, ← c.in_ok-heard.ensures.gives.batch, ← last)
    (c.follow.ensures.in_step c.args.draft.now.state follows)
