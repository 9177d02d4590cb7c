-- What an input comes to, put together from what judging and keeping say.
use Rattle.std.specs.Prelude.{OnOk, OnErr, MatchResult}
use Rattle.std.proofs.Common.{◌≡◌, [], ◌∷◌, ◌++◌, List, Result, Ok, Err, IsTrue, false, sym}
use Rattle.cue_core.specs.declared.event.Event.{Event}
use Rattle.cue_core.specs.State.{ShowState}
use Rattle.cue_core.specs.Steps.{after_events, are_acceptable}
use Rattle.cue_outbox.specs.Views.{outs_view}
use Rattle.cue_engine.specs.declared.drafts.Draft.{Draft}
use Rattle.cue_engine.specs.declared.taken.Taken.{Taken}
use Rattle.cue_engine.specs.declared.offers.Offered.{Offered}
use Rattle.cue_engine.specs.Takes.{IsAhead}
use Rattle.cue_engine.proofs.GroupLemmas.{acceptable_more, folded_more}

-- an input more was offered, or nothing has changed
pub ahead_next : {E : Type 0} (r : Result Taken E) (kept : ShowState) (old_draft new_draft : Draft) (old new : Offered)
    (batch : List Event) → IsAhead kept old_draft old → new_draft.is_valid ≡ false
    → MatchResult r (λ _. new_draft.state ≡ after_events old_draft.state batch) (λ _. new_draft.state ≡ old_draft.state)
    → OnOk r (IsTrue (are_acceptable old_draft.state batch)) → OnOk r (new.group ≡ old.group ++ batch ∷ [])
    → OnErr r ((new.group ≡ old.group) × (outs_view new.sends.items ≡ outs_view old.sends.items))
    → IsAhead kept new_draft new
ahead_next (Ok counts) kept old_draft new_draft old new batch ahead marked state may group same = record {
  marked = marked;
  drafted = rw (state, ahead.drafted, group) (sym (folded_more kept old.group batch));
  in_turn = rw group (acceptable_more kept old.group batch ahead.in_turn (rw ahead.drafted at may));
}
ahead_next (Err e) kept old_draft new_draft old new batch ahead marked state may group same = record {
  marked = marked;
  drafted = rw (state, same.0) ahead.drafted;
  in_turn = rw same.0 ahead.in_turn;
}
