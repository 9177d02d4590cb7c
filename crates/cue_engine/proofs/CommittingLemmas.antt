-- What a commit says of the inputs that were offered before it, and that they have room together.
use Rattle.std.proofs.Common.{◌≡◌, ℕ, [], ◌∷◌, ◌++◌, false, List, sym, ◌∙◌, subst, IsTrue, true≢false}
use Rattle.std.proofs.lemmas.List.{map-append}
use Rattle.cue_disk.specs.declared.disk.Disk.{Ghosts}
use Rattle.cue_core.specs.declared.event.Event.{Event}
use Rattle.cue_core.specs.State.{ShowState}
use Rattle.cue_keeper.specs.declared.fault.Fault.TheVariants as fault
use Rattle.cue_keeper.specs.Turning.{IsInTheWay}
use Rattle.cue_keeper.specs.Due.{lacks_room}
use Rattle.cue_keeper.specs.Groups.{records_of}
use Rattle.cue_keeper.specs.Observed as kept
use Rattle.cue_keeper.proofs.FittingLemmas.{room_beside}
use Rattle.cue_keeper.specs.Stands.{folded_all}
use Rattle.cue_outbox.specs.Sending.{datagram}
use Rattle.cue_engine.specs.declared.engine.Engine.{Engine}
use Rattle.cue_engine.specs.declared.taken.Taken.{Taken}
use Rattle.cue_engine.specs.Given.{Input, given_of}
use Rattle.cue_engine.specs.Groups.{batches_given, sends_given}
use Rattle.cue_engine.specs.Taking.{Offers, IsOffered}
use Rattle.cue_engine.specs.Takes.{FitsRecord}
use Rattle.cue_engine.specs.Observed.{keeper_of, state_of, offered_of, latest_of, has_room}
use Rattle.cue_engine.proofs.GroupLemmas.{batches_more, sends_more}

module _ {D : Type 0} {disk : Ghosts D} where
  -- a batch for which there was room beside those before it has room
  pub next_fits : (old : Engine D disk) (batches : List (List Event)) (batch : List Event)
      → batches ≡ offered_of old ++ batch ∷ [] → FitsRecord batch → IsTrue (has_room old)
      → IsInTheWay (kept.pair_of (keeper_of old)) batches fault.Full → ⊥
  next_fits old batches batch is fits room =
      subst (λ (bs : List (List Event)). IsInTheWay (kept.pair_of (keeper_of old)) bs fault.Full → ⊥) (sym is) (λ way.
      let free : lacks_room (kept.count_of (keeper_of old)) (kept.end_of (keeper_of old))
      (records_of (offered_of old ++ batch ∷ [])) ≡ false =
      room_beside (kept.count_of (keeper_of old)) (kept.end_of (keeper_of old)) (offered_of old) batch room fits.short
      way.1 in
      absurd (true≢false (sym way.0 ∙ free)))

  -- an input that is offered is the next of them
  pub offered_next : (inputs : List (ℕ × Input)) (now : ℕ) (input : Input) (counts : Taken) (old new : Engine D disk)
      → state_of new ≡ state_of old → IsOffered inputs old → Offers (given_of (latest_of old) now input) counts old new
      → IsOffered (inputs ++ (now, input) ∷ []) new
  offered_next inputs now input counts old new same offered offers =
      let s : ShowState = state_of old in
      record {
        batches = rw (same, offers.batches, offered.batches) (sym (batches_more s inputs now input));
        sends = rw (same, offers.sends, offered.sends, offered.batches, sends_more s inputs now input)
            (sym (map-append datagram (sends_given s inputs)
            (given_of (folded_all s (batches_given s inputs)) now input).sends));
      }
