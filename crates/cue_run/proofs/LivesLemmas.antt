-- What a run came to goes on with the life of a store.
use Rattle.std.proofs.Common.{◌≡◌, inl, inr, ℕ, List, [], ◌∷◌, ◌++◌, Option, Some, None, refl, sym, ap, ◌∙◌, append-nil}
use Rattle.std.proofs.lemmas.List.{map-append}
use Rattle.cue_disk.specs.declared.disk.Disk.{Ghosts}
use Rattle.cue_core.specs.State.{ShowState}
use Rattle.cue_keeper.specs.Stands.{folded_all}
use Rattle.cue_outbox.specs.Sending.{Send, datagram, datagrams}
use Rattle.cue_keeper.specs.declared.keeper.Keeper.{Keeper}
use Rattle.cue_engine.specs.declared.engine.Engine.{Engine}
use Rattle.cue_engine.specs.Observed.{keeper_of, state_of, queue_of, first_of, second_of}
use Rattle.cue_engine.specs.Given.{Input, given_of}
use Rattle.cue_engine.specs.Groups.{batches_given, sends_given}
use Rattle.cue_engine.specs.Incidents.{Incident, stopped_in_commit, Store, running, Permits, Happens, left_by_all}
use Rattle.cue_engine.specs.Headline.{all_handed}
use Rattle.cue_engine.specs.Lives.{Life, store_now, RunsWith, view_of, IsSound}
use Rattle.cue_engine.specs.Sources.{Answer, ends, fails, GaveAll}
use Rattle.cue_engine.specs.Wires.{Handed}
use Rattle.cue_engine.proofs.GroupLemmas.{is_a_run}
use Rattle.cue_engine.proofs.LifeLemmas.{left_on, life_on, rests_more}
use Rattle.cue_run.specs.declared.turns.Ended.{Ended}
use Rattle.cue_run.specs.declared.turns.RunFault.{RunFault}
use Rattle.cue_run.specs.declared.turns.RunFault.TheVariants as fault
use Rattle.cue_run.specs.Running.{given_answers, LeavesEither, Works, EndedBy, Ran}
use Rattle.cue_run.specs.Lives.{turns_of, GaveLast, GoesThrough, EndsAtRest}
use Rattle.cue_run.proofs.RunLemmas.{gave_none, came_join}

-- ---- the turns of a run

turns_happen : (s : ShowState) (owed : List (ℕ × Send)) (inputs : List (ℕ × Input))
    → Happens (running s owed) (turns_of inputs)
turns_happen s owed [] = (tt, tt)
turns_happen s owed (i ∷ is) =
    (tt, (tt, turns_happen (folded_all s (batches_given s (i ∷ []))) ([] ++ sends_given s (i ∷ [])) is))

turns_leave : (s : ShowState) (owed : List (ℕ × Send)) (inputs : List (ℕ × Input))
    → left_by_all (running s owed) (turns_of inputs) ≡ running (folded_all s (batches_given s inputs)) []
turns_leave s owed [] = refl
turns_leave s owed (i ∷ is) =
    turns_leave (folded_all s (batches_given s (i ∷ []))) ([] ++ sends_given s (i ∷ [])) is

turns_hand : (s : ShowState) (owed : List (ℕ × Send)) (inputs : List (ℕ × Input))
    → all_handed (running s owed) (turns_of inputs) ≡ owed ++ sends_given s inputs
turns_hand s owed [] = refl
turns_hand s owed (i ∷ is) =
    let next : ShowState = folded_all s (batches_given s (i ∷ [])) in
    ap (λ (ms : List (ℕ × Send)). owed ++ ms) (turns_hand next ([] ++ sends_given s (i ∷ [])) is
    ∙ ap (λ (ms : List (ℕ × Send)). ms ++ sends_given next is) (append-nil (given_of s i.0 i.1).sends))

-- ---- what the source gave last

record CameLast (size asked turns : ℕ) (why : Option RunFault) (mid left_then : Option (List Answer)) : Type 0 where
  refused : List (ℕ × Input)
  after : List Answer
  last : GaveLast asked turns why refused after
  came : GaveAll size mid (given_answers refused ++ after) left_then

came_last : {D : Type 0} {disk : Ghosts D} (size most asked turns : ℕ) (why : Option RunFault) (old new : Keeper D disk)
    (mid left_then : Option (List Answer)) → EndedBy size most asked turns why old new mid left_then
    → CameLast size asked turns why mid left_then
came_last size most asked turns None old new mid left_then (inl all) =
    record { refused = []; after = []; last = (refl, inl (all.0, refl)); came = rw all.1 (gave_none size mid) }
came_last size most asked turns None old new mid left_then (inr end) =
    record { refused = []; after = ends ∷ []; last = (refl, inr refl); came = end }
came_last size most asked turns (Some fault.Source) old new mid left_then failed =
    record { refused = []; after = fails ∷ []; last = (refl, refl); came = failed }
came_last size most asked turns (Some (fault.Engine f)) old new mid left_then (inl none) = record {
  refused = [];
  after = [];
  last = inl (none.0, none.1, refl, refl);
  came = rw none.2 (gave_none size mid);
}
came_last size most asked turns (Some (fault.Engine f)) old new mid left_then (inr refuses) = record {
  refused = refuses.inputs;
  after = refuses.after;
  last = inr (refuses.some, refuses.one_more);
  came = refuses.came;
}

-- ---- a run

module _ {D : Type 0} {disk : Ghosts D} {size most asked : ℕ} {ended : Ended} {old new : Engine D disk}
    {left left_then : Option (List Answer)} {told told_then : Option (List Handed)}
    (ran : Ran size most asked ended old new left left_then told told_then) (life : Life) where
  pub goes_through : RunsWith life (state_of old) (queue_of old)
      → GoesThrough size asked ended left left_then told told_then life (state_of new)
  goes_through runs =
      let s : ShowState = state_of old in
      let inputs : List (ℕ × Input) = ran.taken.inputs in
      let more : List Incident = turns_of inputs in
      let hands : datagrams (all_handed (store_now life) more) ≡ queue_of old ++ datagrams (sends_given s inputs) =
      rw (runs.runs, turns_hand s runs.owed inputs, runs.owes) (map-append datagram runs.owed (sends_given s inputs))
      in
      let rest : CameLast size asked ended.turns ended.fault ran.mid left_then =
      came_last size most asked ended.turns ended.fault (keeper_of old) (keeper_of new) ran.mid left_then ran.why in
      record {
        inputs = inputs;
        refused = rest.refused;
        after = rest.after;
        number = ran.taken.number;
        last = rest.last;
        came = came_join size left ran.mid left_then inputs rest.refused rest.after ran.taken.gave rest.came;
        runs = record {
          lived = life_on life more (running s runs.owed) runs.lived runs.runs (turns_happen s runs.owed inputs);
          owed = [];
          runs = left_on life more ∙ ap (λ (u : Store). left_by_all u more) runs.runs
              ∙ turns_leave s runs.owed inputs
              ∙ ap (λ (t : ShowState). running t []) (sym (ran.taken.state ∙ (is_a_run s inputs).0));
          owes = refl;
        };
        handed = (ran.taken.refused, rw hands (rw (is_a_run s inputs).2 at ran.taken.handed));
      }

  -- ---- its end

  -- the inputs that were refused last may be kept, or none of them
  closed_after : RunsWith life (state_of new) [] → (refused : List (ℕ × Input))
      → LeavesEither (disk.held (first_of new)) (disk.held (second_of new)) (state_of new)
      (folded_all (state_of new) (batches_given (state_of new) refused))
      → EndsAtRest life (disk.held (first_of new)) (disk.held (second_of new))
  closed_after runs refused leaves = record {
    refused = refused;
    rests = λ x y in_one in_other.
        let stop : Incident = stopped_in_commit refused 0 x y in
        let ok : Permits (running (state_of new) runs.owed) stop = λ u v left_u left_v.
        leaves u v (in_one u left_u) (in_other v left_v) in
        rests_more life stop (running (state_of new) runs.owed) x y runs.lived runs.runs ok refl;
  }

  pub ends_at_rest : IsSound (view_of old) → RunsWith life (state_of new) []
      → EndsAtRest life (disk.held (first_of new)) (disk.held (second_of new))
  ends_at_rest sound runs = closed_by ended.fault refl ran.why
    where
      -- no device failed
      closed_well : Works (keeper_of old) (keeper_of new)
          → EndsAtRest life (disk.held (first_of new)) (disk.held (second_of new))
      closed_well works = closed_after runs []
          (λ x y left_x left_y. inl (works.stands sound.0.0 sound.0.1 sound.1 x y left_x left_y))

      closed_by : (r : Option RunFault) → ended.fault ≡ r
          → EndedBy size most asked ended.turns r (keeper_of old) (keeper_of new) ran.mid left_then
          → EndsAtRest life (disk.held (first_of new)) (disk.held (second_of new))
      closed_by None is why = closed_well (ran.works (λ failed. cc))
      closed_by (Some fault.Source) is why = closed_well (ran.works (λ failed. cc))
      closed_by (Some (fault.Engine f)) is (inl none) = closed_well (ran.works (λ failed. cc))
      closed_by (Some (fault.Engine f)) is (inr refuses) = closed_after runs refuses.inputs
          (rw refuses.accepts.state (refuses.leaves sound.0.0 sound.0.1 sound.1))
