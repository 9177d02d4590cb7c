-- Each call goes on with the life of a store.
use Rattle.std.proofs.Common.{◌≡◌, ℕ, List, [], ◌∷◌, ◌++◌, take, drop, Option, Result, Ok, Err, refl, sym, ap, ◌∙◌}
use Rattle.std.proofs.Common.{subst}
use Rattle.std.specs.Prelude.{IfOk, OnOk, OnErr}
use Rattle.std.proofs.lemmas.List.{map-append, take-map, drop-map}
use Rattle.cue_disk.specs.declared.disk.Disk.{Ghosts}
use Rattle.cue_disk.specs.Disk.{Contents}
use Rattle.cue_core.specs.declared.event.Event.{Event}
use Rattle.cue_core.specs.State.{ShowState}
use Rattle.cue_keeper.specs.declared.fault.Fault.{Fault}
use Rattle.cue_keeper.specs.Accepting.{Accepts}
use Rattle.cue_keeper.specs.Pairs.{LeavesPairsAtEachMoment}
use Rattle.cue_keeper.specs.Stands.{StandsEither, StandsAs, folded_all}
use Rattle.cue_outbox.specs.Sending.{Send, datagram, datagrams}
use Rattle.cue_engine.specs.declared.engine.Engine.{Engine}
use Rattle.cue_engine.specs.Observed.{keeper_of, state_of, queue_of, first_of, second_of}
use Rattle.cue_engine.specs.Given.{Input}
use Rattle.cue_engine.specs.Groups.{batches_given, sends_given}
use Rattle.cue_engine.specs.Incidents.{Incident, committed, handed_out, handed_some, stopped, stopped_in_commit, Store}
use Rattle.cue_engine.specs.Incidents.{running, at_rest, Permits, left_by, Happens, left_by_all}
use Rattle.cue_engine.specs.Headline.{owed_by, handed_in}
use Rattle.cue_engine.specs.Permitted.{IsWithin}
use Rattle.cue_engine.specs.Lives.{Life, with_all, with_next, store_now, IsLife, RunsWith, RestsWith, IsPromisedWithin}
use Rattle.cue_engine.specs.Lives.{RestsWithin, view_of}
use Rattle.cue_engine.proofs.PromisedLemmas.{recovery_gives_a_prefix}
use Rattle.cue_engine.proofs.PermittedLemmas.{stop, stop_in_commit}
use Rattle.cue_engine.specs.Taking.{Takes}

-- ---- incidents more

happens_on : (store : Store) (is more : List Incident) → Happens store is → Happens (left_by_all store is) more
    → Happens store (is ++ more)
happens_on store [] more h on = on
happens_on store (i ∷ is) more h on = (h.0, happens_on (left_by store i) is more h.1 on)

left_by_more : (store : Store) (is more : List Incident)
    → left_by_all store (is ++ more) ≡ left_by_all (left_by_all store is) more
left_by_more store [] more = refl
left_by_more store (i ∷ is) more = left_by_more (left_by store i) is more

pub left_on : (life : Life) (more : List Incident)
    → store_now (with_all life more) ≡ left_by_all (store_now life) more
left_on life more = left_by_more life.store life.incidents more

pub life_on : (life : Life) (more : List Incident) (now : Store) → IsLife life → store_now life ≡ now
    → Happens now more → IsLife (with_all life more)
life_on life more now lived same ok =
    let P : Store → Type 0 = λ u. Happens u more in
    record {
      rules = lived.rules;
      begins = lived.begins;
      happens = happens_on life.store life.incidents more lived.happens (subst P (sym same) ok);
    }

-- ---- one incident more

pub left_more : (life : Life) (i : Incident) → store_now (with_next life i) ≡ left_by (store_now life) i
left_more life i = left_on life (i ∷ [])

pub life_more : (life : Life) (i : Incident) (now : Store) → IsLife life → store_now life ≡ now → Permits now i
    → IsLife (with_next life i)
life_more life i now lived same ok = life_on life (i ∷ []) now lived same (ok, tt)

pub rests_more : (life : Life) (i : Incident) (now : Store) (one other : Contents)
    → IsLife life → store_now life ≡ now → Permits now i → left_by now i ≡ at_rest one other
    → RestsWith (with_next life i) one other
rests_more life i now one other lived same ok leaves = record {
  lived = life_more life i now lived same ok;
  rests = left_more life i ∙ ap (λ (u : Store). left_by u i) same ∙ leaves;
}

-- ---- calls after which an engine runs

-- an incident more, after which an engine runs with this state and owes this
runs_next : {life : Life} {old : ShowState} {queue new_queue : List (ℕ × List ℕ)} (runs : RunsWith life old queue)
    (i : Incident) (new : ShowState) (owed : List (ℕ × Send)) → Permits (running old runs.owed) i
    → left_by (running old runs.owed) i ≡ running new owed → new_queue ≡ datagrams owed
    → RunsWith (with_next life i) new new_queue
runs_next {life} {old} runs i new owed ok leaves owes = record {
  lived = life_more life i (running old runs.owed) runs.lived runs.runs ok;
  owed = owed;
  runs = left_more life i ∙ ap (λ (u : Store). left_by u i) runs.runs ∙ leaves;
  owes = owes;
}

-- what the answer has, holds where it is Ok
pub from_answer : {T E : Type 0} {P : T → Type 0} {Q : Type 0} (r : Result T E) → IfOk r P → ((t : T) → P t → Q)
    → OnOk r Q
from_answer (Ok t) h f = f t h
from_answer (Err e) h f = tt

module _ {D : Type 0} {disk : Ghosts D} (old new : Engine D disk) {life : Life}
    (runs : RunsWith life (state_of old) (queue_of old)) where
  pub lives_committed : {T E : Type 0} (inputs : List (ℕ × Input)) (r : Result T E) → OnOk r (Takes inputs old new)
      → OnOk r (RunsWith (with_next life (committed inputs)) (state_of new) (queue_of new))
  lives_committed inputs (Ok t) takes =
      let sends : List (ℕ × Send) = sends_given (state_of old) inputs in
      let owed : List (ℕ × Send) = runs.owed ++ sends in
      runs_next runs (committed inputs) (state_of new) owed tt
      (ap (λ (u : ShowState). running u owed) (sym takes.state))
      (takes.queue ∙ ap (λ (q : List (ℕ × List ℕ)). q ++ datagrams sends) runs.owes
      ∙ sym (map-append datagram runs.owed sends))
  lives_committed inputs (Err e) takes = tt

  pub lives_as_before : state_of new ≡ state_of old → queue_of new ≡ queue_of old
      → RunsWith life (state_of new) (queue_of new)
  lives_as_before state queue =
      let P : ShowState → Type 0 = λ u. store_now life ≡ running u runs.owed in
      record { lived = runs.lived; owed = runs.owed; runs = subst P (sym state) runs.runs; owes = queue ∙ runs.owes }

  pub lives_still : {T E : Type 0} (r : Result T E)
      → OnErr r ((state_of new ≡ state_of old) × (queue_of new ≡ queue_of old))
      → OnErr r (RunsWith life (state_of new) (queue_of new))
  lives_still (Ok t) same = tt
  lives_still (Err e) same = lives_as_before same.0 same.1

  pub lives_handed : state_of new ≡ state_of old → queue_of new ≡ []
      → RunsWith (with_next life handed_out) (state_of new) (queue_of new)
  lives_handed state queue = runs_next runs handed_out (state_of new) [] tt
      (ap (λ (u : ShowState). running u []) (sym state)) queue

  pub lives_handed_some : (n : ℕ) → state_of new ≡ state_of old → queue_of new ≡ drop n (queue_of old)
      → RunsWith (with_next life (handed_some n)) (state_of new) (queue_of new)
  lives_handed_some n state queue = runs_next runs (handed_some n) (state_of new) (drop n runs.owed) tt
      (ap (λ (u : ShowState). running u (drop n runs.owed)) (sym state))
      (queue ∙ ap (λ (os : List (ℕ × List ℕ)). drop n os) runs.owes ∙ drop-map datagram n runs.owed)

  -- wherever a stop finds the disks within a commit that accepted these batches of the inputs, or said why not
  pub rests_in_commit : (inputs : List (ℕ × Input)) (batches : List (List Event)) (refused : Option Fault)
      → batches ≡ batches_given (state_of old) inputs → Accepts batches refused (keeper_of old) (keeper_of new)
      → RestsWithin (view_of old) (view_of new) life inputs
  rests_in_commit inputs batches refused same accepts sound n i j one other at_i at_j in_one in_other =
      let s : ShowState = state_of old in
      let stop : Incident = stopped_in_commit inputs n one other in
      let P : List (List Event) → Type 0 =
      λ bs. LeavesPairsAtEachMoment disk.moment disk.held_at (first_of old) (second_of old) (first_of new)
      (second_of new) (StandsEither s (folded_all s bs)) in
      let ok : Permits (running s runs.owed) stop =
      stop_in_commit disk.moment disk.held_at s runs.owed inputs n (first_of old) (second_of old) (first_of new)
      (second_of new) i j one other (subst P same (accepts.pair.any_moment sound.0.0 sound.0.1 sound.1)) at_i at_j
      in_one in_other in
      rests_more life stop (running s runs.owed) one other runs.lived runs.runs ok refl

  pub promised_in_commit : (inputs : List (ℕ × Input)) (batches : List (List Event)) (refused : Option Fault)
      → batches ≡ batches_given (state_of old) inputs → Accepts batches refused (keeper_of old) (keeper_of new)
      → IsPromisedWithin (view_of old) (view_of new) life inputs
  promised_in_commit inputs batches refused same accepts sound n i j x y at_i at_j left_x left_y =
      let one : Contents = disk.held_at (first_of new) i in
      let other : Contents = disk.held_at (second_of new) j in
      let at = rests_in_commit inputs batches refused same accepts sound n i j one other at_i at_j (λ image left. left)
      (λ image left. left) in
      recovery_gives_a_prefix life.began life.store (with_next life (stopped_in_commit inputs n one other)).incidents
      one other x y at.lived.rules at.lived.begins at.lived.happens at.rests (left_x, left_y)

-- ---- what is handed over

pub handed_what_is_owed : {life : Life} {old : ShowState} {queue : List (ℕ × List ℕ)} → RunsWith life old queue
    → queue ≡ datagrams (handed_in (store_now life) handed_out)
handed_what_is_owed runs = runs.owes ∙ ap (λ (u : Store). datagrams (owed_by u)) (sym runs.runs)

pub handed_some_of_it : {life : Life} {old : ShowState} {queue : List (ℕ × List ℕ)} (n : ℕ) → RunsWith life old queue
    → take n queue ≡ datagrams (handed_in (store_now life) (handed_some n))
handed_some_of_it n runs = ap (λ (os : List (ℕ × List ℕ)). take n os) runs.owes ∙ take-map datagram n runs.owed
    ∙ ap (λ (u : Store). datagrams (take n (owed_by u))) (sym runs.runs)

pub rests_closed : {D : Type 0} (held : D → Contents) (a b : D) {life : Life}
    {state : ShowState} {queue : List (ℕ × List ℕ)}
    → StandsAs (held a) (held b) state → RunsWith life state queue
    → (n : ℕ) (one other : Contents) → IsWithin (held a) one → IsWithin (held b) other
    → RestsWith (with_next life (stopped n one other)) one other
rests_closed held a b {life} {state} stands runs n one other in_one in_other =
    let ok : Permits (running state runs.owed) (stopped n one other) =
    stop held state runs.owed n a b one other stands in_one in_other in
    rests_more life (stopped n one other) (running state runs.owed) one other runs.lived runs.runs ok refl
