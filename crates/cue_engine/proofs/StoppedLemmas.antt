-- A stop after some of what was owed was handed over.
use Rattle.std.specs.Prelude.{OnErr}
use Rattle.std.specs.Result.{result_err}
use Rattle.std.proofs.Common.{◌≡◌, ◌≤◌, ℕ, List, [], ◌++◌, length, take, Option, Some, Result, Ok, Err, refl, sym, ap}
use Rattle.std.proofs.Common.{◌∙◌, subst, append-nil, arith}
use Rattle.std.proofs.Math.Seq.{take-append_seam}
use Rattle.std.proofs.lemmas.List.{take-map}
use Rattle.cue_disk.specs.Disk.{Contents}
use Rattle.cue_core.specs.declared.event.Event.{Event}
use Rattle.cue_core.specs.State.{ShowState}
use Rattle.cue_disk.specs.declared.disk.Disk.{Ghosts}
use Rattle.cue_keeper.specs.declared.fault.Fault.{Fault}
use Rattle.cue_keeper.specs.Accepting.{Accepts}
use Rattle.cue_keeper.specs.Stands.{StandsAs}
use Rattle.cue_keeper.specs.Observed as kept
use Rattle.cue_outbox.specs.Sending.{Send, datagram, datagrams}
use Rattle.cue_engine.specs.declared.engine.Engine.{Engine}
use Rattle.cue_engine.specs.Given.{Input}
use Rattle.cue_engine.specs.Observed.{keeper_of, state_of, queue_of, first_of, second_of}
use Rattle.cue_engine.specs.Groups.{batches_given}
use Rattle.cue_engine.specs.Incidents.{Incident, Store, stopped, stopped_in_commit}
use Rattle.cue_engine.specs.Headline.{owed_by, handed_in}
use Rattle.cue_engine.specs.Permitted.{IsWithin}
use Rattle.cue_engine.specs.Lives.{Life, with_next, store_now, RunsWith, RestsWith, StopsAs, view_of, IsSound}
use Rattle.cue_engine.specs.Wires.{Handed, AllHanded, AreHanded, HandedSoFar}
use Rattle.cue_engine.proofs.LifeLemmas.{rests_closed, rests_in_commit}

-- what was handed over of a queue are its first datagrams
first_of_them : (owed : List (ℕ × Send)) (queue sent left : List (ℕ × List ℕ)) → queue ≡ datagrams owed
    → queue ≡ sent ++ left → sent ≡ datagrams (take (length sent) owed)
first_of_them owed queue sent left owes together =
    sym (take-append_seam sent left)
    ∙ ap (λ (os : List (ℕ × List ℕ)). take (length sent) os) (sym together ∙ owes)
    ∙ take-map datagram (length sent) owed

-- the first of what was owed was handed over, as the life has it where it stops so
handed_first : (stop : ℕ → Contents → Contents → Incident)
    → ((store : Store) (n : ℕ) (x y : Contents) → handed_in store (stop n x y) ≡ take n (owed_by store))
    → {life : Life} {state : ShowState} {queue left : List (ℕ × List ℕ)} {refused : ℕ}
    {told told_then : Option (List Handed)} (so_far : HandedSoFar told queue left refused told_then)
    → RunsWith life state queue → (x y : Contents)
    → AreHanded told (datagrams (handed_in (store_now life) (stop (length so_far.sent) x y))) told_then
handed_first stop takes {life} {queue = queue} {left} {refused} {told} {told_then} so_far runs x y =
    let n : ℕ = length so_far.sent in
    let same : so_far.sent ≡ datagrams (handed_in (store_now life) (stop n x y)) =
    first_of_them runs.owed queue so_far.sent left runs.owes so_far.together
    ∙ ap (λ (t : Store). datagrams (take n (owed_by t))) (sym runs.runs)
    ∙ ap datagrams (sym (takes (store_now life) n x y)) in (
      refused,
      subst (λ (os : List (ℕ × List ℕ)). AllHanded told os refused told_then) same so_far.all,
    )

pub stops_after_some : {D : Type 0} (held : D → Contents) (a b : D) {life : Life} {state : ShowState}
    {queue left : List (ℕ × List ℕ)} {refused : ℕ} {told told_then : Option (List Handed)}
    → StandsAs (held a) (held b) state → HandedSoFar told queue left refused told_then → RunsWith life state queue
    → StopsAs stopped life (held a) (held b) told told_then
stops_after_some held a b stands so_far runs = record {
  n = length so_far.sent;
  handed = handed_first stopped (λ store n x y. refl) so_far runs;
  rests = λ x y in_one in_other. rests_closed held a b stands runs (length so_far.sent) x y in_one in_other;
}

-- ---- a commit that was refused

module _ {D : Type 0} {disk : Ghosts D}
    (held_now : (one : D) → disk.is_honest one → disk.held_at one (disk.moment one) ≡ disk.held one) where
  -- what the disks hold after the call is what they hold at its last moments
  rests_refused : (old new : Engine D disk) (life : Life) (inputs : List (ℕ × Input)) (batches : List (List Event))
      (refused : Option Fault) → batches ≡ batches_given (state_of old) inputs
      → Accepts batches refused (keeper_of old) (keeper_of new) → IsSound (view_of old)
      → RunsWith life (state_of old) (queue_of old) → (n : ℕ) (one other : Contents)
      → IsWithin (disk.held (first_of new)) one → IsWithin (disk.held (second_of new)) other
      → RestsWith (with_next life (stopped_in_commit inputs n one other)) one other
  rests_refused old new life inputs batches refused given accepts sound runs n one other in_one in_other =
      let leaves = accepts.pair.any_moment sound.0.0 sound.0.1 sound.1 in
      let later_a : disk.moment (first_of old) ≤ disk.moment (first_of new) = leaves.later_a in
      let later_b : disk.moment (second_of old) ≤ disk.moment (second_of new) = leaves.later_b in
      rests_in_commit old new runs inputs batches refused given accepts sound n
      (disk.moment (first_of new)) (disk.moment (second_of new)) one other (later_a, omega arith)
      (later_b, omega arith)
      (subst (λ (c : Contents). IsWithin c one)
      (sym (held_now (first_of new) (accepts.pair.first_honest.1 sound.0.0))) in_one)
      (subst (λ (c : Contents). IsWithin c other)
      (sym (held_now (second_of new) (accepts.pair.second_honest.1 sound.0.1))) in_other)

  -- what was owed before it was handed over, and the engine was closed
  pub stops_in_commit : {T : Type 0} (old mid last : Engine D disk) (first second : D) {life : Life}
      (inputs : List (ℕ × Input)) (batches : List (List Event)) (r : Result T Fault) {refused : ℕ}
      {told told_then : Option (List Handed)}
      → batches ≡ batches_given (state_of old) inputs → Accepts batches (result_err r) (keeper_of old) (keeper_of mid)
      → OnErr r ((state_of mid ≡ state_of old) × (queue_of mid ≡ queue_of old)) → keeper_of last ≡ keeper_of mid
      → AllHanded told (queue_of mid) refused told_then → first ≡ first_of last → second ≡ second_of last
      → IsSound (view_of old) → RunsWith life (state_of old) (queue_of old)
      → OnErr r (StopsAs (stopped_in_commit inputs) life (disk.held first) (disk.held second) told told_then)
  stops_in_commit old mid last first second inputs batches (Ok t) given accepts same kept_so handed is_first is_second
      sound runs =
      tt
  stops_in_commit old mid last first second {life} inputs batches (Err e) {refused} {told} {told_then} given accepts
      same kept_so handed is_first is_second sound runs =
      let queue : List (ℕ × List ℕ) = queue_of old in
      let all : AllHanded told queue refused told_then =
      subst (λ (os : List (ℕ × List ℕ)). AllHanded told os refused told_then) same.1 handed in
      let so_far : HandedSoFar told queue [] refused told_then =
      record { sent = queue; together = sym (append-nil queue); all = all } in
      let one_is : first_of mid ≡ first = sym (is_first ∙ ap kept.first_of kept_so) in
      let other_is : second_of mid ≡ second = sym (is_second ∙ ap kept.second_of kept_so) in
      record {
        n = length queue;
        handed = handed_first (stopped_in_commit inputs) (λ store n x y. refl) so_far runs;
        rests = λ x y in_one in_other.
            rests_refused old mid life inputs batches (Some e) given accepts sound runs (length queue) x y
            (subst (λ (d : D). IsWithin (disk.held d) x) (sym one_is) in_one)
            (subst (λ (d : D). IsWithin (disk.held d) y) (sym other_is) in_other);
      }
