-- What a crash leaves while records are added to a pair, and what has become of their batches then.
use Rattle.std.specs.Prelude.{IfErr}
use Rattle.std.specs.Result.{result_err}
use Rattle.std.proofs.Common.{◌≡◌, inl, inr, ℕ, ◌+◌, ◌≤◌, if◌then◌else◌, Bool, true, false, List, [], length}
use Rattle.std.proofs.Common.{Some, None, Result, Ok, Err, IsTrue, refl, sym, ◌∙◌, ap, subst, arith}
use Rattle.cue_disk.specs.declared.disk.Disk.{Ghosts}
use Rattle.cue_disk.specs.Disk.{IsImage, MoreFailures}
use Rattle.cue_disk.proofs.MomentLemmas.{weaker}
use Rattle.cue_log.specs.Area.{Area, fresh, with_payloads}
use Rattle.cue_log.specs.declared.log.AppendFault.{AppendFault}
use Rattle.cue_snap.specs.declared.snap.Snap.{Snap}
use Rattle.cue_snap.specs.declared.snap.TurnOverFault.{TurnOverFault}
use Rattle.cue_snap.specs.declared.snap.TurnOverFault.TheVariants as turning
use Rattle.cue_snap.specs.Appending.{Appends}
use Rattle.cue_snap.specs.Disks.{SomeFailed}
use Rattle.cue_snap.specs.Observed.{first_of, second_of, live_of, spare_of, is_broken, generation_of, live_area_of}
use Rattle.cue_snap.specs.Observed.{turned_disk}
use Rattle.cue_snap.specs.Turning.{TurnsOver, turned_area}
use Rattle.cue_core.specs.declared.event.Event.{Event}
use Rattle.cue_core.specs.State.{ShowState, is_state}
use Rattle.cue_records.specs.State.{state_text}
use Rattle.cue_keeper.specs.declared.fault.Fault.{Fault}
use Rattle.cue_keeper.specs.declared.fault.Fault.TheVariants as fault
use Rattle.cue_keeper.specs.Accepting.{area_for, Commits}
use Rattle.cue_keeper.specs.Groups.{with_events, records_of, are_records, are_all_acceptable}
use Rattle.cue_keeper.specs.Pairs.{as_appended}
use Rattle.cue_keeper.specs.Stands.{StandsFor, StandsEither, folded_all}
use Rattle.cue_keeper.specs.Turning.{lack_room, IsInTheWay, IsAtTheLast}
use Rattle.cue_keeper.proofs.CommittedLemmas.{commits, in_the_way, room_way}
use Rattle.cue_keeper.proofs.GroupLemmas.{area_all, as_many}
use Rattle.cue_keeper.proofs.MovingLemmas.{Writes, Moves, writes_then, moves_of, moves_swapped, of_sides, in_order}
use Rattle.cue_keeper.proofs.MovingLemmas.{in_turned_order, in_sides}
use Rattle.cue_keeper.proofs.StandingLemmas.{either_stands, either_swapped, fresh_stands, state_kept}

-- a device that failed later has failed
fails_then : (old mid new : ℕ) → old ≤ mid → MoreFailures mid new → MoreFailures old new
fails_then old mid new first more = omega (arith, first, more)

-- which of the two comes first does not count
either_failed : {D : Type 0} (disk : Ghosts D) (a b new_a new_b : D) → SomeFailed disk a b new_a new_b
    → SomeFailed disk b a new_b new_a
either_failed disk a b new_a new_b (inl failed) = inr failed
either_failed disk a b new_a new_b (inr failed) = inl failed

module _ {D : Type 0} {disk : Ghosts D} where
  -- while records are added, each pair stands for the state before or after them
  adds : {T : Type 0} {payloads : List (List ℕ)} {result : Result T AppendFault} {old new : Snap D disk}
      (s t : ShowState) → Appends payloads result old new → is_broken old ≡ false
      → (disk.is_honest (live_of old) → disk.is_honest (spare_of old) → StandsFor (live_area_of disk.held old) s)
      → ((area : Area) → StandsFor area s → StandsFor (with_payloads area payloads) t)
      → Writes disk (StandsEither s t) (spare_of old) (live_of old) (live_of new)
  adds {payloads = payloads} {old = old} {new = new} s t appends works stands grow = record {
    keeps = record { honest = appends.honest; failures = appends.failures };
    leaves = λ rests honest y left.
        let area = live_area_of disk.held old in
        let is : StandsFor area s = stands honest rests in
        weaker disk.moment disk.held_at (live_of old) (live_of new) _ (StandsEither s t y)
        (λ x reads. either_swapped s t x y
        (either_stands area (with_payloads area payloads) s t is (grow area is) x y reads))
        (appends.any_moment honest rests works y left);
  }

  -- and while a new area is formed, for the state that it is formed with
  turns : {T : Type 0} {snapshot : List ℕ} {result : Result T TurnOverFault} {old new : Snap D disk}
      (s t : ShowState) → TurnsOver snapshot result old new → is_broken old ≡ false
      → (disk.is_honest (live_of old) → disk.is_honest (spare_of old) → StandsFor (live_area_of disk.held old) s)
      → StandsFor (turned_area old snapshot) s
      → Writes disk (StandsEither s t) (live_of old) (spare_of old) (turned_disk result new)
  turns {snapshot = snapshot} {result = result} {old = old} {new = new} s t over works stands anew = record {
    keeps = over.spare;
    leaves = λ rests honest x left.
        weaker disk.moment disk.held_at (spare_of old) (turned_disk result new) _ (StandsEither s t x)
        (λ y reads. before x y (either_stands (live_area_of disk.held old) (turned_area old snapshot) s s
        (stands rests honest) anew x y reads))
        (over.any_moment rests honest works x left);
  }
    where
      before : (x y : List ℕ) → StandsEither s s x y → StandsEither s t x y
      before x y (inl is) = inl is
      before x y (inr is) = inl is

  -- Batches are given to a pair that works and stands for the state; each comes in its turn, and one has an event.
  module _ (now : (x : D) → disk.is_honest x → disk.held_at x (disk.moment x) ≡ disk.held x)
      (image : (x : D) → disk.is_honest x → IsImage (disk.held x) (disk.held x).bytes)
      (s : ShowState) (batches : List (List Event)) (old : Snap D disk) (works : is_broken old ≡ false)
      (stands : disk.is_honest (live_of old) → disk.is_honest (spare_of old) → StandsFor (live_area_of disk.held old) s)
      (each : are_records batches ≡ true) (may : IsTrue (are_all_acceptable s batches))
      (some : 1 ≤ length (with_events batches)) where
    -- their records make of an area for the state one for the state after them
    grown : (area : Area) → StandsFor area s
        → StandsFor (with_payloads area (records_of batches)) (folded_all s batches)
    grown area is = area_all area s batches (records_of batches) is each may refl

    -- it is not so that there is no record
    not_none : {new : Snap D disk} → with_events batches ≡ [] → new ≡ old
    not_none none = absurd (omega (arith, some, ap length none))

    -- which disk comes first does not count
    swap : (a b new_a new_b : D) → Moves disk (StandsEither s (folded_all s batches)) a b new_a new_b
        → Moves disk (StandsEither s (folded_all s batches)) b a new_b new_a
    swap = moves_swapped disk (StandsEither s (folded_all s batches)) (either_swapped s (folded_all s batches))

    -- ---- after the records of the live area

    moves_beside : {T : Type 0} {result : Result T AppendFault} {new : Snap D disk}
        → Appends (records_of batches) result old new → Moves disk (StandsEither s (folded_all s batches))
        (first_of old) (second_of old) (first_of new) (second_of new)
    moves_beside {new = new} appends =
        let t = folded_all s batches in
        let P = StandsEither s t in
        in_order old new (Moves disk P) swap appends.sides
        (subst (Moves disk P (live_of old) (spare_of old) (live_of new)) (sym appends.spare)
        (swap (spare_of old) (live_of old) (spare_of old) (live_of new)
        (moves_of disk P now image (adds s t appends works stands grown))))

    pub beside : {T : Type 0} (result : Result T Fault) (new : Snap D disk) → lack_room old batches ≡ false
        → Appends (records_of batches) (as_appended result) old new → IfErr result (λ f. f ≡ fault.Disk)
        → Commits s batches (result_err result) old new
    beside (Ok done) new room appends only = commits s batches None old new false room works
        (moves_beside appends) not_none (λ f is. absurd (room_way old batches room f is)) tt tt appends.works
        appends.generation (omega (arith, appends.count, as_many batches))
        (λ first second. appends.area (of_sides old first second).0)
    beside (Err f) new room appends only = rw only
        (commits s batches (Some fault.Disk) old new false room works (moves_beside appends) not_none
        (λ f is. absurd (room_way old batches room f is))
        (in_order old new (SomeFailed disk) (either_failed disk) appends.sides (inl appends.cause.1)) appends.after.0
        tt tt tt (λ _ _. tt))

    -- ---- one of them into a new area

    module _ (lacks : lack_room old batches ≡ true) (one : length (with_events batches) ≡ 1)
        (keeps : IsTrue (is_state s)) where
      -- the new area stands for the state
      anew : StandsFor (turned_area old (state_text s)) s
      anew = fresh_stands (generation_of old + 1) s (state_text s) keeps refl

      -- nothing is in the way while a generation is left
      left_way : (IsAtTheLast old → ⊥) → (f : Fault) → IsInTheWay old batches f → ⊥
      left_way left = in_the_way old batches (λ _. ⊥) (λ _ _ last. left last) (λ _ two. omega (arith, one, two))

      pub not_turned : {T : Type 0} (new : Snap D disk) → TurnsOver {T = T} (state_text s) (Err turning.Disk) old new
          → Commits s batches (Some fault.Disk) old new
      not_turned new over =
          let t = folded_all s batches in
          let P = StandsEither s t in
          commits s batches (Some fault.Disk) old new true lacks works
          (in_order old new (Moves disk P) swap over.after.sides
          (subst (λ (live : D). Moves disk P (live_of old) (spare_of old) live (spare_of new)) (sym over.after.live)
          (moves_of disk P now image (turns s t over works stands anew))))
          not_none (λ f is. absurd (left_way (λ last. cc (over.exhausted works last)) f is))
          (in_order old new (SomeFailed disk) (either_failed disk) over.after.sides (inr over.cause.1))
          over.after.broken tt tt tt (λ _ _. tt)

      module _ {T : Type 0} (done : T) (mid : Snap D disk) (over : TurnsOver (state_text s) (Ok done) old mid) where
        moves_anew : {U : Type 0} {result : Result U AppendFault} {new : Snap D disk}
            → Appends (records_of batches) result mid new → Moves disk (StandsEither s (folded_all s batches))
            (first_of old) (second_of old) (first_of new) (second_of new)
        moves_anew {new = new} appends =
            let t = folded_all s batches in
            let P = StandsEither s t in
            let turned = over.turned in
            in_turned_order old new (Moves disk P) swap (appends.sides ∙ turned.sides)
            (subst (λ (spare : D). Moves disk P (live_of old) (spare_of old) spare (live_of new))
            (sym (appends.spare ∙ turned.swapped))
            (moves_of disk P now image
            (writes_then disk P (turns s t over works stands anew)
            (subst (λ (rest : D). Writes disk P rest (live_of mid) (live_of new)) turned.swapped
            (adds s t appends turned.works (λ live _. rw (over.area (over.spare.honest.0 live)) anew) grown)))))

        pub after_turn : {U : Type 0} (result : Result U Fault) (new : Snap D disk)
            → Appends (records_of batches) (as_appended result) mid new → IfErr result (λ f. f ≡ fault.Disk)
            → Commits s batches (result_err result) old new
        after_turn (Ok done) new appends only = commits s batches None old new true lacks works
            (moves_anew appends) not_none (λ f is. absurd (left_way (λ last. cc (over.exhausted works last)) f is))
            tt tt appends.works (appends.generation ∙ over.turned.generation)
            (omega (arith, appends.count, over.turned.count, as_many batches))
            (λ first second.
            let spare = (of_sides old first second).1 in
            appends.area (over.spare.honest.1 spare)
            ∙ ap (λ (area : Area). with_payloads area (records_of batches)) (over.area spare))
        after_turn (Err f) new appends only = rw only
            (commits s batches (Some fault.Disk) old new true lacks works
            (moves_anew appends) not_none (λ f is. absurd (left_way (λ last. cc (over.exhausted works last)) f is))
            (in_turned_order old new (SomeFailed disk) (either_failed disk) (appends.sides ∙ over.turned.sides)
            (inr (fails_then (disk.failures (spare_of old)) (disk.failures (live_of mid)) (disk.failures (live_of new))
            over.spare.failures appends.cause.1)))
            appends.after.0 tt tt tt (λ _ _. tt))

-- what the live area stands for once they are on the disks
pub kept_after : {D : Type 0} {disk : Ghosts D} (s : ShowState) (batches : List (List Event)) (old new : Snap D disk)
    → (disk.is_honest (live_of old) → disk.is_honest (spare_of old) → StandsFor (live_area_of disk.held old) s)
    → are_records batches ≡ true → IsTrue (are_all_acceptable s batches) → Commits s batches None old new
    → disk.is_honest (live_of new) → disk.is_honest (spare_of new)
    → StandsFor (live_area_of disk.held new) (folded_all s batches)
kept_after {disk = disk} s batches old new stands each may commits live spare =
    let now = in_sides new (λ a b. disk.is_honest a × disk.is_honest b) (λ _ _ h. (h.1, h.0)) (live, spare) in
    let first = commits.first_honest.0 now.0 in
    let second = commits.second_honest.0 now.1 in
    let was = of_sides old first second in
    let before = stands was.0 was.1 in
    rw (commits.area first second)
    (area_all (area_for disk.held s old batches) s batches (records_of batches)
    (by (lack_room old batches) before) each may refl)
  where
    by : (lacks : Bool) → StandsFor (live_area_of disk.held old) s
        → StandsFor (if lacks then fresh (generation_of old + 1) (state_text s) else live_area_of disk.held old) s
    by true before = fresh_stands (generation_of old + 1) s (state_text s)
        (state_kept (live_area_of disk.held old) s before) refl
    by false before = before
