-- What became of batches, put together from what the calls on the pair say.
use Rattle.std.specs.Prelude.{IsErrAnd, IsErrOf, IfSome, IfNone}
use Rattle.std.specs.Result.{result_err}
use Rattle.std.proofs.Common.{◌≡◌, ◌⊎◌, inl, ℕ, ◌+◌, ◌≤◌, if◌then◌else◌, Bool, true, false, List, [], ◌∷◌, length}
use Rattle.std.proofs.Common.{map, append-nil, Option}
use Rattle.std.proofs.Common.{Some, None, Result, Ok, Err, refl, sym, ◌∙◌, ap, subst, arith, true≢false}
use Rattle.cue_disk.specs.declared.disk.Disk.{Ghosts}
use Rattle.cue_log.specs.Area.{Area, fresh, with_payloads}
use Rattle.cue_snap.specs.Pair.{PairLeaves}
use Rattle.cue_snap.specs.declared.snap.Snap.{Snap}
use Rattle.cue_snap.specs.Observed.{first_of, second_of, live_of, spare_of, is_broken, generation_of, count_of, end_of}
use Rattle.cue_snap.specs.Observed.{live_area_of}
use Rattle.cue_snap.proofs.PairLemmas.{swapped}
use Rattle.cue_core.specs.declared.event.Event.{Event}
use Rattle.cue_core.specs.State.{ShowState}
use Rattle.cue_records.specs.Batch.{batch_text}
use Rattle.cue_records.specs.State.{state_text}
use Rattle.cue_keeper.specs.declared.fault.Fault.{Fault}
use Rattle.cue_keeper.specs.declared.fault.Fault.TheVariants as fault
use Rattle.cue_keeper.specs.Accepting.{HasCause, LeavesPair, Commits, Accepts}
use Rattle.cue_keeper.specs.declared.keeper.Keeper.{Keeper}
use Rattle.cue_keeper.specs.Observed as kept
use Rattle.cue_keeper.specs.Due.{lacks_room}
use Rattle.cue_keeper.specs.Groups.{with_events, records_of}
use Rattle.cue_keeper.specs.Turning.{lack_room, IsInTheWay, IsAtTheLast}
use Rattle.cue_keeper.specs.Stands.{StandsFor, StandsEither, StandsAs, folded_all}
use Rattle.cue_keeper.proofs.MovingLemmas.{Moves, at_rest, in_sides, of_sides}
use Rattle.cue_keeper.proofs.StandingLemmas.{taken, leaves_stands}

nothing_more : (area : Area) → with_payloads area [] ≡ area
nothing_more area = ap (λ (ps : List (List ℕ)). record area { payloads = ps }) (append-nil area.payloads)

-- the fault of a result that has just this one
pub fault_is : {T : Type 0} (r : Result T Fault) (f : Fault) → IsErrAnd r (λ g. g ≡ f) → result_err r ≡ Some f
fault_is (Ok x) f is = absurd is
fault_is (Err g) f is = ap Some is

module _ {D : Type 0} {disk : Ghosts D} where
  -- what the live and the spare disk leave, they leave in their order
  pub leaves_in_order : (pair : Snap D disk) (area : Area)
      → PairLeaves (disk.held (live_of pair)) (disk.held (spare_of pair)) area
      → PairLeaves (disk.held (first_of pair)) (disk.held (second_of pair)) area
  leaves_in_order pair area = in_sides pair (λ a b. PairLeaves (disk.held a) (disk.held b) area)
      (λ a b leaves x y left_x left_y. swapped area y x (leaves y x left_y left_x))

  -- what the live area stands for, the two disks stand for in their order
  pub stands_as : (s : ShowState) (pair : Snap D disk)
      → (disk.is_honest (live_of pair) → disk.is_honest (spare_of pair) → is_broken pair ≡ false
      → PairLeaves (disk.held (live_of pair)) (disk.held (spare_of pair)) (live_area_of disk.held pair))
      → (disk.is_honest (live_of pair) → disk.is_honest (spare_of pair) → StandsFor (live_area_of disk.held pair) s)
      → is_broken pair ≡ false
      → disk.is_honest (first_of pair) → disk.is_honest (second_of pair)
      → StandsAs (disk.held (first_of pair)) (disk.held (second_of pair)) s
  stands_as s pair reads stands works first second =
      let area = live_area_of disk.held pair in
      let h = of_sides pair first second in
      leaves_stands (disk.held (first_of pair)) (disk.held (second_of pair)) area s
      (leaves_in_order pair area (reads h.0 h.1 works)) (stands h.0 h.1)

  -- the live area of a keeper that works stands for its state
  pub area_stands : (keeper : Keeper D disk) → kept.is_broken keeper ≡ false
      → disk.is_honest (live_of (kept.pair_of keeper)) → disk.is_honest (spare_of (kept.pair_of keeper))
      → StandsFor (live_area_of disk.held (kept.pair_of keeper)) (kept.state_of keeper)
  area_stands keeper works live spare =
      taken (live_area_of disk.held keeper.snap) keeper.state (keeper.stands live spare works)

  -- ---- what is in the way

  -- of batches that go into a new area, or of several that stay together
  pub in_the_way : (pair : Snap D disk) (batches : List (List Event)) (P : Fault → Type 0)
      → (lack_room pair batches ≡ true → length (with_events batches) ≡ 1 → IsAtTheLast pair → P fault.Exhausted)
      → (lack_room pair batches ≡ true → 2 ≤ length (with_events batches) → P fault.Full)
      → (f : Fault) → IsInTheWay pair batches f → P f
  in_the_way pair batches P last several fault.Broken way = absurd way
  in_the_way pair batches P last several fault.Memory way = absurd way
  in_the_way pair batches P last several fault.Exhausted way = last way.0 way.1 way.2
  in_the_way pair batches P last several fault.Full way = several way.0 way.1
  in_the_way pair batches P last several fault.Disk way = absurd way

  -- nothing of batches for which there is room
  pub room_way : (pair : Snap D disk) (batches : List (List Event)) → lack_room pair batches ≡ false
      → (f : Fault) → IsInTheWay pair batches f → ⊥
  room_way pair batches room = in_the_way pair batches (λ _. ⊥) (λ lacks _ _. true≢false (sym lacks ∙ room))
      (λ lacks _. true≢false (sym lacks ∙ room))

  -- ---- how it went

  -- What has become of batches that were given to a pair that works; `lacks` is whether it lacks room for them.
  pub commits : (s : ShowState) (batches : List (List Event)) (refused : Option Fault) (old new : Snap D disk)
      (lacks : Bool) → lack_room old batches ≡ lacks
      → is_broken old ≡ false
      → Moves disk (StandsEither s (folded_all s batches)) (first_of old) (second_of old) (first_of new) (second_of new)
      → (with_events batches ≡ [] → new ≡ old)
      → ((f : Fault) → IsInTheWay old batches f → (refused ≡ Some fault.Memory) ⊎ (refused ≡ Some f))
      → IfSome refused (HasCause batches old new)
      → IfSome refused (LeavesPair old new)
      → IfNone refused (is_broken new ≡ false)
      → IfNone refused (generation_of new ≡ (if lacks then generation_of old + 1 else generation_of old))
      → IfNone refused (count_of new ≡ (if lacks then 0 else count_of old) + length (with_events batches))
      → (disk.is_honest (first_of old) → disk.is_honest (second_of old)
      → IfNone refused (live_area_of disk.held new ≡ with_payloads (if lacks then fresh (generation_of old + 1)
      (state_text s) else live_area_of disk.held old) (records_of batches)))
      → Commits s batches refused old new
  commits s batches refused old new lacks is works moves quiet way cause after still generation count area = record {
    cause = cause;
    after = after;
    broken = λ broken. absurd (true≢false (sym broken ∙ works));
    in_the_way = λ _. way;
    quiet = quiet;
    works = still;
    generation = rw is generation;
    count = rw is count;
    area = λ first second. rw is (area first second);
    any_moment = λ first second _. moves.leaves first second;
    first_failures = moves.keeps_a.failures;
    second_failures = moves.keeps_b.failures;
    first_honest = moves.keeps_a.honest;
    second_honest = moves.keeps_b.honest;
  }

  -- a pair that stands for the state before them does so for that or the one after them
  stays : (s t : ShowState) (pair : Snap D disk)
      → ((x : D) → disk.is_honest x → disk.held_at x (disk.moment x) ≡ disk.held x)
      → (disk.is_honest (first_of pair) → disk.is_honest (second_of pair)
      → StandsAs (disk.held (first_of pair)) (disk.held (second_of pair)) s)
      → Moves disk (StandsEither s t) (first_of pair) (second_of pair) (first_of pair) (second_of pair)
  stays s t pair now stands = at_rest disk (StandsEither s t) (first_of pair) (second_of pair) now
      (λ h k x y left_x left_y. inl (stands h k x y left_x left_y))

  -- no device call was made
  pub not_tried : (s : ShowState) (batches : List (List Event)) (f : Fault) (pair : Snap D disk)
      → ((x : D) → disk.is_honest x → disk.held_at x (disk.moment x) ≡ disk.held x)
      → (disk.is_honest (first_of pair) → disk.is_honest (second_of pair)
      → StandsAs (disk.held (first_of pair)) (disk.held (second_of pair)) s)
      → is_broken pair ≡ false
      → HasCause batches pair pair f
      → LeavesPair pair pair f
      → ((g : Fault) → IsInTheWay pair batches g → (Some f ≡ Some fault.Memory) ⊎ (Some f ≡ Some g))
      → Commits s batches (Some f) pair pair
  not_tried s batches f pair now stands works cause after way = commits s batches (Some f) pair pair
      (lack_room pair batches) refl works (stays s (folded_all s batches) pair now stands) (λ _. refl) way cause after
      tt tt tt (λ _ _. tt)

  -- no batch has an event
  pub none_given : (s : ShowState) (batches : List (List Event)) (pair : Snap D disk)
      → ((x : D) → disk.is_honest x → disk.held_at x (disk.moment x) ≡ disk.held x)
      → (disk.is_honest (first_of pair) → disk.is_honest (second_of pair)
      → StandsAs (disk.held (first_of pair)) (disk.held (second_of pair)) s)
      → is_broken pair ≡ false
      → with_events batches ≡ []
      → Commits s batches None pair pair
  none_given s batches pair now stands works none =
      let area = live_area_of disk.held pair in
      let room : lack_room pair batches ≡ false =
      ap (λ (bs : List (List Event)). lacks_room (count_of pair) (end_of pair) (map batch_text bs)) none in
      commits s batches None pair pair false room works (stays s (folded_all s batches) pair now stands) (λ _. refl)
      (λ f is. absurd (room_way pair batches room f is)) tt tt works refl (omega (arith, ap length none))
      (λ _ _. sym (ap (λ (bs : List (List Event)). with_payloads area (map batch_text bs)) none ∙ nothing_more area))

  -- it was broken before
  pub still_broken : (s : ShowState) (batches : List (List Event)) (pair : Snap D disk) → is_broken pair ≡ true
      → Commits s batches (Some fault.Broken) pair pair
  still_broken s batches pair is = record {
    cause = is;
    after = refl;
    broken = λ _. refl;
    in_the_way = λ works. absurd (true≢false (sym is ∙ works));
    quiet = λ _. refl;
    works = tt;
    generation = tt;
    count = tt;
    area = λ _ _. tt;
    any_moment = λ _ _ works. absurd (true≢false (sym is ∙ works));
    first_failures = omega arith;
    second_failures = omega arith;
    first_honest = (λ h. h, λ h. h);
    second_honest = (λ h. h, λ h. h);
  }

  -- a refusal, said of a result
  pub refuses_too : {T : Type 0} (batches : List (List Event)) (r : Result T Fault) (f : Fault)
      (old new : Keeper D disk) → IsErrAnd r (λ g. g ≡ f) → Accepts batches (Some f) old new
      → Accepts batches (result_err r) old new
  refuses_too batches r f old new is accepts = subst (λ o. Accepts batches o old new) (sym (fault_is r f is)) accepts

  -- batches that a keeper refuses
  pub refuses : {T : Type 0} (batches : List (List Event)) (r : Result T Fault) (f : Fault)
      (old new : Keeper D disk) → IsErrAnd r (λ g. g ≡ f) → kept.state_of new ≡ kept.state_of old
      → Commits (kept.state_of old) batches (Some f) (kept.pair_of old) (kept.pair_of new)
      → Accepts batches (result_err r) old new
  refuses batches r f old new is same commits = refuses_too batches r f old new is (record {
    state = same;
    stands = λ _ _. tt;
    pair = commits;
  })

  -- memory ran out before the first device call
  pub out_of_memory : (s : ShowState) (batches : List (List Event)) (pair : Snap D disk)
      → ((x : D) → disk.is_honest x → disk.held_at x (disk.moment x) ≡ disk.held x)
      → (disk.is_honest (first_of pair) → disk.is_honest (second_of pair)
      → StandsAs (disk.held (first_of pair)) (disk.held (second_of pair)) s)
      → is_broken pair ≡ false
      → Commits s batches (Some fault.Memory) pair pair
  out_of_memory s batches pair now stands works = not_tried s batches fault.Memory pair now stands works tt refl
      (λ _ _. inl refl)

  -- where nothing stands in the way of them together, they are not refused as Full
  pub never_full : {T : Type 0} (batches : List (List Event)) (old new : Keeper D disk) (r : Result T Fault)
      → Accepts batches (result_err r) old new → (IsInTheWay (kept.pair_of old) batches fault.Full → ⊥)
      → IsErrOf r fault.Full → ⊥
  never_full batches old new (Ok t) accepts free is = cc
  never_full batches old new (Err f) accepts free is =
      let same : f ≡ fault.Full = cc in
      free (subst (λ (g : Fault). HasCause batches (kept.pair_of old) (kept.pair_of new) g) same accepts.pair.cause)

  -- nothing stands in the way of one batch so
  pub one_is_free : (pair : Snap D disk) (events : List Event) → IsInTheWay pair (events ∷ []) fault.Full → ⊥
  one_is_free pair events way = at_most_one events way.1
    where
      at_most_one : (es : List Event) → 2 ≤ length (with_events (es ∷ [])) → ⊥
      at_most_one [] two = omega (arith, two)
      at_most_one (e ∷ es) two = omega (arith, two)

  -- a fault that is no device's own has changed nothing
  pub unless_disk : (old new : Snap D disk) (f : Fault) → LeavesPair old new f → (f ≡ fault.Disk → ⊥) → new ≡ old
  unless_disk old new fault.Broken same other = same
  unless_disk old new fault.Memory same other = same
  unless_disk old new fault.Exhausted same other = same
  unless_disk old new fault.Full same other = same
  unless_disk old new fault.Disk broken other = absurd (other refl)
