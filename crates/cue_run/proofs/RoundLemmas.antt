-- One round, and a run of rounds.
use Rattle.std.specs.Prelude.{◌⊎◌}
use Rattle.std.proofs.Common.{◌≡◌, ℕ, ◌+◌, ◌-◌, ◌^◌, ◌≤◌, List, [], ◌++◌, length, min, Option, Some, None, Ok, refl, ap}
use Rattle.std.proofs.Common.{◌∙◌, inl, inr, arith, true≢false, sym, append-nil, IsTrue, length-append, subst}
use Rattle.cue_disk.specs.declared.disk.Disk.{Ghosts}
use Rattle.cue_keeper.specs.declared.fault.Fault.TheVariants.{Disk}
use Rattle.cue_keeper.specs.Accepting.{Accepts}
use Rattle.cue_keeper.specs.Observed as kept
use Rattle.cue_engine.specs.declared.engine.Engine.{Engine}
use Rattle.cue_engine.specs.Groups.{batches_given}
use Rattle.cue_engine.specs.Taking.{IsOffered}
use Rattle.cue_engine.specs.Observed.{keeper_of, state_of, queue_of, offered_of, offered_sends_of, has_room}
use Rattle.cue_engine.specs.Wires.{Handed, AllHanded}
use Rattle.cue_engine.specs.Sources.{Answer, GaveAll}
use Rattle.cue_engine.specs.Given.{Input}
use Rattle.cue_engine.specs.Lives.{Life, RunsWith, view_of}
use Rattle.cue_run.specs.declared.turns.RunFault.{RunFault}
use Rattle.cue_run.specs.declared.turns.RunFault.TheVariants as fault
use Rattle.cue_run.specs.declared.groups.round.Round.{Round}
use Rattle.cue_run.specs.declared.groups.offering.Stop.{Stop}
use Rattle.cue_run.specs.declared.groups.offering.Stop.TheVariants as stop
use Rattle.cue_run.specs.Running.{given_answers, HasRun, Works, EndedBy, Ran}
use Rattle.cue_run.specs.Through.{GoesInSteps, RunsThrough}
use Rattle.cue_run.specs.Grouping.{StaysOffered, StoppedAtFirst, OfferedGroup, TookGroup, LostGroup}
use Rattle.cue_run.specs.Grouping.{StoppedBy, HasRound, TookAllOrNone, WentThrough, RanSoFar, fault_of}
use Rattle.cue_run.proofs.OfferLemmas.{came_in_turn, came_none}
use Rattle.cue_run.proofs.RunLemmas.{gave_none, group_has_run, has_run_as_group, none_has_run, runs_join, came_join}
use Rattle.cue_run.proofs.ThroughLemmas.{nothing_called, went_none, went_more, ends_through}
use Rattle.cue_run.proofs.WorkLemmas.{keeps_join, works_join, refuses_join, works_on, worked, keeps_group, works_still}
use Rattle.cue_run.proofs.WorkLemmas.{works_itself}
use Rattle.cue_run.proofs.WorkLemmas.{refuses_group, rests_group, stopped_by_cut, stopped_at_first}

-- there is room for one input where none was offered
has_room_first : {D : Type 0} {disk : Ghosts D} {engine : Engine D disk} → IsOffered [] engine
    → IsTrue (has_room engine)
has_room_first none = rw none.batches refl

module _ {D : Type 0} {disk : Ghosts D}
    (now : (x : D) → disk.is_honest x → disk.held_at x (disk.moment x) ≡ disk.held x) {size room count : ℕ}
    {cut : Option RunFault} {round : Round} {old mid new : Engine D disk} {left left_then : Option (List Answer)}
    {told told_then : Option (List Handed)} (none : IsOffered [] old)
    (group : OfferedGroup size room count (Ok cut) old mid left left_then) where
  -- a group was taken
  took_round : TookGroup count cut round mid new told told_then
      → HasRound size room round old new left left_then told told_then
  took_round took =
      let gathered = group.0 in
      let offered = gathered.offered in
      let is_offered = offered.offered [] none in
      let number : length offered.inputs ≡ round.turns = omega (arith, took.turns, offered.number) in
      let one : 1 ≤ room = omega (arith, group.1, group.2) in
      let accepts : Accepts (batches_given (state_of old) offered.inputs) None (keeper_of old) (keeper_of new) =
      rw (is_offered.batches, offered.keeper) at took.accepts in
      let works = works_on accepts in
      let unbroken = worked accepts in
      let came = came_in_turn group.0 group.2 in
      let taken = group_has_run offered.inputs number offered.gave accepts.state
      (rw (is_offered.sends, offered.keeper) at took.handed) in
      record {
        mid = gathered.mid;
        taken = taken.0;
        why = rw took.stop (stopped_by_cut now size room gathered.mid left_then one works cut gathered.cut);
        at_most = omega (arith, took.turns, group.2);
        some = λ _. omega (arith, took.turns, group.1);
        none_taken = λ broken. absurd (true≢false (sym broken ∙ unbroken));
        rests = λ broken. absurd (true≢false (sym broken ∙ unbroken));
        keeps = works.keeps;
        works = λ _. works;
        group = offered.inputs;
        after = came.0;
        one_more = came.1;
        came = came.3;
        moments = accepts.pair.any_moment;
        became = inl (taken.1, works);
      }

  -- its commit was refused
  lost_round : Works (keeper_of old) (keeper_of old) → LostGroup round mid new told told_then
      → HasRound size room round old new left left_then told told_then
  lost_round works lost =
      let offered = group.0.offered in
      let is_offered = offered.offered [] none in
      let some : 1 ≤ length offered.inputs = omega (arith, offered.number, group.1) in
      let came = came_in_turn group.0 group.2 in
      let accepts : Accepts (batches_given (state_of old) offered.inputs) (Some lost.why) (keeper_of old)
      (keeper_of new) = rw (is_offered.batches, offered.keeper) at lost.accepts in
      let taken = none_has_run lost.turns lost.unsent accepts.state lost.told_same in
      record {
        mid = left;
        taken = taken.0;
        why = rw lost.stop (refuses_group now offered.inputs came.0 works some came.1 came.2 came.3 accepts
            (lost.not_full (group.3 (has_room_first none))));
        at_most = omega (arith, lost.turns);
        some = λ goes_on. cc;
        none_taken = λ _. lost.turns;
        rests = rests_group accepts;
        keeps = keeps_group accepts;
        works = λ other. works_still works accepts (λ is. other (rw (← is) lost.stop));
        group = offered.inputs;
        after = came.0;
        one_more = came.1;
        came = came.3;
        moments = accepts.pair.any_moment;
        became = inr (taken.1, lost.told_same, (λ goes_on. let stops = lost.stop in cc));
      }

  -- either
  pub closed_round : Works (keeper_of old) (keeper_of old)
      → TookGroup count cut round mid new told told_then ⊎ LostGroup round mid new told told_then
      → HasRound size room round old new left left_then told told_then
  closed_round works (inl took) = took_round took
  closed_round works (inr lost) = lost_round works lost

module _ {D : Type 0} {disk : Ghosts D} where
  -- nothing was offered
  pub stopped_round : (now : (x : D) → disk.is_honest x → disk.held_at x (disk.moment x) ≡ disk.held x)
      {size room : ℕ} (why : Stop) {round : Round} {old new : Engine D disk} {left left_then : Option (List Answer)}
      {told : Option (List Handed)} → round ≡ record { turns = 0; unsent = 0; stop = Some why }
      → 1 ≤ room → Works (keeper_of old) (keeper_of old) → StaysOffered old new
      → StoppedAtFirst size why (keeper_of old) left left_then
      → HasRound size room round old new left left_then told told
  stopped_round now {size} {room} why {round} {old} {new} {left} {left_then} none one works stays is =
      let still : Works (keeper_of old) (keeper_of new) = rw stays.keeper works in
      let turns = ap (λ (r : Round). r.turns) none in
      let stop = ap (λ (r : Round). r.stop) none in
      let taken = none_has_run turns (ap (λ (r : Round). r.unsent) none) (ap kept.state_of stays.keeper) refl in
      let came = came_none size (keeper_of old) left left_then why is in
      record {
        mid = left;
        taken = taken.0;
        why = rw stop (stopped_at_first now size room left left_then one still why is);
        at_most = omega (arith, turns);
        some = λ goes_on. cc;
        none_taken = λ _. turns;
        rests = λ _. ap kept.pair_of stays.keeper;
        keeps = still.keeps;
        works = λ _. still;
        group = [];
        after = came.0;
        one_more = came.1;
        came = came.2;
        moments = rw stays.keeper (nothing_called now (keeper_of old) works);
        became = inr (taken.1, refl, (λ goes_on. cc));
      }

  -- the engine rested before it
  pub after_rest : {size room : ℕ} {round : Round} {old mid new : Engine D disk} {left left_then : Option (List Answer)}
      {told told_then : Option (List Handed)} → keeper_of mid ≡ keeper_of old
      → HasRound size room round mid new left left_then told told_then
      → HasRound size room round old new left left_then told told_then
  after_rest {size} {round = round} {old} {new = new} {left} {told = told} {told_then} same round_is =
      let taken : (run : HasRun size left (state_of old) [] told round.turns round.unsent round_is.mid (state_of new)
      told_then) × (run.inputs ≡ round_is.taken.inputs) = rw (← same) (round_is.taken, refl) in
      let B : List (ℕ × Input) → Type 0 =
      λ is. TookAllOrNone round_is.group is round.stop (keeper_of old) (keeper_of new) told told_then in
      record {
        mid = round_is.mid;
        taken = taken.0;
        why = rw same at round_is.why;
        at_most = round_is.at_most;
        some = round_is.some;
        none_taken = rw same at round_is.none_taken;
        rests = rw same at round_is.rests;
        keeps = rw same at round_is.keeps;
        works = rw same at round_is.works;
        group = round_is.group;
        after = round_is.after;
        one_more = round_is.one_more;
        came = round_is.came;
        moments = rw same at round_is.moments;
        became = subst B (sym taken.1) (rw same at round_is.became);
      }

  -- nothing is offered after it either
  pub none_offered : {old new : Engine D disk}
      → (offered_of new ≡ offered_of old) × (offered_sends_of new ≡ offered_sends_of old)
      → IsOffered [] old → IsOffered [] new
  none_offered offered none = record {
    batches = offered.0 ∙ none.batches;
    sends = offered.1 ∙ none.sends;
  }

  -- ---- rounds in order

  -- what was offered before the run was withdrawn, and what was owed was handed over
  pub begun : ((x : D) → disk.is_honest x → disk.held_at x (disk.moment x) ≡ disk.held x)
      → {size unsent : ℕ} {old mid new : Engine D disk} {left : Option (List Answer)}
      {told told_then : Option (List Handed)}
      → unsent ≤ 2 ^ 64 - 1
      → Works (keeper_of old) (keeper_of new)
      → keeper_of new ≡ keeper_of old
      → queue_of mid ≡ queue_of old
      → IsOffered [] mid
      → AllHanded told (queue_of mid) unsent told_then
      → (offered_of new ≡ offered_of mid) × (offered_sends_of new ≡ offered_sends_of mid)
      → queue_of new ≡ []
      → RanSoFar size 0 unsent old new left left told told_then
  begun now {size} {unsent} {old} {mid} {new} {left} fits works same owed none handed offered emptied = record {
    taken = record {
      inputs = [];
      gave = gave_none size left;
      number = refl;
      state = ap kept.state_of same;
      refused = unsent;
      handed = rw (append-nil (queue_of old), ← owed) handed;
      counted = omega (arith, fits);
    };
    works = works;
    none_taken = λ _. refl;
    rests = λ _. ap kept.pair_of same;
    emptied = emptied;
    dropped = none_offered offered none;
    through = went_none old new same (nothing_called now (keeper_of old) (rw same at works)) (rw owed at handed);
  }

  -- it ended after its last round, or without one
  pub ended : {size most asked turns unsent : ℕ} (cause : Option RunFault) {old new : Engine D disk}
      {left mid left_then : Option (List Answer)} {told told_then : Option (List Handed)}
      → RanSoFar size turns unsent old new left mid told told_then → turns ≤ asked
      → EndedBy size most asked turns cause (keeper_of old) (keeper_of new) mid left_then
      → Ran size most asked (record { turns = turns; unsent = unsent; fault = cause }) old new left left_then told
      told_then
  ended cause {mid = mid} run fits why = record {
    mid = mid;
    taken = run.taken;
    why = why;
    at_most = fits;
    none_taken = run.none_taken;
    emptied = run.emptied;
    rests = run.rests;
    keeps = run.works.keeps;
    works = λ _. run.works;
  }

  -- and what it went through
  pub through_ended : ((x : D) → disk.is_honest x → disk.held_at x (disk.moment x) ≡ disk.held x)
      → {size turns unsent : ℕ} {old new : Engine D disk} {left mid : Option (List Answer)}
      {told told_then : Option (List Handed)} (left_then : Option (List Answer))
      → RanSoFar size turns unsent old new left mid told told_then → left_then ≡ mid
      → RunsThrough size turns old new left left_then told told_then
  through_ended now {size} {old = old} {new = new} {left} {mid} left_then run same = λ life runs.
      let still = nothing_called now (keeper_of new) (works_itself run.works) in
      let none : GaveAll size mid [] left_then = rw same (gave_none size mid) in
      ends_through (run.through life runs) run.works [] new still [] refl refl run.taken.number (omega arith)
      (came_join size left mid left_then run.taken.inputs [] [] run.taken.gave none)

module _ {D : Type 0} {disk : Ghosts D}
    (now : (x : D) → disk.is_honest x → disk.held_at x (disk.moment x) ≡ disk.held x)
    {size room turns unsent all : ℕ} {round : Round} {first old new : Engine D disk}
    {left mid left_then : Option (List Answer)} {told mid_told told_then : Option (List Handed)}
    (counts : all ≡ min (unsent + round.unsent) (2 ^ 64 - 1))
    (run : RanSoFar size turns unsent first old left mid told mid_told)
    (one : HasRound size room round old new mid left_then mid_told told_then) (emptied : queue_of new ≡ []) where
  -- its group was taken
  with_group : (one.taken.inputs ≡ one.group) × Works (keeper_of old) (keeper_of new) → (life : Life)
      → RunsWith life (state_of first) (queue_of first)
      → WentThrough (run.taken.inputs ++ one.group) first new told told_then life
  with_group took life runs =
      let as_group = has_run_as_group one.taken one.group took.0 in
      went_more (run.through life runs) run.works one.group new one.moments took.1
      (nothing_called now (keeper_of new) (works_itself took.1)) as_group.0 as_group.1

  -- a round more was taken, and a next one may follow
  pub round_more : round.stop ≡ None → IsOffered [] new
      → RanSoFar size (turns + round.turns) all first new left left_then told told_then
  round_more none dropped =
      let same : left_then ≡ one.mid = rw none at one.why in
      let taken : (joined : HasRun size left (state_of first) (queue_of first) told (turns + round.turns) all left_then
      (state_of new) told_then) × (joined.inputs ≡ run.taken.inputs ++ one.taken.inputs) =
      rw same (runs_join counts run.taken one.taken) in
      record {
        taken = taken.0;
        works = works_join run.works (one.works (λ failed. cc));
        none_taken = λ broken. omega (arith, run.none_taken broken, one.none_taken (run.works.broken ∙ broken));
        rests = λ broken. one.rests (run.works.broken ∙ broken) ∙ run.rests broken;
        emptied = emptied;
        dropped = dropped;
        through = λ life runs. rw taken.1 (went_on one.became life runs);
      }
    where
      went_on : TookAllOrNone one.group one.taken.inputs round.stop (keeper_of old) (keeper_of new) mid_told told_then
          → (life : Life) → RunsWith life (state_of first) (queue_of first)
          → WentThrough (run.taken.inputs ++ one.taken.inputs) first new told told_then life
      went_on (inl took) life runs = rw took.0 (with_group took life runs)
      went_on (inr lost) life runs = absurd (lost.2 none)

  -- it was the last one
  pub round_last : (why : Stop) (cause : Option RunFault) {most asked : ℕ} → round.stop ≡ Some why
      → cause ≡ fault_of why → room ≤ most → turns + room ≤ asked
      → Ran size most asked (record { turns = turns + round.turns; unsent = all; fault = cause }) first new left
      left_then told told_then
  round_last why cause {most} {asked} stops causes within fits = record {
    mid = one.mid;
    taken = (runs_join counts run.taken one.taken).0;
    why = rw causes (ended_as why (rw stops at one.why));
    at_most = omega (arith, fits, one.at_most);
    none_taken = λ broken. omega (arith, run.none_taken broken, one.none_taken (run.works.broken ∙ broken));
    rests = λ broken. one.rests (run.works.broken ∙ broken) ∙ run.rests broken;
    emptied = emptied;
    keeps = keeps_join run.works.keeps one.keeps;
    works = λ other. works_join run.works (one.works (λ failed.
        let same : why ≡ stop.Fault (fault.Engine Disk) = cc in other (causes ∙ ap fault_of same)));
  }
    where
      -- why the run ended: as its last round did
      ended_as : (w : Stop) → StoppedBy size room (Some w) (keeper_of old) (keeper_of new) one.mid left_then
          → EndedBy size most asked (turns + round.turns) (fault_of w) (keeper_of first) (keeper_of new) one.mid
          left_then
      ended_as stop.Ended is = inr is
      ended_as (stop.Fault fault.Source) is = is
      ended_as (stop.Fault (fault.Engine f)) is = inr (refuses_join within run.works is)

  -- and what the run went through
  pub through_last : RunsThrough size (turns + round.turns) first new left left_then told told_then
  through_last life runs = ended_with one.became
    where
      came : GaveAll size left (given_answers (run.taken.inputs ++ one.group) ++ one.after) left_then
      came = came_join size left mid left_then run.taken.inputs one.group one.after run.taken.gave one.came

      ended_with : TookAllOrNone one.group one.taken.inputs round.stop (keeper_of old) (keeper_of new) mid_told
          told_then
          → GoesInSteps size (turns + round.turns) left left_then (view_of first) (view_of new) told told_then life
          (state_of new)
      ended_with (inl took) =
          let inputs : List (ℕ × Input) = run.taken.inputs ++ one.group in
          let same : inputs ++ [] ≡ inputs = append-nil inputs in
          let number : length one.group ≡ round.turns =
          ap (λ (is : List (ℕ × Input)). length is) (sym took.0) ∙ one.taken.number in
          ends_through (with_group took life runs) (works_join run.works took.1) [] new
          (nothing_called now (keeper_of new) (works_itself took.1)) one.after refl refl
          (omega (arith, length-append run.taken.inputs one.group, run.taken.number, number)) one.one_more
          (rw same came)
      ended_with (inr lost) =
          let number : round.turns ≡ 0 =
          sym one.taken.number ∙ ap (λ (is : List (ℕ × Input)). length is) lost.0 in
          let none = has_run_as_group one.taken [] lost.0 in
          ends_through (run.through life runs) run.works one.group new one.moments one.after none.0 lost.1
          (omega (arith, run.taken.number, number)) one.one_more came
