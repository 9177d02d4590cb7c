use Rattle.std.proofs.Common.{◌≤◌, ◌+◌, ℕ, [], ◌∷◌, refl, ap, sym, ◌∙◌, subst, true≢false}
use Rattle.cue_core.specs.Happenings.{events_at, recovered}
use Rattle.cue_keeper.specs.Observed.{state_of, pair_of, first_of, second_of, generation_of}
use Rattle.cue_keeper.specs.Turning.{lack_room}
use Rattle.cue_keeper.proofs.CommittedLemmas.{unless_disk, one_is_free}
use Rattle.cue_keeper.proofs.GroupLemmas.{one_has}
use Rattle.cue_snap.specs.Observed as snap
use Rattle.cue_keeper.specs.declared.fault.Fault.TheVariants as fault
use Rattle.cue_keeper.specs.declared.fault.StoreFault.TheVariants as store
use Rattle.cue_engine.proofs.ReopenedLemmas.{no_generation, cannot_turn, generation_read, one_more, told_one, none_told}
use Rattle.cue_engine.proofs.engine.opening.close_opened.Goals as goal
use Rattle.cue_core.specs.Batches.{closed_state}

pub store_fault-requires-clause-works : goal.store_fault-requires-clause-works
store_fault-requires-clause-works g c = λ broken.
    let why = rw broken at c.in-Err.ensures.accepts.pair.cause in
    absurd (true≢false (sym why ∙ c.requires.works))

pub store_fault-requires-clause-room : goal.store_fault-requires-clause-room
store_fault-requires-clause-room g c = λ full. one_is_free (pair_of c.args.keeper)
    (events_at (state_of c.args.keeper) recovered) (rw full at c.in-Err.ensures.accepts.pair.cause)

pub returns-in-Err-clause-refused : goal.returns-in-Err-clause-refused
returns-in-Err-clause-refused g c =
    let keeper = c.args.keeper in
    let reads = g.met.D.Disk.reads_as_image in
    let accepts = c.in-Err.ensures.accepts.pair in
    record {
      exhausted = λ first second refused.
          let told = rw (c.store_fault.ensures.exhausted.0 refused) at accepts.cause in
          no_generation (c.is_broken-broken.ensures.kept first second c.requires.works)
          (reads (first_of keeper) first) (reads (second_of keeper) second)
          (one_has (events_at (state_of keeper) recovered) told.1) told.0 told.2;
      failed = λ refused. rw (c.close-first.ensures.first, c.close-first.ensures.second)
          (rw (c.store_fault.ensures.disk.0 refused) at accepts.cause);
      no_other = c.store_fault.ensures.no_other;
      due_at_the_last = λ first second none.
          let way = cannot_turn (c.is_broken-broken.ensures.kept first second c.requires.works)
          (reads (first_of keeper) first) (reads (second_of keeper) second) none in
          told_one c.in-Err.fault fault.Memory fault.Exhausted c.store_fault.result store.Memory store.Exhausted
          (accepts.in_the_way c.requires.works fault.Exhausted way) c.store_fault.ensures.memory.1
          c.store_fault.ensures.exhausted.1;
      unwritten = λ other.
          let same = unless_disk (pair_of keeper) (pair_of c.close_undecided.new.keeper) c.in-Err.fault accepts.after
          (λ is. other (c.store_fault.ensures.disk.1 is)) in
          (c.close-first.ensures.first ∙ ap snap.first_of same, c.close-first.ensures.second ∙ ap snap.second_of same);
    }

pub returns-in-Err-clause-any_moment : goal.returns-in-Err-clause-any_moment
unfolding closed_state
returns-in-Err-clause-any_moment g c = λ first second.
    rw (c.close-first.ensures.first, c.close-first.ensures.second)
    (c.close_undecided.ensures.accepts.pair.any_moment first second c.requires.works)

pub returns-in-Err-clause-keeps : goal.returns-in-Err-clause-keeps
returns-in-Err-clause-keeps g c =
    let accepts = c.close_undecided.ensures.accepts.pair in
    rw (c.close-first.ensures.first, c.close-first.ensures.second) (
      record { honest = accepts.first_honest; failures = accepts.first_failures },
      record { honest = accepts.second_honest; failures = accepts.second_failures },
    )

pub returns-in-Ok-clause-closed : goal.returns-in-Ok-clause-closed
unfolding closed_state
returns-in-Ok-clause-closed g c =
    let keeper = c.args.keeper in
    let reads = g.met.D.Disk.reads_as_image in
    record {
      owes = record {
        queue = rw c.in-Ok.ensures.accepts.state c.in-Ok.ensures.queue;
        offered = record { batches = refl; sends = refl };
        works = c.in-Ok.ensures.accepts.pair.works;
      };
      state = c.in-Ok.ensures.accepts.state;
      last = c.in-Ok.ensures.last;
      account = c.in-Ok.ensures.account;
      turned = λ first second area pair_reads.
          let read = generation_read (c.is_broken-broken.ensures.kept first second c.requires.works)
          (reads (first_of keeper) first) (reads (second_of keeper) second) area pair_reads in
          subst (λ (n : ℕ). generation_of c.close_undecided.new.keeper ≤ n + 1) read
          (one_more (lack_room (pair_of keeper) (events_at (state_of keeper) recovered ∷ [])) (generation_of keeper)
          (generation_of c.close_undecided.new.keeper) c.in-Ok.ensures.accepts.pair.generation);
    }

pub returns-in-Ok-clause-refused : goal.returns-in-Ok-clause-refused
returns-in-Ok-clause-refused g c =
    let keeper = c.args.keeper in
    let reads = g.met.D.Disk.reads_as_image in
    record {
      exhausted = λ _ _. tt;
      failed = tt;
      no_other = tt;
      due_at_the_last = λ first second none.
          let way = cannot_turn (c.is_broken-broken.ensures.kept first second c.requires.works)
          (reads (first_of keeper) first) (reads (second_of keeper) second) none in
          none_told fault.Memory fault.Exhausted
          (c.in-Ok.ensures.accepts.pair.in_the_way c.requires.works fault.Exhausted way);
      unwritten = tt;
    }

pub returns-in-Ok-clause-stands : goal.returns-in-Ok-clause-stands
returns-in-Ok-clause-stands g c = λ first second.
    rw c.in-Ok.ensures.accepts.state (c.in-Ok.ensures.accepts.stands first second)
