-- What groups, one after the other, leave of a keeper, and why a run ended.
use Rattle.std.specs.Prelude.{◌⊎◌}
use Rattle.std.proofs.Common.{◌≡◌, ℕ, ◌+◌, ◌≤◌, true, false, List, [], ◌∷◌, ◌++◌, length, Option, Some, None, refl, sym}
use Rattle.std.proofs.Common.{◌∙◌, inl, inr, arith}
use Rattle.std.proofs.lemmas.Bool.{false_from_ne_true}
use Rattle.cue_disk.specs.declared.disk.Disk.{Ghosts}
use Rattle.cue_core.specs.declared.event.Event.{Event}
use Rattle.cue_keeper.specs.declared.fault.Fault.{Fault}
use Rattle.cue_keeper.specs.declared.fault.Fault.TheVariants.{Broken, Memory, Disk, Full}
use Rattle.cue_keeper.specs.declared.keeper.Keeper.{Keeper}
use Rattle.cue_keeper.specs.Accepting.{Commits, Accepts}
use Rattle.cue_keeper.specs.Stands.{StandsAs}
use Rattle.cue_keeper.specs.Observed as kept
use Rattle.cue_keeper.proofs.CommittedLemmas.{unless_disk, still_broken, out_of_memory}
use Rattle.cue_engine.specs.Given.{Input}
use Rattle.cue_engine.specs.Groups.{batches_given}
use Rattle.cue_engine.specs.Sources.{Answer, GaveAll}
use Rattle.cue_run.specs.declared.turns.RunFault.{RunFault}
use Rattle.cue_run.specs.declared.turns.RunFault.TheVariants as fault
use Rattle.cue_run.specs.declared.groups.offering.Stop.{Stop}
use Rattle.cue_run.specs.declared.groups.offering.Stop.TheVariants as stop
use Rattle.cue_run.specs.Running.{given_answers, Keeps, Works, Refuses}
use Rattle.cue_run.specs.Grouping.{IsTurnedDown, CutShort, StoppedAtFirst, StoppedBy, stop_of}

-- Broken and Memory are not Full
neither : (f : Fault) → (f ≡ Broken) ⊎ (f ≡ Memory) → f ≡ Full → ⊥
neither f (inl broken) full = cc
neither f (inr memory) full = cc

module _ {D : Type 0} {disk : Ghosts D} where
  keeps_same : {keeper : Keeper D disk} → Keeps keeper keeper
  keeps_same = record {
    first_failures = omega arith;
    second_failures = omega arith;
    first_honest = (λ h. h, λ h. h);
    second_honest = (λ h. h, λ h. h);
  }

  -- nothing was called yet
  pub begins : {old new : Keeper D disk} → new ≡ old
      → (disk.is_honest (kept.first_of old) → disk.is_honest (kept.second_of old) → kept.is_broken old ≡ false
      → StandsAs (disk.held (kept.first_of old)) (disk.held (kept.second_of old)) (kept.state_of old))
      → Works old new
  begins same stands = rw same (record { keeps = keeps_same; broken = refl; stands = stands })

  -- the last call left everything as it was
  pub works_itself : {old new : Keeper D disk} → Works old new → Works new new
  works_itself works = record {
    keeps = keeps_same;
    broken = refl;
    stands = λ first second working. works.stands (works.keeps.first_honest.0 first)
        (works.keeps.second_honest.0 second) (sym works.broken ∙ working);
  }

  -- ---- calls, and then others

  pub keeps_join : {a b c : Keeper D disk} → Keeps a b → Keeps b c → Keeps a c
  keeps_join x y = record {
    first_failures = omega (arith, x.first_failures, y.first_failures);
    second_failures = omega (arith, x.second_failures, y.second_failures);
    first_honest = (λ h. x.first_honest.0 (y.first_honest.0 h), λ h. y.first_honest.1 (x.first_honest.1 h));
    second_honest = (λ h. x.second_honest.0 (y.second_honest.0 h), λ h. y.second_honest.1 (x.second_honest.1 h));
  }

  pub works_join : {a b c : Keeper D disk} → Works a b → Works b c → Works a c
  works_join x y = record {
    keeps = keeps_join x.keeps y.keeps;
    broken = y.broken ∙ x.broken;
    stands = λ first second working. y.stands (x.keeps.first_honest.1 first) (x.keeps.second_honest.1 second)
        (x.broken ∙ working);
  }

  -- what was refused after other calls, of fewer inputs than there may be
  pub refuses_join : {size few most : ℕ} {f : Fault} {a b c : Keeper D disk} {left left_then : Option (List Answer)}
      → few ≤ most → Works a b → Refuses size few f b c left left_then → Refuses size most f a c left left_then
  refuses_join fits works refuses = record {
    met = refuses.met;
    works = works_join works refuses.works;
    inputs = refuses.inputs;
    some = refuses.some;
    after = refuses.after;
    one_more = refuses.one_more;
    few = omega (arith, refuses.few, fits);
    came = refuses.came;
    accepts = refuses.accepts;
    not_full = refuses.not_full;
    leaves = λ first second working. refuses.leaves (works.keeps.first_honest.1 first)
        (works.keeps.second_honest.1 second) (works.broken ∙ working);
  }

  -- ---- one group

  pub keeps_group : {batches : List (List Event)} {refused : Option Fault} {old new : Keeper D disk}
      → Accepts batches refused old new → Keeps old new
  keeps_group accepts = record {
    first_failures = accepts.pair.first_failures;
    second_failures = accepts.pair.second_failures;
    first_honest = accepts.pair.first_honest;
    second_honest = accepts.pair.second_honest;
  }

  -- a broken pair is left as it was
  pub rests_group : {batches : List (List Event)} {refused : Option Fault} {old new : Keeper D disk}
      → Accepts batches refused old new → kept.is_broken old ≡ true → kept.pair_of new ≡ kept.pair_of old
  rests_group accepts broken = rw (accepts.pair.broken broken) at accepts.pair.after

  -- what accepts a group works
  pub worked : {batches : List (List Event)} {old new : Keeper D disk} → Accepts batches None old new
      → kept.is_broken old ≡ false
  worked {old = old} accepts =
      false_from_ne_true (kept.is_broken old) (λ is. let refused = accepts.pair.broken is in cc)

  pub works_on : {batches : List (List Event)} {old new : Keeper D disk} → Accepts batches None old new
      → Works old new
  works_on accepts = record {
    keeps = keeps_group accepts;
    broken = accepts.pair.works ∙ sym (worked accepts);
    stands = λ first second _. rw accepts.state (accepts.stands first second);
  }

  -- a group was refused, and no device failed
  pub works_still : {batches : List (List Event)} {f : Fault} {old new : Keeper D disk} → Works old old
      → Accepts batches (Some f) old new → (f ≡ Disk → ⊥) → Works old new
  works_still {f = f} {old = old} {new = new} works accepts other =
      let same = unless_disk (kept.pair_of old) (kept.pair_of new) f accepts.pair.after other in
      let one : kept.first_of new ≡ kept.first_of old = rw same refl in
      let two : kept.second_of new ≡ kept.second_of old = rw same refl in
      record {
        keeps = keeps_group accepts;
        broken = rw same refl;
        stands = λ first second working. rw (one, two, accepts.state) (works.stands first second working);
      }

module _ {D : Type 0} {disk : Ghosts D}
    (now : (x : D) → disk.is_honest x → disk.held_at x (disk.moment x) ≡ disk.held x) where
  -- the commit of some inputs was refused
  pub refuses_group : (inputs : List (ℕ × Input)) (after : List Answer) {size most : ℕ} {f : Fault}
      {old new : Keeper D disk} {left left_then : Option (List Answer)}
      → Works old old
      → 1 ≤ length inputs
      → length after ≤ 1
      → length inputs + length after ≤ most
      → GaveAll size left (given_answers inputs ++ after) left_then
      → Accepts (batches_given (kept.state_of old) inputs) (Some f) old new
      → (f ≡ Full → ⊥)
      → Refuses size most f old new left left_then
  refuses_group inputs after {old = old} {new = new} works some one_more few came accepts not_full = record {
    met = old;
    works = works;
    inputs = inputs;
    some = some;
    after = after;
    one_more = one_more;
    few = few;
    came = came;
    accepts = accepts;
    not_full = not_full;
    -- what a crash leaves at any moment, it leaves now
    leaves = λ first second working x y left_x left_y.
        let one = kept.first_of new in
        let other = kept.second_of new in
        let at_any = accepts.pair.any_moment first second working in
        at_any.each (disk.moment one) (disk.moment other) at_any.later_a (omega arith) at_any.later_b (omega arith) x y
        (rw (now one (accepts.pair.first_honest.1 first)) left_x)
        (rw (now other (accepts.pair.second_honest.1 second)) left_y);
  }

  -- an input that was turned down
  turned_down : {f : Fault} {batches : List (List Event)} {keeper : Keeper D disk} → Works keeper keeper
      → IsTurnedDown f keeper → Accepts batches (Some f) keeper keeper
  turned_down {f} {batches} {keeper} works down = record { state = refl; stands = λ _ _. tt; pair = commits down.1 }
    where
      commits : (f ≡ Broken) ⊎ (f ≡ Memory)
          → Commits (kept.state_of keeper) batches (Some f) (kept.pair_of keeper) (kept.pair_of keeper)
      commits (inl is) = rw is (still_broken (kept.state_of keeper) batches (kept.pair_of keeper) (down.0.0 is))
      commits (inr is) =
          let unbroken = false_from_ne_true (kept.is_broken keeper) (λ broken. let same = down.0.1 broken in cc) in
          rw is (out_of_memory (kept.state_of keeper) batches (kept.pair_of keeper) now
          (λ first second. works.stands first second unbroken) unbroken)

module _ {D : Type 0} {disk : Ghosts D}
    (now : (x : D) → disk.is_honest x → disk.held_at x (disk.moment x) ≡ disk.held x) (size most : ℕ)
    (left left_then : Option (List Answer)) {old new : Keeper D disk} (one : 1 ≤ most) (works : Works old new) where
  -- what was turned down is refused, and a crash leaves the state
  stopped : (why : RunFault) → CutShort size (Some why) old left left_then
      → StoppedBy size most (Some (stop.Fault why)) old new left left_then
  stopped fault.Source cut = cut
  stopped (fault.Engine f) cut =
      let down : IsTurnedDown f new = rw works.broken cut.1 in
      let still = works_itself works in
      refuses_join {few = most} (omega arith) works
      (refuses_group now (cut.0.0 ∷ []) [] still (omega arith) (omega arith) (omega (arith, one)) cut.0.1
      (turned_down now still down) (neither f down.1))

  -- the fault that cut a group short, after its commit
  pub stopped_by_cut : (cut : Option RunFault) → CutShort size cut old left left_then
      → StoppedBy size most (stop_of cut) old new left left_then
  stopped_by_cut None cut = cut
  stopped_by_cut (Some why) cut = stopped why cut

  -- nothing was offered
  pub stopped_at_first : (why : Stop) → StoppedAtFirst size why old left left_then
      → StoppedBy size most (Some why) old new left left_then
  stopped_at_first stop.Ended is = is
  stopped_at_first (stop.Fault why) is = stopped why is
