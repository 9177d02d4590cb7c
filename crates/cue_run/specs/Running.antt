-- What a run comes to.
use Rattle.std.specs.Prelude.{◌≡◌, ◌≤◌, ◌+◌, ◌^◌, ◌-◌, ◌⊎◌, ◌↔◌, ℕ, true, false, List, [], ◌∷◌, ◌++◌, length, map, min}
use Rattle.std.specs.Prelude.{Option, Some, None}
use Rattle.cue_core.specs.State.{ShowState}
use Rattle.cue_disk.specs.declared.disk.Disk.{Ghosts}
use Rattle.cue_disk.specs.Disk.{Contents, IsImage}
use Rattle.cue_keeper.specs.declared.fault.Fault.{Fault}
use Rattle.cue_keeper.specs.declared.fault.Fault.TheVariants.{Memory, Disk, Full}
use Rattle.cue_keeper.specs.declared.keeper.Keeper.{Keeper}
use Rattle.cue_keeper.specs.Accepting.{Accepts}
use Rattle.cue_keeper.specs.Stands.{StandsEither, StandsAs, folded_all}
use Rattle.cue_keeper.specs.Observed as kept
use Rattle.cue_outbox.specs.Sending.{datagrams}
use Rattle.cue_engine.specs.declared.engine.Engine.{Engine}
use Rattle.cue_engine.specs.Observed.{keeper_of, state_of, queue_of}
use Rattle.cue_engine.specs.Given.{Input}
use Rattle.cue_engine.specs.Groups.{batches_given, all_took}
use Rattle.cue_engine.specs.Runs.{Story, run}
use Rattle.cue_engine.specs.Wires.{Handed, AllHanded}
use Rattle.cue_run.specs.declared.turns.Ended.{Ended}
use Rattle.cue_run.specs.declared.turns.RunFault.{RunFault}
use Rattle.cue_run.specs.declared.turns.RunFault.TheVariants as fault
use Rattle.cue_engine.specs.Sources.{Answer, comes, ends, fails, GaveAll}

-- inputs in turn, each at its time: as a source gives them, and as a run takes them
abbrev pub given_answers : List (ℕ × Input) → List Answer
given_answers inputs = map (λ t. comes t.0 t.1) inputs

abbrev pub story : ShowState → List (ℕ × Input) → Story
story s inputs = run s (all_took inputs)

-- So far these inputs were taken, as the source gave them, and what was owed at first and what they owe was handed
-- over.
pub record HasRun (size : ℕ) (left : Option (List Answer)) (s : ShowState) (owed : List (ℕ × List ℕ))
    (told : Option (List Handed)) (turns unsent : ℕ) (left_then : Option (List Answer)) (s_then : ShowState)
    (told_then : Option (List Handed)) : Type 0 where
  pub inputs : List (ℕ × Input)
  pub gave : GaveAll size left (given_answers inputs) left_then
  pub number : length inputs ≡ turns
  pub state : s_then ≡ (story s inputs).state
  pub refused : ℕ
  pub handed : AllHanded told (owed ++ datagrams (story s inputs).sends) refused told_then
  pub counted : unsent ≡ min refused (2 ^ 64 - 1)

-- whatever a crash leaves of two disks stands for the one state or for the other
abbrev pub LeavesEither : Contents → Contents → ShowState → ShowState → Type 0
LeavesEither one other before after = (x y : List ℕ) → IsImage one x → IsImage other y → StandsEither before after x y

-- What calls leave of a keeper's disks: they are as honest as they were, and failures do not fall.
pub record Keeps {D : Type 0} {disk : Ghosts D} (old new : Keeper D disk) : Type 0 where
  pub first_failures : disk.failures (kept.first_of old) ≤ disk.failures (kept.first_of new)
  pub second_failures : disk.failures (kept.second_of old) ≤ disk.failures (kept.second_of new)
  pub first_honest : disk.is_honest (kept.first_of new) ↔ disk.is_honest (kept.first_of old)
  pub second_honest : disk.is_honest (kept.second_of new) ↔ disk.is_honest (kept.second_of old)

-- The same of calls that no device failed: the keeper works if it did, and stands for its state then.
pub record Works {D : Type 0} {disk : Ghosts D} (old new : Keeper D disk) : Type 0 where
  pub keeps : Keeps old new
  pub broken : kept.is_broken new ≡ kept.is_broken old
  pub stands :
      disk.is_honest (kept.first_of old)
      → disk.is_honest (kept.second_of old)
      → kept.is_broken old ≡ false
      → StandsAs (disk.held (kept.first_of new)) (disk.held (kept.second_of new)) (kept.state_of new)

-- Inputs that came last were not taken: the keeper that met them refused their batches together with this fault. Of the
-- inputs and the one answer more that the source may have given, which ended the group, there are so many at most.
pub record Refuses {D : Type 0} {disk : Ghosts D} (size most : ℕ) (f : Fault) (old new : Keeper D disk)
    (left left_then : Option (List Answer)) : Type 0 where
  pub met : Keeper D disk
  pub works : Works old met
  pub inputs : List (ℕ × Input)
  pub some : 1 ≤ length inputs
  pub after : List Answer
  pub one_more : length after ≤ 1
  pub few : length inputs + length after ≤ most
  pub came : GaveAll size left (given_answers inputs ++ after) left_then
  pub accepts : Accepts (batches_given (kept.state_of met) inputs) (Some f) met new
  -- a new area has room for any state and batch, and what is offered together has room in the live one
  pub not_full : f ≡ Full → ⊥
  -- even if a device failed a crash leaves the state, or the one after all of the inputs
  pub leaves :
      disk.is_honest (kept.first_of old)
      → disk.is_honest (kept.second_of old)
      → kept.is_broken old ≡ false
      → LeavesEither (disk.held (kept.first_of new)) (disk.held (kept.second_of new)) (kept.state_of met)
      (folded_all (kept.state_of met) (batches_given (kept.state_of met) inputs))

-- Why a run ended. Memory is also the end of one that had none for its buffer, and asked nothing of the source.
abbrev pub EndedBy : {D : Type 0} {disk : Ghosts D} → (size most asked turns : ℕ) → Option RunFault
    → (old new : Keeper D disk)
    → (left left_then : Option (List Answer)) → Type 0
EndedBy size most asked turns None old new left left_then =
    ((turns ≡ asked) × (left_then ≡ left)) ⊎ GaveAll size left (ends ∷ []) left_then
EndedBy size most asked turns (Some fault.Source) old new left left_then = GaveAll size left (fails ∷ []) left_then
EndedBy size most asked turns (Some (fault.Engine f)) old new left left_then =
    ((f ≡ Memory) × (turns ≡ 0) × (left_then ≡ left) × (new ≡ old)) ⊎ Refuses size most f old new left left_then

-- A whole run, of so many inputs together at most: what was taken, in words in which there are no groups, why it ended,
-- and what it leaves.
pub record Ran {D : Type 0} {disk : Ghosts D} (size most asked : ℕ) (ended : Ended) (old new : Engine D disk)
    (left left_then : Option (List Answer)) (told told_then : Option (List Handed)) : Type 0 where
  -- what the source had left after the last input that was taken
  pub mid : Option (List Answer)
  pub taken :
      HasRun size left (state_of old) (queue_of old) told ended.turns ended.unsent mid (state_of new) told_then
  pub why : EndedBy size most asked ended.turns ended.fault (keeper_of old) (keeper_of new) mid left_then
  pub at_most : ended.turns ≤ asked
  pub none_taken : kept.is_broken (keeper_of old) ≡ true → ended.turns ≡ 0
  pub emptied : queue_of new ≡ []
  -- a broken engine's disks are left as they were
  pub rests : kept.is_broken (keeper_of old) ≡ true → kept.pair_of (keeper_of new) ≡ kept.pair_of (keeper_of old)
  pub keeps : Keeps (keeper_of old) (keeper_of new)
  pub works : (ended.fault ≡ Some (fault.Engine Disk) → ⊥) → Works (keeper_of old) (keeper_of new)
