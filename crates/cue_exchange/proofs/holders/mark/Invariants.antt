use Rattle.std.specs.Prelude.{◌≡◌, ℕ, ◌≤◌, if◌then◌else◌, slice_index, take}
use Rattle.cue_show.specs.declared.limits.TheConstants.{MAX_DEVICE_NUMBER}
use Rattle.cue_exchange.specs.Answers.{is_one_of}
use Rattle.cue_exchange.proofs.holders.mark.Given as goal

-- the devices so far are in the attempt, and each other one is where it was
abbrev pub invariant-loop-item : goal.invariant-loop-item
invariant-loop-item l = (d : ℕ) → d ≤ MAX_DEVICE_NUMBER
    → slice_index l.holders d ≡ (if is_one_of d (take l.item-index l.items) then l.seq else slice_index
    l.initial.holders d)
