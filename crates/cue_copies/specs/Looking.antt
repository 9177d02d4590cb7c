-- What a reading of both files of a store gave.
use Rattle.cue_disk.specs.Disk.{Contents}
use Rattle.cue_keeper.specs.Observed.{state_of}
use Rattle.cue_keeper.specs.Stands.{Stands}
use Rattle.cue_copies.specs.Copies.{CannotBeOpened, copy_of}
use Rattle.cue_copies.specs.declared.looking.Seen.{Seen}
use Rattle.cue_copies.specs.declared.looking.Seen.TheVariants.{Whole, Refused, Changing}

-- If a store was seen, what the disks hold stands for its state; if it is refused, it is said why. While nobody
-- else writes the disks, they do not change.
abbrev pub StandsAsSeen : Contents → Contents → Seen → Type 0
StandsAsSeen first second (Whole keeper) = Stands (copy_of first) (copy_of second) (state_of keeper)
StandsAsSeen first second (Refused fault) = CannotBeOpened fault (copy_of first) (copy_of second)
StandsAsSeen first second Changing = ⊥
