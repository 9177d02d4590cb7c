-- Whether a device may still move: it was sent a GO, and no answer has shown since that this motion is over.
use Rattle.std.specs.Prelude.{ℕ, ◌-◌, max, Bool, true, false, ◌&&◌, nat_eq, nat_le, if◌then◌else◌}
use Rattle.cue_device.specs.declared.words.Answer.{Answer}
use Rattle.cue_device.specs.declared.words.Answer.TheVariants as answers
use Rattle.cue_relay.specs.declared.motion.Motion.{Motion}
use Rattle.cue_relay.specs.declared.motion.Motion.TheVariants.{Unknown, Moving, Over}
use Rattle.cue_relay.specs.declared.status.Ordered.{Ordered}
use Rattle.cue_relay.specs.declared.status.Ordered.TheVariants.{Standby, Go, Cancel}

-- it is the order to move
abbrev pub is_go : Ordered → Bool
is_go Standby = false
is_go Go = true
is_go Cancel = false

-- the motion in the attempt m is known to be over
abbrev pub is_over : Motion → ℕ → Bool
is_over Unknown m = false
is_over (Moving n) m = false
is_over (Over o) m = nat_le m o

-- a copy of a GO that comes after the end of its motion was heard
abbrev pub is_late : Motion → Ordered → ℕ → Bool
is_late motion order seq = is_go order && is_over motion seq

-- A later STANDBY or CANCEL changes nothing of a motion. But a STANDBY with a number that is over is of a store that
-- counts anew.
abbrev pub motion_after_order : Motion → Ordered → ℕ → Motion
motion_after_order motion Go seq = Moving seq
motion_after_order motion Standby seq = if is_over motion seq then Unknown else motion
motion_after_order motion Cancel seq = motion

-- it was shown that the motions are over in the attempts up to this one
abbrev pub known_over : Motion → ℕ → Motion
known_over Unknown seq = Over seq
known_over (Moving m) seq = if nat_le m seq then Over seq else Moving m
known_over (Over o) seq = Over (max o seq)

-- it was shown that the motion in this one attempt is over
abbrev pub over_at : Motion → ℕ → Motion
over_at Unknown seq = Unknown
over_at (Moving m) seq = if nat_eq m seq then Over seq else Moving m
over_at (Over o) seq = Over o

-- A device that stands by is at rest, and one that has carried out a cue, too. That it lets go of an attempt or aborts
-- it says nothing of a motion in another one, and nothing of its own once it was sent something newer: `going` says
-- whether the GO of that attempt is its last order, and open.
abbrev pub motion_after_answer : Bool → Motion → Answer → Motion
motion_after_answer going motion (answers.StandingBy seq) = known_over motion (seq - 1)
motion_after_answer going motion (answers.Complete seq) = known_over motion seq
motion_after_answer going motion (answers.Cancelled seq) = if going then over_at motion seq else motion
motion_after_answer going motion (answers.Abort seq) = if going then over_at motion seq else motion

-- the answer shows that the motion in the attempt m is over: it is its end, or the device stands by for a later one, or
-- has carried one out
abbrev pub ends_motion : Bool → ℕ → Answer → Bool
ends_motion going m (answers.StandingBy seq) = nat_le m (seq - 1)
ends_motion going m (answers.Complete seq) = nat_le m seq
ends_motion going m (answers.Cancelled seq) = going && nat_eq m seq
ends_motion going m (answers.Abort seq) = going && nat_eq m seq
