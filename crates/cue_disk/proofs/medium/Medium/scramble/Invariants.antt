use Rattle.std.proofs.Common.{◌≡◌, ◌≤◌, ◌<◌, ℕ, get_or, length}
use Rattle.cue_disk.specs.Crash.{crashed_byte, changeable_before}
use Rattle.cue_disk.specs.Medium.{medium_held}
use Rattle.cue_disk.proofs.medium.Medium.scramble.Given as goal

abbrev pub invariant-loop-i : goal.invariant-loop-i
invariant-loop-i l = record {
  counted : l.changed ≡ changeable_before (medium_held l.self) l.i;
  few : l.changed ≤ l.i;
  done : (k : ℕ) → k < l.i → get_or l.image k 0 ≡ crashed_byte (medium_held l.self) l.junk k;
  left : (k : ℕ) → l.i ≤ k → k < length l.image → get_or l.image k 0 ≡ get_or (medium_held l.self).bytes k 0;
}
