use Rattle.std.proofs.Common.{◌≡◌, ◌≤◌, ◌-◌, ◌↔◌, length, take}
use Rattle.cue_log.specs.Log.{OnlyReads}
use Rattle.cue_log.proofs.fetching.read_text.Given as goal

abbrev pub invariant-loop-text : goal.invariant-loop-text
invariant-loop-text g l = record {
  reads : g.D.Disk.is_honest l.initial.disk
      → OnlyReads g.D.Disk.moment g.D.Disk.held g.D.Disk.held_at l.initial.disk l.disk;
  honest : g.D.Disk.is_honest l.disk ↔ g.D.Disk.is_honest l.initial.disk;
  front : g.D.Disk.is_honest l.initial.disk
      → l.text.items ≡ take (length l.text.items) (g.D.Disk.held l.initial.disk).bytes;
  short : length l.text.items ≤ l.most;
  failures : g.D.Disk.failures l.disk ≡ g.D.Disk.failures l.initial.disk;
}

abbrev pub decreases-loop-text : goal.decreases-loop-text
decreases-loop-text g l = l.most - length l.text.items
