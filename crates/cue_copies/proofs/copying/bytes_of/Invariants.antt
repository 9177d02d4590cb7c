use Rattle.std.proofs.Common.{◌≡◌, ◌≤◌, ◌↔◌, length}
use Rattle.cue_log.specs.declared.area.TheConstants.{MAX_AREA}
use Rattle.cue_copies.specs.Copies.{copy_of}
use Rattle.cue_copies.proofs.copying.bytes_of.Given as goal

abbrev pub invariant-loop : goal.invariant-loop
invariant-loop g l = record {
  copy : g.D.Disk.is_honest l.fn.disk → l.bytes.items ≡ copy_of (g.D.Disk.held l.fn.disk);
  kept : g.D.Disk.is_honest l.fn.disk → g.D.Disk.held l.disk ≡ g.D.Disk.held l.fn.disk;
  honest : g.D.Disk.is_honest l.disk ↔ g.D.Disk.is_honest l.fn.disk;
  failures : g.D.Disk.failures l.disk ≡ g.D.Disk.failures l.fn.disk;
  short : length l.bytes.items ≤ MAX_AREA;
}
