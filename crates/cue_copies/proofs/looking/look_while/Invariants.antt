use Rattle.std.proofs.Common.{◌≡◌, ◌↔◌}
use Rattle.cue_copies.proofs.looking.look_while.Given as goal

abbrev pub invariant-loop : goal.invariant-loop
invariant-loop g l = record {
  first : g.D.Disk.is_honest l.fn.first → g.D.Disk.held l.first ≡ g.D.Disk.held l.fn.first;
  second : g.D.Disk.is_honest l.fn.second → g.D.Disk.held l.second ≡ g.D.Disk.held l.fn.second;
  first_honest : g.D.Disk.is_honest l.first ↔ g.D.Disk.is_honest l.fn.first;
  second_honest : g.D.Disk.is_honest l.second ↔ g.D.Disk.is_honest l.fn.second;
  first_failures : g.D.Disk.failures l.first ≡ g.D.Disk.failures l.fn.first;
  second_failures : g.D.Disk.failures l.second ≡ g.D.Disk.failures l.fn.second;
}
