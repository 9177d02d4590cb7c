use Rattle.cue_disk.specs.Memory.{memory_held}
use Rattle.cue_disk.proofs.ReachedLemmas.{reaches_all}
use Rattle.cue_disk.proofs.memory.MemDisk.crash.Goals as goal

pub returns-in_err-bytes-clause-every : goal.returns-in_err-bytes-clause-every
returns-in_err-bytes-clause-every c = reaches_all (memory_held c.args.self.now)

pub returns-clause-every : goal.returns-clause-every
returns-clause-every c = reaches_all (memory_held c.args.self.now)
