use Rattle.std.specs.Prelude.{◌≡◌, drop}
use Rattle.cue_core.specs.Pending.{bytes_for}
use Rattle.cue_outbox.proofs.orders.bytes_for.Given as goal

-- the device's bytes are found among the rest as among all
abbrev pub invariant-loop-part : goal.invariant-loop-part
invariant-loop-part l = bytes_for l.device (drop l.part-index l.parts) ≡ bytes_for l.device l.parts
