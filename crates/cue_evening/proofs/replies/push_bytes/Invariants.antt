use Rattle.std.proofs.Common.{◌≡◌, ◌++◌, take}
use Rattle.std.specs.Char.Escape.{escape_ascii}
use Rattle.std.specs.List.{flat_map}
use Rattle.cue_evening.proofs.replies.push_bytes.Given as goal

abbrev pub invariant-loop-byte : goal.invariant-loop-byte
invariant-loop-byte l = l.text.items ≡ l.fn.text.items ++ flat_map escape_ascii (take l.byte-index l.bytes)
