use Rattle.std.proofs.Common.{◌≡◌, ◌≤◌, ◌++◌}
use Rattle.std.specs.Char.Escape.{escape_ascii}
use Rattle.std.specs.Char.Iter.{escape_byte_end, escape_byte_left, escape_byte_rest}
use Rattle.cue_evening.proofs.replies.push_byte.Given as goal

abbrev pub invariant-loop-sign : goal.invariant-loop-sign
invariant-loop-sign l =
    (escape_byte_end l.rest ≤ 4) × (l.text.items ++ escape_byte_rest l.rest ≡ l.fn.text.items ++ escape_ascii l.byte)

abbrev pub decreases-loop-sign : goal.decreases-loop-sign
decreases-loop-sign l = escape_byte_left l.rest
