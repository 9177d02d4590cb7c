use Rattle.std.proofs.Common.{◌≡◌, take, string_bytes}
use Rattle.cue_board.specs.Claims.{plain}
use Rattle.cue_board.proofs.claims.plain_text.Given as goal

-- the bytes so far were put there
abbrev pub invariant-loop-byte : goal.invariant-loop-byte
invariant-loop-byte l = string_bytes l.text ≡ plain (take l.byte-index l.bytes)
