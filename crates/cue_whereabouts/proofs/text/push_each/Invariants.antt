use Rattle.std.proofs.Common.{◌≡◌, ◌++◌, string_bytes, take}
use Rattle.cue_whereabouts.specs.Text.{text_of}
use Rattle.cue_whereabouts.proofs.text.push_each.Given as goal

-- what was written says those so far
abbrev pub invariant-loop-known : goal.invariant-loop-known
invariant-loop-known l = string_bytes l.out ≡ string_bytes l.fn.out ++ text_of (take l.known-index l.all)
