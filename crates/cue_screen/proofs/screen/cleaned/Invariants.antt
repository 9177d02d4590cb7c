use Rattle.std.proofs.Common.{◌≡◌, map, string_bytes, take}
use Rattle.cue_screen.specs.Pictures.{cleaned}
use Rattle.cue_screen.proofs.screen.cleaned.Given as goal

-- those so far are as a terminal may get them
abbrev pub invariant-loop-line : goal.invariant-loop-line
invariant-loop-line l =
    map string_bytes l.all.items ≡ cleaned (map string_bytes (take l.line-index l.fn.lines.items))
