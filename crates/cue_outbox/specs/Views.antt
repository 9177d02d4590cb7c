-- Datagrams of the code as the definitions see them.
use Rattle.std.specs.Prelude.{ℕ, List, map}
use Rattle.cue_outbox.specs.declared.out.Out.{Out}

-- the port and the bytes
abbrev pub out_view : Out → ℕ × List ℕ
out_view out = (out.to, out.bytes)

-- each with its port and its bytes
abbrev pub outs_view : List Out → List (ℕ × List ℕ)
outs_view outs = map out_view outs
