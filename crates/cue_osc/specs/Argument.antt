-- One argument of a message, as data.
use Rattle.std.specs.Prelude.{ℕ, ℤ, List}
use Rattle.cue_osc.specs.declared.packet.Arg.{Arg}
use Rattle.cue_osc.specs.declared.packet.Arg.TheVariants as args

-- an int32, an OSC-string, or an OSC-blob (OSC 1.0, "OSC Type Tag String")
pub data Argument : Type 0 where
  int : ℤ → Argument
  text : List ℕ → Argument
  blob : List ℕ → Argument

-- what an argument says
abbrev pub arg_view : Arg → Argument
arg_view (args.Int z) = int z
arg_view (args.Text t) = text t.now
arg_view (args.Blob b) = blob b.now
