-- Helper: values of the code as the definitions see them.
use Rattle.std.specs.Prelude.{ℕ, List}
use Rattle.std.specs.Borrow.{Bor}
use Rattle.cue_engine.specs.declared.mem_wire.Sent.{Sent}
use Rattle.cue_engine.specs.Runs.{Happening, recovered}
use Rattle.cue_script.specs.ScriptLines.{Arrived, arrives, ticks}
use Rattle.cue_script.specs.declared.line.Arrival.{Arrival}
use Rattle.cue_script.specs.declared.line.ScriptLine.{ScriptLine}
use Rattle.cue_script.specs.declared.line.ScriptLine.TheVariants.{Datagram, Tick, PowerLoss}

-- two slices as their bytes
abbrev pub cut_view : Bor (List ℕ) × Bor (List ℕ) → List ℕ × List ℕ
cut_view cut = (cut.0.now, cut.1.now)

-- the words in front of a line, with what is left as its bytes
abbrev pub heading_view : ℕ × ℕ × Bor (List ℕ) → ℕ × ℕ × List ℕ
heading_view heading = (heading.0, heading.1, heading.2.now)

-- an arrival with its bytes
abbrev pub arrival_view : Arrival → Arrived
arrival_view a = record { now = a.now; from = a.from; bytes = a.bytes.items }

-- what a line stands for
abbrev pub line_view : ScriptLine → Happening
line_view (Datagram a) = arrives (arrival_view a)
line_view (Tick now) = ticks now
line_view PowerLoss = recovered

-- a datagram that was handed over, with its port and its bytes
abbrev pub sent_view : Sent → ℕ × List ℕ
sent_view sent = (sent.to, sent.bytes.items)
