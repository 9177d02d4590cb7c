-- What a source in memory says of itself.
use Rattle.std.specs.Prelude.{List, map, drop, Option, Some}
use Rattle.cue_engine.specs.Given.{datagram, tick}
use Rattle.cue_engine.specs.Sources.{Answer, comes, ends, fails}
use Rattle.cue_engine.specs.declared.sources.mem_source.MemAnswer.{MemAnswer}
use Rattle.cue_engine.specs.declared.sources.mem_source.MemAnswer.TheVariants as mem
use Rattle.cue_engine.specs.declared.sources.mem_source.MemSource.{MemSource}

-- an answer as contracts of sources see it
abbrev pub answer_view : MemAnswer → Answer
answer_view (mem.Tick now) = comes now tick
answer_view (mem.Datagram now from bytes) = comes now (datagram from bytes.items)
answer_view mem.End = ends
answer_view mem.Fault = fails

-- all of them, in order
abbrev pub answers_view : List MemAnswer → List Answer
answers_view = map answer_view

-- the answers after those that it has given
abbrev pub left_by : MemSource → Option (List Answer)
left_by source = Some (answers_view (drop source.given source.answers.items))
