use Rattle.std.specs.Prelude.{[]}
use Rattle.std.proofs.Common.{refl, ◌∙◌, subst, arith}
use Rattle.cue_engine.specs.Observed.{state_of}
use Rattle.cue_script.specs.Streams.{HasCause}
use Rattle.cue_script.specs.declared.stream.Streams.{Streams}
use Rattle.cue_script.proofs.ScriptLineLemmas.{lines-none}
use Rattle.cue_script.proofs.ScriptLemmas.{running_first, running_more, ran, ran_until}
use Rattle.cue_script.proofs.play.play_lines.Goals as goal

pub loop-rest-init : goal.loop-rest-init
loop-rest-init g c = (
  running_first (state_of c.args.engine) c.args.text.now (g.W.Write.contents c.args.writer.now),
  c.requires.ready,
  refl,
  omega arith,
)

pub play_line-requires : goal.play_line-requires
play_line-requires g c = record {
  ready = c.loop-rest.invariant.1;
  generation = omega (arith, c.loop-rest.invariant.3, c.first_line.ensures.shorter, c.requires.generations);
}

pub loop-rest-preserved : goal.loop-rest-preserved
loop-rest-preserved g c = (
  running_more (state_of c.args.engine) c.args.text.now c.loop-rest.rest.now c.first_line.result.1.now
      c.first_line.result.0.now (state_of c.loop-rest.engine) (state_of c.in-Ok.next)
      (g.W.Write.contents c.args.writer.now) (g.W.Write.contents c.loop-rest.writer)
      (g.W.Write.contents c.play_line.new.writer)
      c.loop-rest.invariant.0 c.first_line.ensures.line c.in-Ok.ensures.goes,
  c.in-Ok.ensures.ready,
  c.in-Ok.ensures.no_failure ∙ c.loop-rest.invariant.2,
  omega (arith, c.loop-rest.invariant.3, c.first_line.ensures.shorter, c.in-Ok.ensures.turned),
)

pub returns-in-Err-clause-wrote : goal.returns-in-Err-clause-wrote
returns-in-Err-clause-wrote g c =
    ran_until c.in-Err.ending (state_of c.args.engine) c.args.text.now c.loop-rest.rest.now c.first_line.result.1.now
    c.first_line.result.0.now (state_of c.loop-rest.engine)
    (g.W.Write.contents c.args.writer.now) (g.W.Write.contents c.loop-rest.writer)
    (g.W.Write.contents c.play_line.new.writer)
    c.loop-rest.invariant.0 c.first_line.ensures.line c.requires.short c.in-Err.ensures.ends

pub returns-in-Err-clause-cause : goal.returns-in-Err-clause-cause
returns-in-Err-clause-cause g c =
    let P : Streams → Type 0 = λ streams. HasCause c.in-Err.ending streams c.play_line.new.streams in
    subst P c.loop-rest.invariant.2 c.in-Err.ensures.cause

pub returns-clause-wrote : goal.returns-clause-wrote
returns-clause-wrote g c =
    ran (state_of c.args.engine) c.args.text.now c.loop-rest.rest.now [] (state_of c.loop-rest.engine)
    (g.W.Write.contents c.args.writer.now) (g.W.Write.contents c.loop-rest.writer)
    c.loop-rest.invariant.0 (lines-none c.loop-rest.rest.now c.loop-rest-test.ensures) c.requires.short

pub returns-clause-cause : goal.returns-clause-cause
returns-clause-cause g c = c.loop-rest.invariant.2
