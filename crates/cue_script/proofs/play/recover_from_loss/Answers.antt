use Rattle.std.proofs.Common.{◌≤◌, ◌+◌, ℕ, subst}
use Rattle.cue_engine.specs.Observed.{keeper_of}
use Rattle.cue_keeper.specs.Observed.{generation_of}
use Rattle.cue_script.proofs.ScriptLemmas.{closed_by_recovery, closed_sends, comes_of_recovery, has_generation}
use Rattle.cue_script.proofs.play.recover_from_loss.Goals as goal

pub returns-in-Ok-recover-clause-after : goal.returns-in-Ok-recover-clause-after
returns-in-Ok-recover-clause-after c = record {
  works = c.in-Ok-recover.ensures.recovered.owes.works;
  is = closed_by_recovery _ _ _ _ c.in-Ok.ensures.stand (c.in-Ok-recover.ensures.stood tt tt);
  owes = closed_sends _ _ _ _ _ c.in-Ok.ensures.stand (c.in-Ok-recover.ensures.stood tt tt)
      c.in-Ok-recover.ensures.recovered.owes.queue;
}

pub returns-in-Ok-recover-clause-turned : goal.returns-in-Ok-recover-clause-turned
returns-in-Ok-recover-clause-turned c =
    let read = c.in-Ok.ensures.reads in
    subst (λ (n : ℕ). generation_of (keeper_of c.in-Ok-recover.next) ≤ n + 1) read.same
    (c.in-Ok-recover.ensures.recovered.turned tt tt read.area read.reads)

pub returns-in-Ok-clause-failure : goal.returns-in-Ok-clause-failure
returns-in-Ok-clause-failure c =
    let refused = c.in-Err-recover.ensures.refused in
    let readable = refused.readable tt tt _ c.in-Ok.ensures.stand in
    let other = refused.no_other in
    let why = refused.cause tt tt in
    comes_of_recovery c.in-Err-recover.fault other.0 readable.0 readable.1 readable.2 readable.3 other.1
    (λ is. has_generation _ _ _ c.in-Ok.ensures.reads c.requires.generation (rw is at why))
