use Rattle.cue_engine.proofs.LifeLemmas.{rests_closed}
use Rattle.cue_engine.proofs.laws.lives.close.Goals as goal

pub returns : goal.returns
returns g c = record {
  stopped = λ sound life. rests_closed g.D.Disk.held c.close.result.0 c.close.result.1
      (c.close.ensures.stands sound.0.0 sound.0.1 sound.1);
}
