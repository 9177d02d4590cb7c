use Rattle.cue_station.specs.declared.heard.Heard.TheVariants as heard
use Rattle.cue_desk_run.proofs.WorkLemmas.{untouched}
use Rattle.cue_desk_run.proofs.desk.first_step.Goals as goal

-- src/desk.rt
pub returns-clause-untouched : goal.returns-clause-untouched
returns-clause-untouched g c =
    untouched c.args.station.now c.step.new.self (record { at = 0; wall = c.wall_time.result; heard = heard.Tick })
    c.in_ok-step.step c.requires tt c.in_ok-step.ensures.keeps

pub returns-clause-first : goal.returns-clause-first
returns-clause-first g c =
    record {
      input = record { at = 0; wall = c.wall_time.result; heard = heard.Tick };
      unpressed = (tt, tt);
      keeps = c.in_ok-step.ensures.keeps;
    }
