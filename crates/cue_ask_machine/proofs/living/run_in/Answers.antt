use Rattle.cue_ask_machine.proofs.LifeLemmas.{goes, sent, stands}
use Rattle.cue_ask_machine.proofs.living.run_in.Goals as goal

pub returns : goal.returns
returns g c =
    let life = c.live.ensures.lived in
    let m = c.args.machine.now in
    let then = c.live.new.machine in
    let stood = goes m life.lived.taken then c.requires life.lived.turn_by_turn in
    record {
      life = life;
      sent = sent m life.lived.taken then stood;
      stands = stands m life.lived.taken then stood;
    }
