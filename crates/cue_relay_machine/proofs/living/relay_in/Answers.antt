use Rattle.std.proofs.Common.{[]}
use Rattle.cue_relay_machine.proofs.LifeLemmas.{life_hands}
use Rattle.cue_relay_machine.proofs.PastLemmas.{new_waits, turns_copy}
use Rattle.cue_relay_machine.proofs.living.relay_in.Goals as goal

pub returns : goal.returns
returns g c =
    let life = c.live.ensures.lived in
    let m = c.args.machine.now in
    record {
      life = life;
      handed = life_hands m life.lived.taken c.live.new.machine c.requires life.lived.turn_by_turn;
      copied = turns_copy m [] life.lived.taken c.live.new.machine (new_waits m c.requires) life.lived.turn_by_turn;
    }
