use Rattle.std.proofs.Common.{◌∙◌}
use Rattle.cue_show.specs.Show.{ShowLists}
use Rattle.cue_show.proofs.ChangeLemmas.{found_port}
use Rattle.cue_show.proofs.show.Show.port.Goals as goal

pub returns-clause-entry : goal.returns-clause-entry
returns-clause-entry c =
    let s : ShowLists = record {
      devices = c.self.inside.devices.entries;
      cues = c.self.inside.cues.entries;
      place =
          c.self.inside.place;
    } in
    found_port s c.args.device c.copied.result c.self.invariant (c.copied.ensures ∙ c.get.ensures.value)
