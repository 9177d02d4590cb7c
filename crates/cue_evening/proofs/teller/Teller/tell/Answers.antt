use Rattle.std.specs.Option.{unwrap_or}
use Rattle.cue_evening.specs.Looks.{handed, held_between, held_entry, looks, writes}
use Rattle.cue_evening.proofs.LogLemmas.{does_then}
use Rattle.cue_evening.proofs.teller.Teller.tell.Goals as goal

pub returns-clause-log : goal.returns-clause-log
returns-clause-log g c =
    let time = g.P.Paper.time c.turn.new.self.page in (
      time,
      does_then (writes (held_entry (held_between (g.P.Paper.time c.args.self.now.writer.page) time)))
          (looks c.args.self.now.last c.args.state.now c.args.batch.now (handed c.args.sent) (unwrap_or time 0)) _ _ _
          c.turn.ensures c.look.ensures,
    )
