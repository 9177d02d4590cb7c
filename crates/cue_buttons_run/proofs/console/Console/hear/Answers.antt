use Rattle.std.proofs.Common.{arith, get_or, refl}
use Rattle.cue_buttons_run.proofs.PlayingLemmas.{first_cut, first_next}
use Rattle.cue_buttons_run.proofs.console.Console.hear.Goals as goal

pub returns-in_err-hear_byte : goal.returns-in_err-hear_byte
returns-in_err-hear_byte g c =
    record {
      gives = first_cut c.from_residual.result c.args.bytes.now c.loop-byte.byte-index (get_or c.args.bytes.now
          c.loop-byte.byte-index 0)
          c.args.self.now.panel.player c.loop-byte.self.panel.player c.hear_byte.new.self.panel.player
          c.args.self.now.desk.station
          c.loop-byte.self.desk.station c.hear_byte.new.self.desk.station c.args.self.now.desk.view
          c.loop-byte.self.desk.view c.hear_byte.new.self.desk.view c.from_residual.ensures.0 (omega arith) refl
          c.loop-byte.invariant c.in_err-hear_byte.ensures.gives;
    }

pub loop-byte-preserved : goal.loop-byte-preserved
loop-byte-preserved g c =
    first_next c.args.bytes.now c.loop-byte.byte-index (get_or c.args.bytes.now c.loop-byte.byte-index 0) 0
    c.args.self.now.panel.player c.loop-byte.self.panel.player c.hear_byte.new.self.panel.player
    c.args.self.now.desk.station
    c.loop-byte.self.desk.station c.hear_byte.new.self.desk.station c.args.self.now.desk.view
    c.loop-byte.self.desk.view c.hear_byte.new.self.desk.view (omega arith) refl c.loop-byte.invariant
    c.in_ok-hear_byte.ensures.gives
