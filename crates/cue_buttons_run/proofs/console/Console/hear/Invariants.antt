use Rattle.cue_buttons_run.proofs.PlayingLemmas.{GivenFirst}
use Rattle.cue_buttons_run.proofs.console.Console.hear.Given as goal

-- the first so many bytes were given
abbrev pub invariant-loop-byte : goal.invariant-loop-byte
invariant-loop-byte g l =
    GivenFirst l.byte-index l.bytes l.fn.self.panel.player l.self.panel.player l.fn.self.desk.station
    l.self.desk.station
    l.fn.self.desk.view l.self.desk.view
