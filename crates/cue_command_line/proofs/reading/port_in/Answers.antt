use Rattle.std.proofs.Common.{codes, arith, ◌≡◌, Some, sym, ◌∙◌}
use Rattle.std.specs.Str.Parse.{ParsesUnsigned, ExplainsUnsignedError, HasUnsignedDigitsIfOk}
use Rattle.clap.specs.Words.{found_of}
use Rattle.cue_command_line.proofs.LineLemmas.{number_in, number_read}
use Rattle.cue_command_line.proofs.reading.port_in.Goals.{in_default-via-in-Some+else-port-ge1, in_default-via-in_default}
use Rattle.cue_command_line.proofs.reading.port_in.Goals as goal

pub returns-in-Some-clause-port : goal.returns-in-Some-clause-port
returns-in-Some-clause-port c =
    let read = number_in (λ bs r. ParsesUnsigned 16 10 bs r × ExplainsUnsignedError 10 bs r
    × HasUnsignedDigitsIfOk bs r) 16 (found_of c.args.found.now) (codes "port") c.get_one.result c.in-Some.port
    (λ t x g. g.0) c.get_one.ensures.none c.get_one.ensures.value c.in-Some.is in
    (read.0, omega arith, read.1)

pub returns-in_default-clause-usage : goal.returns-in_default-clause-usage
returns-in_default-clause-usage c = λ h port is.
    let read : c.get_one.result ≡ Some port =
    number_read (λ bs r. ParsesUnsigned 16 10 bs r × ExplainsUnsignedError 10 bs r × HasUnsignedDigitsIfOk bs r) 16
    (found_of c.args.found.now) (codes "port") c.get_one.result port
    (λ t x g. g.0) c.get_one.ensures.value is.0 is.2 in
    elim c.in_default.branch [
      | in_default-via-in-Some+else-port-ge1 w ↦
          let same : Some w.in-Some.port ≡ Some port = sym w.in-Some.is ∙ read in
          let low = w.if-port-ge1.false in
          let is_port : w.in-Some.port ≡ port = cc in
          absurd (omega (arith, is.1))
      | in_default-via-in_default w ↦ absurd (w.in_default.not-Some port read)
    ]
