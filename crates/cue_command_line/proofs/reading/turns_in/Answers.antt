use Rattle.std.proofs.Common.{codes, ◌≡◌, Some, None, sym, ◌∙◌}
use Rattle.std.specs.Str.Parse.{ParsesUnsigned, ExplainsUnsignedError, HasUnsignedDigitsIfOk}
use Rattle.clap.specs.Words.{found_of}
use Rattle.cue_command_line.proofs.LineLemmas.{number_in, number_read}
use Rattle.cue_command_line.proofs.reading.turns_in.Goals as goal

pub returns-in-Some-clause-turns : goal.returns-in-Some-clause-turns
returns-in-Some-clause-turns c =
    number_in (λ bs r. ParsesUnsigned 64 10 bs r × ExplainsUnsignedError 10 bs r × HasUnsignedDigitsIfOk bs r) 64
    (found_of c.args.found.now) (codes "turns") c.get_one.result c.in-Some.turns
    (λ t x g. g.0) c.get_one.ensures.none c.get_one.ensures.value c.in-Some.is

pub returns-in-None-clause-usage : goal.returns-in-None-clause-usage
returns-in-None-clause-usage c = λ h turns is.
    let read : c.get_one.result ≡ Some turns =
    number_read (λ bs r. ParsesUnsigned 64 10 bs r × ExplainsUnsignedError 10 bs r × HasUnsignedDigitsIfOk bs r) 64
    (found_of c.args.found.now) (codes "turns") c.get_one.result turns
    (λ t x g. g.0) c.get_one.ensures.value is.0 is.1 in
    let none : c.get_one.result ≡ None = c.in-None.is in
    let bad : None ≡ Some turns = sym none ∙ read in
    cc
