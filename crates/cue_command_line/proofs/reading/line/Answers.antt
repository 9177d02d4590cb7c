use Rattle.std.proofs.Common.{◌≡◌, ◌∙◌, [], ap, sym, subst, refl, true, ◌⊎◌, inl, inr, Some, rules}
use Rattle.std.specs.Prelude.{map, string_bytes}
use Rattle.clap.specs.Words.{App, IsAmong, app_of, fault_of, kind_of, is_simple_and_free, subcommand_of, rows_of}
use Rattle.clap.specs.Words.{found_of}
use Rattle.clap.specs.declared.error.kind.ErrorKind.TheVariants.{OutOfMemory}
use Rattle.clap.proofs.OnLiterals.{clap_on_literals}
use Rattle.cue_command_line.specs.Lines.{HasPortZero, cuectl_app}
use Rattle.cue_command_line.specs.declared.words.LineFault.TheVariants.{Usage}
use Rattle.cue_command_line.proofs.CommandLemmas.{but_port_zero}
use Rattle.cue_command_line.proofs.LineLemmas.{on_ok, asks, refused}
use Rattle.cue_command_line.proofs.reading.line.Goals as goal

is_plain : is_simple_and_free cuectl_app ≡ true
unfolding clap_on_literals
is_plain = refl

pub returns-in-Some-clause-taken : goal.returns-in-Some-clause-taken
returns-in-Some-clause-taken c =
    let is : app_of c.in_ok-command.command ≡ cuectl_app = c.in_ok-command.ensures in
    let none = c.in-Ok.ensures.kinds (ap is_simple_and_free is ∙ is_plain) in
    on_ok c.line_in.result (ap (λ (a : App). fault_of a (map string_bytes c.args.words.now)) (sym is) ∙ none)

pub returns-clause-help : goal.returns-clause-help
returns-clause-help c =
    let is : app_of c.in_ok-command.command ≡ cuectl_app = c.in_ok-command.ensures in
    let has = c.in-Err.ensures.kinds (ap is_simple_and_free is ∙ is_plain) in
    asks (fault_of cuectl_app (map string_bytes c.args.words.now)) (kind_of c.in-Err.error) c.fault_of.result
    c.fault_of.ensures
    (subst (λ (a : App). (kind_of c.in-Err.error ≡ OutOfMemory)
    ⊎ IsAmong (kind_of c.in-Err.error) (fault_of a (map string_bytes c.args.words.now))) is has)

pub returns-clause-usage : goal.returns-clause-usage
returns-clause-usage c = λ h.
    let is : app_of c.in_ok-command.command ≡ cuectl_app = c.in_ok-command.ensures in
    let has = c.in-Err.ensures.kinds (ap is_simple_and_free is ∙ is_plain) in
    let usage : c.fault_of.result ≡ Usage = cc in
    inl (refused (fault_of cuectl_app (map string_bytes c.args.words.now)) (kind_of c.in-Err.error) c.fault_of.result
    c.fault_of.ensures
    (subst (λ (a : App). (kind_of c.in-Err.error ≡ OutOfMemory)
    ⊎ IsAmong (kind_of c.in-Err.error) (fault_of a (map string_bytes c.args.words.now))) is has) usage)

pub returns-in-Some-clause-usage : goal.returns-in-Some-clause-usage
returns-in-Some-clause-usage c = λ h.
    let is : app_of c.in_ok-command.command ≡ cuectl_app = c.in_ok-command.ensures in
    let none = c.in-Ok.ensures.kinds (ap is_simple_and_free is ∙ is_plain) in
    let words = map string_bytes c.args.words.now in
    let taken : fault_of cuectl_app words ≡ [] = ap (λ (a : App). fault_of a words) (sym is) ∙ none in
    let matched : subcommand_of cuectl_app words ≡ Some (c.in-Some.name.now, rows_of (found_of c.in-Some.found.now)) =
    search rules in
    inr (inr (subst HasPortZero (sym matched)
    (but_port_zero words (c.in-Some.name.now, rows_of (found_of c.in-Some.found.now)) taken matched
    (c.line_in.ensures.usage h))))
