use Rattle.std.proofs.Common.{ap, ap₂, true, ◌≡◌, ◌∙◌}
use Rattle.std.proofs.lemmas.Result.{IfOk-weaker}
use Rattle.clap.specs.Words.{App, app_of, with_subcommand}
use Rattle.cue_command_line.specs.Lines.{script_app, bare_app}
use Rattle.cue_command_line.proofs.reading.cuectl.Goals as goal

abbrev with_version : App → App
with_version a = record a { top = record a.top { has_version = true } }

pub returns : goal.returns
returns c =
    let bare_is : app_of c.about.result ≡ bare_app =
    rw (c.about.ensures, c.version.ensures) (ap with_version c.new.ensures.app) in
    let script_is : app_of c.about-2.result ≡ script_app = rw (c.about-2.ensures) c.new-2.ensures.app in
    let top : App → _ = λ (a : App). a.top in
    let one = c.in_ok-over_dir.ensures.fits _ _ c.in_ok-subcommand.ensures
    ∙ ap₂ with_subcommand bare_is (ap top c.in_ok-over_dir.ensures.app) in
    let two = c.in_ok-serve.ensures.fits _ _ c.in_ok-subcommand-2.ensures
    ∙ ap₂ with_subcommand one (ap top c.in_ok-serve.ensures.app) in
    let three = c.in_ok-over_dir-2.ensures.fits _ _ c.in_ok-subcommand-3.ensures
    ∙ ap₂ with_subcommand two (ap top c.in_ok-over_dir-2.ensures.app) in
    IfOk-weaker c.subcommand-4.result _ _ (λ r h. h.shape (rw (c.about-2.ensures) c.new-2.ensures.local)
    ∙ ap₂ with_subcommand three (ap top script_is)) c.subcommand-4.ensures
