use Rattle.std.proofs.Common.{ap₂, ◌≡◌, ◌∙◌}
use Rattle.std.proofs.lemmas.Result.{IfOk-weaker}
use Rattle.clap.specs.Words.{app_of, new_app, with_rule}
use Rattle.cue_command_line.proofs.reading.over_dir.Goals as goal

pub returns-clause-app : goal.returns-clause-app
returns-clause-app c =
    let bare : app_of c.about.result ≡ new_app c.args.name.now = rw (c.about.ensures) c.new.ensures.app in
    IfOk-weaker c.arg.result _ _ (λ r h. h.shape c.dir.ensures.local ∙ ap₂ with_rule bare c.dir.ensures.rule)
    c.arg.ensures

pub returns-clause-fits : goal.returns-clause-fits
returns-clause-fits c =
    IfOk-weaker c.arg.result _ _
    (λ r h old new adds. adds.shape (rw (c.about.ensures, c.new.ensures.local, c.dir.ensures.local) at h.globals))
    c.arg.ensures
