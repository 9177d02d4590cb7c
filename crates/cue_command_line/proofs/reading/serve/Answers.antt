use Rattle.std.proofs.Common.{ap₂, codes, ◌≡◌, ◌∙◌}
use Rattle.std.proofs.lemmas.Result.{IfOk-weaker}
use Rattle.clap.specs.Words.{app_of, new_app, with_rule}
use Rattle.cue_command_line.proofs.reading.serve.Goals as goal

pub returns-clause-app : goal.returns-clause-app
returns-clause-app c =
    let bare : app_of c.about.result ≡ new_app (codes "serve") = rw (c.about.ensures) c.new.ensures.app in
    let dir = c.in_ok-arg.ensures.shape c.dir.ensures.local ∙ ap₂ with_rule bare c.dir.ensures.rule in
    let port = c.in_ok-arg-2.ensures.shape c.port.ensures.local ∙ ap₂ with_rule dir c.port.ensures.rule in
    IfOk-weaker c.arg-3.result _ _ (λ r h. h.shape c.turns.ensures.local ∙ ap₂ with_rule port c.turns.ensures.rule)
    c.arg-3.ensures

pub returns-clause-fits : goal.returns-clause-fits
returns-clause-fits c =
    IfOk-weaker c.arg-3.result _ _
    (λ r h old new adds. adds.shape
    (rw (
      c.in_ok-arg-2.ensures.globals,
      c.in_ok-arg.ensures.globals,
      c.about.ensures,
      c.new.ensures.local,
      c.dir.ensures.local,
      c.port.ensures.local,
      c.turns.ensures.local,
    ) at h.globals))
    c.arg-3.ensures
