use Rattle.std.proofs.Common.{◌∙◌, ap}
use Rattle.cue_relay.specs.Reading.{read}
use Rattle.std.proofs.lemmas.Result.{IfOk-weaker}
use Rattle.cue_relay.proofs.SaidLemmas.{fit-is, found-is, none-is}
use Rattle.cue_relay.proofs.status.reading.read.Goals as goal

pub returns-clause-found : goal.returns-clause-found
returns-clause-found c =
    IfOk-weaker c.status_in.result _ _ (λ o h. found-is c.args.text.now o (h ∙ ap read c.as_bytes.ensures.value)) c.status_in.ensures

pub returns-clause-fit : goal.returns-clause-fit
returns-clause-fit c = IfOk-weaker c.status_in.result _ _ (λ o h. fit-is c.args.text.now o (h ∙ ap read c.as_bytes.ensures.value)) c.status_in.ensures

pub returns-clause-none : goal.returns-clause-none
returns-clause-none c = IfOk-weaker c.status_in.result _ _ (λ o h. none-is c.args.text.now o (h ∙ ap read c.as_bytes.ensures.value)) c.status_in.ensures
