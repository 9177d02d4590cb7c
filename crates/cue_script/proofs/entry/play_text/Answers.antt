use Rattle.std.specs.Prelude.{◌≡◌, []}
use Rattle.cue_keeper.specs.declared.fault.StoreFault.{StoreFault}
use Rattle.cue_keeper.specs.Opening.{IsOfForming}
use Rattle.std.proofs.Common.{Some, ap, subst}
use Rattle.cue_core.specs.State.{ShowState, empty_state}
use Rattle.cue_script.specs.Script.{Wrote}
use Rattle.cue_script.proofs.ScriptLemmas.{not_formed, no_area, comes_of_recovery}
use Rattle.cue_script.proofs.entry.play_text.Goals as goal

pub returns-in-Ok-clause-wrote : goal.returns-in-Ok-clause-wrote
returns-in-Ok-clause-wrote g c =
    let P : ShowState → Type 0 =
    λ s. Wrote c.play_lines.result s c.args.text.now [] (g.W.Write.contents c.args.writer.now)
    (g.W.Write.contents c.play_lines.new.writer) in
    subst P c.in-Ok.ensures.first.kept.state c.play_lines.ensures.wrote

pub returns-clause-wrote : goal.returns-clause-wrote
returns-clause-wrote g c =
    let forms = c.in-Err.ensures.forms in
    let never = λ (f : StoreFault) (is : c.in-Err.fault ≡ f). subst IsOfForming is forms.no_other in
    let empty : c.in-Err.fault ≡ StoreFault.NotEmpty
    → ⊥ = λ is. no_area _ _ c.new.ensures.held c.new-2.ensures.held (forms.pair.not_empty tt tt (ap Some is)) in
    not_formed c.in-Err.fault empty_state c.args.text.now (g.W.Write.contents c.args.writer.now) c.requires
    (comes_of_recovery c.in-Err.fault empty (never StoreFault.Unformed) (never StoreFault.Damaged)
    (never StoreFault.Version) (never StoreFault.Malformed) (never StoreFault.Full) (never StoreFault.Exhausted))
