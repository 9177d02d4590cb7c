-- The cue that follows is the one at the next index.
use Rattle.std.proofs.Common.{ℕ, List, sym, ap, ◌∙◌}
use Rattle.std.specs.Option.{option_map}
use Rattle.cue_show.specs.Show.{following}
use Rattle.cue_show.specs.declared.part.Part.{Part}
use Rattle.cue_show.proofs.ShowLemmas.{cue_after-found, cue_after-missing}
use Rattle.cue_show.proofs.show.Show.following.Goals as goal

pub returns-in_err-index-clause-next : goal.returns-in_err-index-clause-next
returns-in_err-index-clause-next c =
    c.from_residual.ensures
    ∙ sym (cue_after-missing c.args.cue c.self.inside.cues.entries c.in_err-index.ensures.index)
    ∙ ap (λ s. following s c.args.cue) c.self.view_is

pub returns-in_err-next-clause-next : goal.returns-in_err-next-clause-next
returns-in_err-next-clause-next c =
    let at = cue_after-found c.args.cue c.self.inside.cues.entries c.in_ok-index.index c.in_ok-index.ensures.index in
    c.from_residual-in_err-next.ensures
    ∙ ap (option_map (λ (e : List ℕ × List Part). e.0)) c.in_err-next.ensures.entry
    ∙ sym at
    ∙ ap (λ s. following s c.args.cue) c.self.view_is

pub returns-clause-next : goal.returns-clause-next
returns-clause-next c =
    let at = cue_after-found c.args.cue c.self.inside.cues.entries c.in_ok-index.index c.in_ok-index.ensures.index in
    ap (option_map (λ (e : List ℕ × List Part). e.0)) c.in_ok-next.ensures.entry
    ∙ sym at
    ∙ ap (λ s. following s c.args.cue) c.self.view_is
