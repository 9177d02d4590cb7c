use Rattle.std.proofs.Common.{◌∙◌, ap, ◌++◌, filter, map}
use Rattle.std.specs.List.{filter_map}
use Rattle.cue_view.specs.declared.button.Button.TheVariants as button
use Rattle.cue_station.specs.Lighting.{may_in}
use Rattle.cue_station.specs.Showing.{since_in}
use Rattle.cue_station.specs.Smaller.{failure_of, moves_of}
use Rattle.cue_station.proofs.MoveLemmas.{lit-apart}
use Rattle.cue_station.proofs.lit.lit_of.Goals as goal

-- src/lit.rt
pub returns : goal.returns
returns c =
    let f = c.args.footing in
    let copy = c.args.copy.now in
    let p = may_in f (since_in c.args.seen.now) copy in
    let cues = c.args.cues.now in
    let seen = map button.Seen (filter_map failure_of c.args.alarms.now) in
    c.in_ok-push_failures.ensures
    ∙ ap (λ l. l ++ seen) c.in_ok-push_moves.ensures
    ∙ ap (λ l. (l ++ moves_of f cues) ++ seen)
    (c.in_ok-lit.ensures ∙ ap (filter p) (c.deref.ensures.value ∙ c.in_ok-buttons.ensures))
    ∙ lit-apart f (since_in c.args.seen.now) copy cues c.args.alarms.now c.requires
