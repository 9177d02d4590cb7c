use Rattle.std.proofs.Common.{◌≡◌, map, take}
use Rattle.serde_json.specs.View.{view}
use Rattle.cue_request.specs.Lit.{button_data}
use Rattle.cue_request.proofs.lit.lit_value.Given as goal

-- those so far were put there
abbrev pub invariant-loop-button : goal.invariant-loop-button
invariant-loop-button l = map view l.lit.items ≡ map button_data (take l.button-index l.buttons)
